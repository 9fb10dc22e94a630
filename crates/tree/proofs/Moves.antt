-- Children that move one after another.
use Rattle.std.proofs.Common.{◌≡◌, ℕ, ◌+◌, ◌<◌, ◌≤◌, ◌∙◌, subst, ap₂, ⊎_elim, arith}
use Rattle.std.proofs.lemmas.Bool.{cases_lt, cases_eq}
use Rattle.tree.specs.Value.{Value, change}
use Rattle.tree.specs.Shows.{Memory, within, totals, reach}
use Rattle.tree.specs.Edits.{Laid, Transferred}
use Rattle.tree.proofs.Count.{within_le, within_cases, totals_term, totals_change, totals_pos}
use Rattle.tree.proofs.Frame.{Agree, frame, frame_reach}
use Rattle.tree.proofs.Context.{change_here, change_else}
use Rattle.tree.proofs.Replace.{reach_inside}

module _ (H H' : Memory) (a a' : ℕ → ℕ) (base : ℕ → ℕ → ℕ) (r p : ℕ) (at : ℕ → ℕ → ℕ × ℕ) (kid : ℕ → ℕ → Value)
    (ok : Laid H a base r p at kid) (i j : ℕ) (hi : i < r) (hj : j < p) (G W s q n : ℕ) (held : 1 ≤ base G W)
    (unused : (k l : ℕ) → k < r → l < p → (at k l).0 ≡ G → (at k l).1 ≡ W → ⊥)
    (c : Transferred H H' a a' (at i j).0 (at i j).1 G W s q n (kid i j)) where
  abbrev counts : ℕ → ℕ → ℕ → ℕ → ℕ
  counts x y k l = reach H (at k l).0 (at k l).1 (kid k l) x y

  -- an allocated word is not new
  old : (x y : ℕ) → y < a x → within s q n x y ≡ 0
  old x y h =
      ⊎_elim
      (λ (d : (within s q n x y ≡ 1) × (x ≡ s) × (q ≤ y) × (y < q + n)).
      absurd (omega (arith, c.new (omega (arith, d.2, d.3)), d.2, subst (λ z. y < a z) d.1 h)))
      (λ (d : within s q n x y ≡ 0). d)
      (within_cases s q n x y)

  stays : (k l : ℕ) → k < r → l < p → Agree H H' (at k l).0 (at k l).1 (kid k l)
  stays k l hk hl = (
    c.kept (at k l).0 (at k l).1 (old (at k l).0 (at k l).1 (ok.inside (at k l).0 (at k l).1 (ok.slots k l hk hl))) (unused k l hk hl),
    λ x y h.
        c.kept x y (old x y (reach_inside H a (kid k l) (at k l).0 (at k l).1 (ok.shown k l hk hl) x y h))
        (λ e f. omega (
          arith,
          held,
          ok.once G W,
          totals_term r p (counts G W) k l hk hl,
          subst (λ z. 1 ≤ counts z W k l) e (subst (λ z. 1 ≤ counts x z k l) f h),
        )),
  )

  sums : (x y : ℕ) → totals r p (λ k l. reach H' (change at i j (G, W) k l).0 (change at i j (G, W) k l).1 (kid k l) x y) ≡ totals r p (counts x y) + within s q n x y
  sums x y =
      let h : ℕ → ℕ → ℕ = λ k l. reach H' (change at i j (G, W) k l).0 (change at i j (G, W) k l).1 (kid k l) x y in
      let here : h i j ≡ counts x y i j + within s q n x y = rw (change_here at i j (G, W)) (c.reaches x y) in
      omega (
        arith,
        here,
        totals_change r p (counts x y) h i j hi hj
            (λ k l hk hl m.
            rw (change_else at i j (G, W) k l m) (frame_reach H H' (kid k l) (at k l).0 (at k l).1 (stays k l hk hl) x y)),
      )

  counted_inside : (x y : ℕ) → 1 ≤ base x y + totals r p (counts x y) → y < a x
  counted_inside x y h =
      ⊎_elim
      (λ (d : 0 < base x y). ok.inside x y d)
      (λ (d : base x y ≤ 0).
      let (k, l, hk, hl, m) = totals_pos r p (counts x y) (omega arith) in
      reach_inside H a (kid k l) (at k l).0 (at k l).1 (ok.shown k l hk hl) x y m)
      (cases_lt 0 (base x y))

  pub transfer : Laid H' a' base r p (change at i j (G, W)) kid
  transfer = record {
    shown = λ k l hk hl.
        by_place k l
        (λ e f. rw (e, f, change_here at i j (G, W)) c.shown)
        (λ m.
        rw (change_else at i j (G, W) k l m)
        (frame H H' a a' c.grown (kid k l) (at k l).0 (at k l).1 (stays k l hk hl) (ok.shown k l hk hl)));
    slots = λ k l hk hl.
        by_place k l
        (λ e f. rw (e, f, change_here at i j (G, W)) held)
        (λ m. rw (change_else at i j (G, W) k l m) (ok.slots k l hk hl));
    inside = λ x y h. omega (arith, ok.inside x y h, c.grown x);
    once = λ x y.
        ⊎_elim
        (λ (d : 0 < base x y + totals r p (counts x y)).
        omega (arith, sums x y, ok.once x y, old x y (counted_inside x y d)))
        (λ (d : base x y + totals r p (counts x y) ≤ 0). omega (arith, sums x y, within_le s q n x y))
        (cases_lt 0 (base x y + totals r p (counts x y)));
    clean = λ x y h.
        let z = sums x y in
        c.kept x y (omega (arith, h, z))
        (λ e f. omega (arith, h, held, ap₂ base e f))
        ∙ ok.clean x y (omega (arith, h, z));
  }
    where
      by_place : {A : Type 0} (k l : ℕ) → (k ≡ i → l ≡ j → A) → ((k ≡ i → l ≡ j → ⊥) → A) → A
      by_place k l f m =
          ⊎_elim
          (λ (e : k ≡ i). ⊎_elim (λ (d : l ≡ j). f e d) (λ (d : l ≡ j → ⊥). m (λ _. d)) (cases_eq l j))
          (λ (e : k ≡ i → ⊥). m (λ d _. e d))
          (cases_eq k i)
