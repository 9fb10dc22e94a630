-- An object is rebuilt in a larger shape: open it, move its children one by one (`Moves.transfer`), close it.
use Rattle.std.proofs.Common.{◌≡◌, ℕ, zero, suc, ◌+◌, ◌<◌, ◌≤◌, ◌⊎◌, List, ap, ◌∙◌, subst, ap₂, inl, inr, ⊎_elim, arith}
use Rattle.std.proofs.lemmas.Bool.{cases_lt}
use Rattle.tree.specs.Value.{Shape, Value, null, object, rows, pointers, slot, Step, Goes, value_at, put}
use Rattle.tree.specs.Shows.{Memory, Landing, land, Shows, total, totals, reach, walk, Sound}
use Rattle.tree.specs.Edits.{outer, Laid, taken, fixed, slot_at, Opened, Closed}
use Rattle.tree.proofs.Count.{total_ext, total_zero, totals_ext, totals_term}
use Rattle.tree.proofs.Frame.{Agree, frame, frame_reach, slot_within}
use Rattle.tree.proofs.Context.{kids, split, reached}
use Rattle.tree.proofs.Replace.{once_parts, slot_outer, outer_inside, reach_inside, replace}

-- ## Sums over a larger range

total_widen : (n m : ℕ) (f : ℕ → ℕ) → n ≤ m → ((i : ℕ) → n ≤ i → i < m → f i ≡ 0) → total m f ≡ total n f
unfolding total
total_widen n zero f h e = let z : n ≡ 0 = omega arith in rw z
total_widen n (suc m) f h e =
    ⊎_elim
    (λ (d : n < suc m). omega (arith, total_widen n m f (omega arith) (λ i k l. e i k (omega arith)), e m (omega arith) (omega arith)))
    (λ (d : suc m ≤ n). let z : n ≡ suc m = omega arith in rw z)
    (cases_lt n (suc m))

pub totals_widen : (r p r' p' : ℕ) (f : ℕ → ℕ → ℕ) → r ≤ r' → p ≤ p' →
    ((i j : ℕ) → i < r' → j < p' → (r ≤ i) ⊎ (p ≤ j) → f i j ≡ 0) → totals r' p' f ≡ totals r p f
totals_widen r p r' p' f hr hp e =
    total_widen r r' (λ i. total p' (f i)) hr (λ i h l. total_zero p' (f i) (λ j k. e i j l k (inl h)))
    ∙ total_ext r (λ i. total p' (f i)) (λ i. total p (f i)) (λ i l. total_widen p p' (f i) hp (λ j h k. e i j (omega arith) k (inr h)))

-- slots named in another way
pub laid_ext : (H : Memory) (a : ℕ → ℕ) (base : ℕ → ℕ → ℕ) (r p : ℕ) (at to : ℕ → ℕ → ℕ × ℕ) (kid : ℕ → ℕ → Value) →
    ((i j : ℕ) → i < r → j < p → to i j ≡ at i j) → Laid H a base r p at kid → Laid H a base r p to kid
laid_ext H a base r p at to kid e ok =
    let sums : (x y : ℕ) → totals r p (λ i j. reach H (to i j).0 (to i j).1 (kid i j) x y) ≡ totals r p (λ i j. reach H (at i j).0 (at i j).1 (kid i j) x y) =
    λ x y.
    totals_ext r p (λ i j. reach H (to i j).0 (to i j).1 (kid i j) x y) (λ i j. reach H (at i j).0 (at i j).1 (kid i j) x y)
    (λ i j hi hj. ap (λ z. reach H z.0 z.1 (kid i j) x y) (e i j hi hj)) in
    record {
      shown = λ i j hi hj. rw (e i j hi hj) (ok.shown i j hi hj);
      slots = λ i j hi hj. rw (e i j hi hj) (ok.slots i j hi hj);
      inside = ok.inside;
      once = λ x y. omega (arith, sums x y, ok.once x y);
      clean = λ x y h. ok.clean x y (omega (arith, sums x y, h));
    }

module _ (H : Memory) (a : ℕ → ℕ) (v : Value) (p : List Step) (sh : Shape) (dat : ℕ → ℕ → ℕ) (kid : ℕ → ℕ → Value) (go : Goes v p)
    (ok : Sound H a v) (e : value_at v p ≡ object sh dat kid) (l : Landing) (sh' : Shape) where
  abbrev g : ℕ
  g = (walk H 0 0 v p).0

  abbrev w : ℕ
  w = (walk H 0 0 v p).1

  shown_here : Shows H a g w (object sh dat kid)
  shown_here = subst (λ z. Shows H a g w z) e (reached H a p v 0 0 go ok.shown)

  parts : (x y : ℕ) → outer H v p x y + reach H g w (object sh dat kid) x y ≤ 1
  parts x y = subst (λ z. outer H v p x y + reach H g w z x y ≤ 1) e (once_parts H H a a v p go ok x y)

  used_inside : (x y : ℕ) → 1 ≤ outer H v p x y + reach H g w (object sh dat kid) x y → y < a x
  used_inside x y h =
      ⊎_elim
      (λ (d : 0 < outer H v p x y). outer_inside H H a a v p go ok x y d)
      (λ (d : outer H v p x y ≤ 0). reach_inside H a (object sh dat kid) g w shown_here x y (omega arith))
      (cases_lt 0 (outer H v p x y))

  pub open_object : (H' : Memory) (a' : ℕ → ℕ) → Opened H H' a a' l sh' →
      Laid H' a' (fixed H v p sh l sh') (rows sh) (pointers sh) (slot_at (land H g w) sh) kid
  open_object H' a' c =
      let old : (x y : ℕ) → 1 ≤ outer H v p x y + reach H g w (object sh dat kid) x y → taken l sh' x y ≡ 0 =
      λ x y h.
      ⊎_elim
      (λ (d : 0 < taken l sh' x y). absurd (omega (arith, c.new x y d, used_inside x y h)))
      (λ (d : taken l sh' x y ≤ 0). omega arith)
      (cases_lt 0 (taken l sh' x y)) in
      let same : (x y : ℕ) → 1 ≤ reach H g w (object sh dat kid) x y → H' x y ≡ H x y = λ x y h. c.kept x y (old x y (omega arith)) in
      let agree : (i j : ℕ) → i < rows sh → j < pointers sh → Agree H H' (land H g w).seg ((land H g w).pos + slot sh i j) (kid i j) =
      λ i j hi hj. (
        same (land H g w).seg ((land H g w).pos + slot sh i j) (omega (arith, slot_within (land H g w).seg (land H g w).pos (land H g w).said sh i j hi hj)),
        λ x y h. same x y (omega (arith, totals_term (rows sh) (pointers sh) (kids H g w sh kid x y) i j hi hj)),
      ) in
      let sums : (x y : ℕ) → totals (rows sh) (pointers sh) (λ i j. reach H' (land H g w).seg ((land H g w).pos + slot sh i j) (kid i j) x y) ≡ totals (rows sh) (pointers sh) (kids H g w sh kid x y) =
      λ x y.
      totals_ext (rows sh) (pointers sh) (λ i j. reach H' (land H g w).seg ((land H g w).pos + slot sh i j) (kid i j) x y) (kids H g w sh kid x y)
      (λ i j hi hj. frame_reach H H' (kid i j) (land H g w).seg ((land H g w).pos + slot sh i j) (agree i j hi hj) x y) in
      record {
        shown = λ i j hi hj.
            frame H H' a a' c.grown (kid i j) (land H g w).seg ((land H g w).pos + slot sh i j) (agree i j hi hj) (shown_here.2 i j hi hj);
        slots = λ i j hi hj. omega (arith, slot_within (land H g w).seg (land H g w).pos (land H g w).said sh i j hi hj);
        inside = λ x y h.
            ⊎_elim
            (λ (d : 0 < taken l sh' x y). c.inside x y d)
            (λ (d : taken l sh' x y ≤ 0). omega (arith, c.grown x, used_inside x y (omega arith)))
            (cases_lt 0 (taken l sh' x y));
        once = λ x y.
            ⊎_elim
            (λ (d : 0 < outer H v p x y + reach H g w (object sh dat kid) x y). omega (arith, old x y d, parts x y, sums x y))
            (λ (d : outer H v p x y + reach H g w (object sh dat kid) x y ≤ 0). omega (arith, c.single x y, sums x y))
            (cases_lt 0 (outer H v p x y + reach H g w (object sh dat kid) x y));
        clean = λ x y h.
            c.kept x y (omega arith) ∙
            ok.clean x y (omega (arith, h, sums x y, split H p v 0 0 go x y, ap (λ z. reach H g w z x y) e));
      }

  module _ (H₁ H' : Memory) (a' : ℕ → ℕ) (laid : Laid H₁ a' (fixed H v p sh l sh') (rows sh) (pointers sh) (slot_at l sh') kid) (c : Closed H a v p sh dat l sh' H₁ H' a') where
    -- a word that is not counted around is not the slot
    apart : (x y : ℕ) → outer H v p x y ≡ 0 → x ≡ g → y ≡ w → ⊥
    apart x y h q k = omega (arith, h, ap₂ (outer H v p) q k, slot_outer H H a a v p go ok)

    moved_same : (i j : ℕ) → i < rows sh → j < pointers sh → Agree H₁ H' l.seg (l.pos + slot sh' i j) (kid i j)
    moved_same i j hi hj =
        let hi' : i < rows sh' = omega (arith, c.more_rows) in
        let hj' : j < pointers sh' = omega (arith, c.more_pointers) in
        let o = laid.once l.seg (l.pos + slot sh' i j) in
        let i1 = slot_within l.seg l.pos l.said sh' i j hi' hj' in (
          c.kept l.seg (l.pos + slot sh' i j) (omega (arith, o, i1)) (apart l.seg (l.pos + slot sh' i j) (omega (arith, o, i1))),
          λ x y h.
              let o' = laid.once x y in
              let t = totals_term (rows sh) (pointers sh) (λ i j. reach H₁ l.seg (l.pos + slot sh' i j) (kid i j) x y) i j hi hj in
              c.kept x y (omega (arith, o', t, h)) (apart x y (omega (arith, o', t, h))),
        )

    outside : (i j : ℕ) → (rows sh ≤ i) ⊎ (pointers sh ≤ j) → kid i j ≡ null
    outside i j o = shown_here.3 i j o

    new_shows : Shows H' a' g w (object sh' dat kid)
    new_shows = (
      c.paved,
      rw c.leads c.body,
      rw c.leads
          (λ i j hi hj.
          ⊎_elim
          (λ (d : i < rows sh).
          ⊎_elim
          (λ (f : j < pointers sh).
          frame H₁ H' a' a' (λ x. omega arith) (kid i j) l.seg (l.pos + slot sh' i j) (moved_same i j d f) (laid.shown i j d f))
          (λ (f : pointers sh ≤ j). rw (outside i j (inr f)) (c.nulls i j hi hj (inr f)))
          (cases_lt j (pointers sh)))
          (λ (d : rows sh ≤ i). rw (outside i j (inl d)) (c.nulls i j hi hj (inl d)))
          (cases_lt i (rows sh))),
      λ i j o.
          outside i j
          (⊎_elim (λ (d : rows sh' ≤ i). inl (omega (arith, c.more_rows))) (λ (d : pointers sh' ≤ j). inr (omega (arith, c.more_pointers))) o),
    )

    new_reach : (x y : ℕ) → reach H' g w (object sh' dat kid) x y ≡
        taken l sh' x y + totals (rows sh) (pointers sh) (λ i j. reach H₁ l.seg (l.pos + slot sh' i j) (kid i j) x y)
    new_reach x y =
        rw c.leads
        (omega (
          arith,
          totals_widen (rows sh) (pointers sh) (rows sh') (pointers sh') (λ i j. reach H' l.seg (l.pos + slot sh' i j) (kid i j) x y) c.more_rows c.more_pointers
              (λ i j _ _ o. rw (outside i j o)),
          totals_ext (rows sh) (pointers sh) (λ i j. reach H' l.seg (l.pos + slot sh' i j) (kid i j) x y) (λ i j. reach H₁ l.seg (l.pos + slot sh' i j) (kid i j) x y)
              (λ i j hi hj. frame_reach H₁ H' (kid i j) l.seg (l.pos + slot sh' i j) (moved_same i j hi hj) x y),
        ))

    pub close_object : Sound H' a' (put v p (object sh' dat kid))
    close_object =
        replace H H' a a' v p go ok (object sh' dat kid) c.grown
        (λ x y h n. c.kept x y (omega (arith, laid.once x y, h)) n ∙ c.around x y h n)
        new_shows
        (λ x y. omega (arith, new_reach x y, laid.once x y))
        (λ x y h.
        ⊎_elim
        (λ (d : 0 < taken (land H g w) sh x y). c.wiped x y d)
        (λ (d : taken (land H g w) sh x y ≤ 0).
        c.kept x y (omega arith) (apart x y (omega arith)) ∙ laid.clean x y (omega (arith, new_reach x y, h)))
        (cases_lt 0 (taken (land H g w) sh x y)))
