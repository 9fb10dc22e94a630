-- Edits at a path: clear, fill, a change of numbers.
use Rattle.std.proofs.Common.{◌≡◌, ℕ, ◌+◌, ◌<◌, ◌≤◌, ◌⊎◌, List, refl, ap, ◌∙◌, subst, ap₂, inl, inr, ⊎_elim, arith}
use Rattle.std.proofs.lemmas.Bool.{cases_lt}
use Rattle.tree.specs.Value.{Shape, Value, null, object, rows, pointers, slot, Step, Goes, value_at, put}
use Rattle.tree.specs.Shows.{Memory, land, Shows, reach, walk, Sound}
use Rattle.tree.specs.Edits.{outer, Cleared, Filled, Renumbered}
use Rattle.tree.proofs.Count.{within_in, totals_term, totals_ext}
use Rattle.tree.proofs.Frame.{Agree, frame, frame_reach, land_same, paved_same}
use Rattle.tree.proofs.Context.{split, reached, Once, kids}
use Rattle.tree.proofs.Replace.{Around, once_parts, slot_outer, outer_inside, replace, once_end}

module _ (H H' : Memory) (a a' : ℕ → ℕ) (v : Value) (p : List Step) (go : Goes v p) (ok : Sound H a v) where
  -- not the slot, where nothing is counted
  not_slot : (x y : ℕ) → outer H v p x y ≡ 0 → x ≡ (walk H 0 0 v p).0 → y ≡ (walk H 0 0 v p).1 → ⊥
  not_slot x y h e k = omega (arith, h, ap₂ (outer H v p) e k, slot_outer H H' a a' v p go ok)

  -- What stands at the path is exchanged for a value of which every word is new or was reached through the slot before.
  pub exchange : (u : Value) → ((x : ℕ) → a x ≤ a' x) →
      Shows H' a' (walk H 0 0 v p).0 (walk H 0 0 v p).1 u →
      ((x y : ℕ) → 1 ≤ reach H' (walk H 0 0 v p).0 (walk H 0 0 v p).1 u x y →
      (a x ≤ y) ⊎ (1 ≤ reach H (walk H 0 0 v p).0 (walk H 0 0 v p).1 (value_at v p) x y)) →
      ((x y : ℕ) → reach H' (walk H 0 0 v p).0 (walk H 0 0 v p).1 u x y ≤ 1) →
      Around H H' p v 0 0 →
      ((x y : ℕ) → outer H v p x y ≡ 0 → reach H' (walk H 0 0 v p).0 (walk H 0 0 v p).1 u x y ≡ 0 → H' x y ≡ 0) →
      Sound H' a' (put v p u)
  exchange u le t new single same clean =
      replace H H' a a' v p go ok u le same t
      (λ x y.
      ⊎_elim
      (λ (c : 0 < reach H' (walk H 0 0 v p).0 (walk H 0 0 v p).1 u x y).
      ⊎_elim
      (λ (d : a x ≤ y).
      ⊎_elim
      (λ (f : 0 < outer H v p x y). absurd (omega (arith, outer_inside H H' a a' v p go ok x y f)))
      (λ (f : outer H v p x y ≤ 0). omega (arith, single x y))
      (cases_lt 0 (outer H v p x y)))
      (λ (d : 1 ≤ reach H (walk H 0 0 v p).0 (walk H 0 0 v p).1 (value_at v p) x y).
      omega (arith, once_parts H H' a a' v p go ok x y, single x y))
      (new x y c))
      (λ (c : reach H' (walk H 0 0 v p).0 (walk H 0 0 v p).1 u x y ≤ 0).
      omega (arith, once_parts H H' a a' v p go ok x y))
      (cases_lt 0 (reach H' (walk H 0 0 v p).0 (walk H 0 0 v p).1 u x y)))
      (λ x y h. clean x y (omega arith) (omega arith))

-- ## Clear

pub clear : (H H' : Memory) (a : ℕ → ℕ) (v : Value) (p : List Step) → Goes v p → Sound H a v →
    Cleared H H' (walk H 0 0 v p).0 (walk H 0 0 v p).1 (value_at v p) → Sound H' a (put v p null)
clear H H' a v p go ok c =
    exchange H H' a a v p go ok null (λ x. omega arith) c.slot_zero
    (λ x y h. absurd (omega arith))
    (λ x y. omega arith)
    (λ x y h n. c.kept x y (omega (arith, once_parts H H' a a v p go ok x y)) n)
    (λ x y h k.
    ⊎_elim
    (λ (d : 0 < reach H (walk H 0 0 v p).0 (walk H 0 0 v p).1 (value_at v p) x y). c.zeroed x y d)
    (λ (d : reach H (walk H 0 0 v p).0 (walk H 0 0 v p).1 (value_at v p) x y ≤ 0).
    c.kept x y (omega arith) (not_slot H H' a a v p go ok x y h) ∙ ok.clean x y (omega (arith, split H p v 0 0 go x y)))
    (cases_lt 0 (reach H (walk H 0 0 v p).0 (walk H 0 0 v p).1 (value_at v p) x y)))

-- ## Fill a null slot

pub fill : (H H' : Memory) (a a' : ℕ → ℕ) (v : Value) (p : List Step) (u : Value) → Goes v p → Sound H a v → value_at v p ≡ null →
    Filled H H' a a' (walk H 0 0 v p).0 (walk H 0 0 v p).1 u → Sound H' a' (put v p u)
fill H H' a a' v p u go ok none c =
    exchange H H' a a' v p go ok u c.grown c.shown
    (λ x y h. inl (c.fresh x y h))
    c.single
    (λ x y h n.
    ⊎_elim
    (λ (d : 0 < reach H' (walk H 0 0 v p).0 (walk H 0 0 v p).1 u x y).
    absurd (omega (arith, c.fresh x y d, outer_inside H H' a a' v p go ok x y h)))
    (λ (d : reach H' (walk H 0 0 v p).0 (walk H 0 0 v p).1 u x y ≤ 0). c.kept x y (omega arith) n)
    (cases_lt 0 (reach H' (walk H 0 0 v p).0 (walk H 0 0 v p).1 u x y)))
    (λ x y h k.
    c.kept x y k (not_slot H H' a a' v p go ok x y h) ∙
    ok.clean x y
    (omega (
      arith,
      split H p v 0 0 go x y,
      ap (λ z. reach H (walk H 0 0 v p).0 (walk H 0 0 v p).1 z x y) none,
    )))

-- ## A change of an object's own words

module _ (H H' : Memory) (a : ℕ → ℕ) (g w : ℕ) (sh : Shape) (dat dat' : ℕ → ℕ → ℕ) (kid : ℕ → ℕ → Value)
    (s : Shows H a g w (object sh dat kid)) (once : Once H g w (object sh dat kid)) (c : Renumbered H H' a g w sh dat') where
  same_slot : H' g w ≡ H g w
  same_slot = c.kept g w (omega (arith, once g w, within_in g w 1 g w refl (omega arith) (omega arith)))

  same_land : land H' g w ≡ land H g w
  same_land = land_same H H' g w same_slot (λ x y h. c.kept x y (omega (arith, once x y)))

  same_kid : (i j : ℕ) → i < rows sh → j < pointers sh → Agree H H' (land H g w).seg ((land H g w).pos + slot sh i j) (kid i j)
  same_kid i j hi hj = (
    c.slots i j hi hj,
    λ x y h. c.kept x y (omega (arith, once x y, totals_term (rows sh) (pointers sh) (kids H g w sh kid x y) i j hi hj)),
  )

  pub renumber_shows : Shows H' a g w (object sh dat' kid)
  renumber_shows = (
    paved_same H H' g w same_slot (λ x y h. c.kept x y (omega (arith, once x y))) s.0,
    rw same_land c.now,
    rw same_land
        (λ i j hi hj.
        frame H H' a a (λ x. omega arith) (kid i j) (land H g w).seg ((land H g w).pos + slot sh i j) (same_kid i j hi hj) (s.2 i j hi hj)),
    s.3,
  )

  pub renumber_reach : (x y : ℕ) → reach H' g w (object sh dat' kid) x y ≡ reach H g w (object sh dat kid) x y
  renumber_reach x y =
      rw same_land
      (omega (
        arith,
        totals_ext (rows sh) (pointers sh)
            (λ i j. reach H' (land H g w).seg ((land H g w).pos + slot sh i j) (kid i j) x y)
            (λ i j. reach H (land H g w).seg ((land H g w).pos + slot sh i j) (kid i j) x y)
            (λ i j hi hj. frame_reach H H' (kid i j) (land H g w).seg ((land H g w).pos + slot sh i j) (same_kid i j hi hj) x y),
      ))

pub renumber : (H H' : Memory) (a : ℕ → ℕ) (v : Value) (p : List Step) (sh : Shape) (dat dat' : ℕ → ℕ → ℕ) (kid : ℕ → ℕ → Value) →
    Goes v p → Sound H a v → value_at v p ≡ object sh dat kid →
    Renumbered H H' a (walk H 0 0 v p).0 (walk H 0 0 v p).1 sh dat' → Sound H' a (put v p (object sh dat' kid))
renumber H H' a v p sh dat dat' kid go ok e c =
    let g = (walk H 0 0 v p).0 in
    let w = (walk H 0 0 v p).1 in
    let s : Shows H a g w (object sh dat kid) = rw e at (reached H a p v 0 0 go ok.shown) in
    let parts : (x y : ℕ) → outer H v p x y + reach H g w (object sh dat kid) x y ≤ 1 =
    λ x y. subst (λ z. outer H v p x y + reach H g w z x y ≤ 1) e (once_parts H H' a a v p go ok x y) in
    let once : Once H g w (object sh dat kid) = subst (λ z. Once H g w z) e (once_end H H' a a v p go ok) in
    let r : (x y : ℕ) → reach H' g w (object sh dat' kid) x y ≡ reach H g w (object sh dat kid) x y =
    renumber_reach H H' a g w sh dat dat' kid s once c in
    exchange H H' a a v p go ok (object sh dat' kid) (λ x. omega arith) (renumber_shows H H' a g w sh dat dat' kid s once c)
    (λ x y h. inr (rw e (omega (arith, r x y))))
    (λ x y. omega (arith, r x y, parts x y))
    (λ x y h n. c.kept x y (omega (arith, parts x y)))
    (λ x y h k. c.kept x y (omega (arith, r x y)) ∙ ok.clean x y (omega (arith, r x y, split H p v 0 0 go x y, ap (λ z. reach H g w z x y) e)))
