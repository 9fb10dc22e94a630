-- The value at a path's end is replaced: the whole stays well laid out.
use Rattle.std.proofs.Common.{◌≡◌, ℕ, ◌+◌, ◌<◌, ◌≤◌, List, [], ◌∷◌, ap₂, ⊎_elim, arith}
use Rattle.std.proofs.lemmas.Bool.{cases_lt}
use Rattle.tree.specs.Value.{Shape, Value, null, object, rows, pointers, slot, Step, Goes, value_at, put, change}
use Rattle.tree.specs.Shows.{span, Memory, land, Shows, within, reach, walk, rest, Sound}
use Rattle.tree.specs.Edits.{outer}
use Rattle.tree.proofs.Count.{within_from, within_cases, totals_pos, totals_term}
use Rattle.tree.proofs.Context.{split, slot_counted, Once, kids, step_reach, step_shows, change_here, slot_below}

-- ## The value put into its context

-- the words around the slot at the path's end are the same
abbrev pub Around : Memory → Memory → List Step → Value → ℕ → ℕ → Type 0
Around H H' p v g w = (x y : ℕ) → 1 ≤ within g w 1 x y + rest H g w v p x y →
    (x ≡ (walk H g w v p).0 → y ≡ (walk H g w v p).1 → ⊥) → H' x y ≡ H x y

-- a child and its slot are reached once, if the whole is
pub once_kid : (H : Memory) (sh : Shape) (dat : ℕ → ℕ → ℕ) (kid : ℕ → ℕ → Value) (g w i j : ℕ) → i < rows sh → j < pointers sh →
    Once H g w (object sh dat kid) → Once H (land H g w).seg ((land H g w).pos + slot sh i j) (kid i j)
once_kid H sh dat kid g w i j hi hj once x y =
    omega (
      arith,
      once x y,
      slot_below H (land H g w).seg (land H g w).pos (land H g w).said sh i j hi hj x y,
      totals_term (rows sh) (pointers sh) (kids H g w sh kid x y) i j hi hj,
    )

module _ (H H' : Memory) (u : Value) where
  -- the words around a child's slot are around its parent's
  pub around_kid : (s : Step) (p : List Step) (sh : Shape) (dat : ℕ → ℕ → ℕ) (kid : ℕ → ℕ → Value) (g w : ℕ) →
      Goes (object sh dat kid) (s ∷ p) → Around H H' (s ∷ p) (object sh dat kid) g w →
      Around H H' p (kid s.element s.pointer_number) (land H g w).seg ((land H g w).pos + slot sh s.element s.pointer_number)
  around_kid s p sh dat kid g w go e x y h n =
      let l = land H g w in
      let i = s.element in
      let j = s.pointer_number in
      let m = rest H l.seg (l.pos + slot sh i j) (kid i j) p x y in
      e x y
      (omega (
        arith,
        h,
        slot_below H l.seg l.pos l.said sh i j go.0.1 go.0.2 x y,
        totals_term (rows sh) (pointers sh) (change (kids H g w sh kid x y) i j m) i j go.0.1 go.0.2,
        change_here (kids H g w sh kid x y) i j m,
      ))
      n

  pub put_reach : (p : List Step) (v : Value) (g w : ℕ) → Goes v p → Once H g w v → Around H H' p v g w → (x y : ℕ) →
      reach H' g w (put v p u) x y ≡ rest H g w v p x y + reach H' (walk H g w v p).0 (walk H g w v p).1 u x y
  put_reach [] v g w go once e x y = omega arith
  put_reach (s ∷ p) null g w go once e x y = absurd go
  put_reach (s ∷ p) (object sh dat kid) g w go once e x y =
      let l = land H g w in
      let i = s.element in
      let j = s.pointer_number in
      let q = l.pos + slot sh i j in
      let k = kid i j in
      step_reach H H' sh dat kid g w i j go.0.1 go.0.2 (rest H l.seg q k p) (walk H l.seg q k p).0 (walk H l.seg q k p).1 once
      (λ x y. omega (arith, split H p k l.seg q go.1 x y))
      (slot_counted H p k l.seg q go.1)
      e
      (put k p u)
      x
      y
      (reach H' (walk H l.seg q k p).0 (walk H l.seg q k p).1 u x y)
      (put_reach p k l.seg q go.1 (once_kid H sh dat kid g w i j go.0.1 go.0.2 once) (around_kid s p sh dat kid g w go e) x y)

  module _ (a a' : ℕ → ℕ) (le : (x : ℕ) → a x ≤ a' x) where
    pub put_shows : (p : List Step) (v : Value) (g w : ℕ) → Goes v p → Once H g w v → Around H H' p v g w → Shows H a g w v →
        Shows H' a' (walk H g w v p).0 (walk H g w v p).1 u → Shows H' a' g w (put v p u)
    put_shows [] v g w go once e o t = t
    put_shows (s ∷ p) null g w go once e o t = absurd go
    put_shows (s ∷ p) (object sh dat kid) g w go once e o t =
        let l = land H g w in
        let i = s.element in
        let j = s.pointer_number in
        let q = l.pos + slot sh i j in
        let k = kid i j in
        step_shows H H' sh dat kid g w i j go.0.1 go.0.2 (rest H l.seg q k p) (walk H l.seg q k p).0 (walk H l.seg q k p).1 once
        (λ x y. omega (arith, split H p k l.seg q go.1 x y))
        (slot_counted H p k l.seg q go.1)
        e
        (put k p u)
        a
        a'
        le
        o
        (put_shows p k l.seg q go.1 (once_kid H sh dat kid g w i j go.0.1 go.0.2 once) (around_kid s p sh dat kid g w go e)
        (o.2 i j go.0.1 go.0.2) t)

-- ## What is reached is allocated

pub reach_inside : (H : Memory) (a : ℕ → ℕ) (v : Value) (g w : ℕ) → Shows H a g w v → (x y : ℕ) → 1 ≤ reach H g w v x y → y < a x
reach_inside H a null g w s x y h = absurd (omega arith)
reach_inside H a (object sh dat kid) g w s x y h =
    let l = land H g w in
    ⊎_elim
    (λ (c : 0 < within l.pad_seg l.pad_pos l.pad_len x y).
    let f = within_from l.pad_seg l.pad_pos l.pad_len x y c in
    rw f.0 (omega (arith, s.1.pads_inside, f.2)))
    (λ (c : within l.pad_seg l.pad_pos l.pad_len x y ≤ 0).
    ⊎_elim
    (λ (d : 0 < within l.seg l.pos (span l.said sh) x y).
    let f = within_from l.seg l.pos (span l.said sh) x y d in
    rw f.0 (omega (arith, s.1.inside, f.2)))
    (λ (d : within l.seg l.pos (span l.said sh) x y ≤ 0).
    let (i, j, hi, hj, k) = totals_pos (rows sh) (pointers sh) (kids H g w sh kid x y) (omega arith) in
    reach_inside H a (kid i j) l.seg (l.pos + slot sh i j) (s.2 i j hi hj) x y k)
    (cases_lt 0 (within l.seg l.pos (span l.said sh) x y)))
    (cases_lt 0 (within l.pad_seg l.pad_pos l.pad_len x y))

-- ## Well-laid-out messages

module _ (H H' : Memory) (a a' : ℕ → ℕ) (v : Value) (p : List Step) (go : Goes v p) (ok : Sound H a v) where
  -- what is around the slot and what is behind it are counted once together
  pub once_parts : (x y : ℕ) → outer H v p x y + reach H (walk H 0 0 v p).0 (walk H 0 0 v p).1 (value_at v p) x y ≤ 1
  once_parts x y = omega (arith, ok.once x y, split H p v 0 0 go x y)

  pub slot_outer : outer H v p (walk H 0 0 v p).0 (walk H 0 0 v p).1 ≡ 1
  slot_outer =
      omega (arith, once_parts (walk H 0 0 v p).0 (walk H 0 0 v p).1, slot_counted H p v 0 0 go)

  pub outer_inside : (x y : ℕ) → 1 ≤ outer H v p x y → y < a x
  outer_inside x y h =
      ⊎_elim
      (λ (c : 0 < within 0 0 1 x y). let f = within_from 0 0 1 x y c in rw f.0 (omega (arith, ok.rooted, f.2)))
      (λ (c : within 0 0 1 x y ≤ 0). reach_inside H a v 0 0 ok.shown x y (omega (arith, split H p v 0 0 go x y)))
      (cases_lt 0 (within 0 0 1 x y))

  -- the slot's word is counted around it
  pub slot_part : (x y : ℕ) → within (walk H 0 0 v p).0 (walk H 0 0 v p).1 1 x y ≤ outer H v p x y
  slot_part x y =
      ⊎_elim
      (λ (c : (within (walk H 0 0 v p).0 (walk H 0 0 v p).1 1 x y ≡ 1) × (x ≡ (walk H 0 0 v p).0) × ((walk H 0 0 v p).1 ≤ y) × (y < (walk H 0 0 v p).1 + 1)).
      let e : y ≡ (walk H 0 0 v p).1 = omega (arith, c.2, c.3) in
      omega (arith, c.0, slot_outer, ap₂ (outer H v p) c.1 e))
      (λ (c : within (walk H 0 0 v p).0 (walk H 0 0 v p).1 1 x y ≡ 0). omega arith)
      (within_cases (walk H 0 0 v p).0 (walk H 0 0 v p).1 1 x y)

  pub once_end : Once H (walk H 0 0 v p).0 (walk H 0 0 v p).1 (value_at v p)
  once_end x y = omega (arith, slot_part x y, once_parts x y)

  -- any replacement
  pub replace : (u : Value) → ((x : ℕ) → a x ≤ a' x) → Around H H' p v 0 0 →
      Shows H' a' (walk H 0 0 v p).0 (walk H 0 0 v p).1 u →
      ((x y : ℕ) → outer H v p x y + reach H' (walk H 0 0 v p).0 (walk H 0 0 v p).1 u x y ≤ 1) →
      ((x y : ℕ) → outer H v p x y + reach H' (walk H 0 0 v p).0 (walk H 0 0 v p).1 u x y ≡ 0 → H' x y ≡ 0) →
      Sound H' a' (put v p u)
  replace u le e t once clean = record {
    rooted = omega (arith, ok.rooted, le 0);
    shown = put_shows H H' u a a' le p v 0 0 go ok.once e ok.shown t;
    once = λ x y. omega (arith, once x y, put_reach H H' u p v 0 0 go ok.once e x y);
    clean = λ x y h. clean x y (omega (arith, h, put_reach H H' u p v 0 0 go ok.once e x y));
  }

-- words that are not allocated are zero
pub beyond : (H : Memory) (a : ℕ → ℕ) (v : Value) → Sound H a v → (x y : ℕ) → a x ≤ y → H x y ≡ 0
beyond H a v ok x y h =
    ok.clean x y
    (⊎_elim
    (λ (c : 0 < within 0 0 1 x y + reach H 0 0 v x y). absurd (omega (arith, outer_inside H H a a v [] tt ok x y, used c)))
    (λ (c : within 0 0 1 x y + reach H 0 0 v x y ≤ 0). omega arith)
    (cases_lt 0 (within 0 0 1 x y + reach H 0 0 v x y)))
  where
    used : 0 < within 0 0 1 x y + reach H 0 0 v x y → y < a x
    used c =
        ⊎_elim
        (λ (d : 0 < within 0 0 1 x y). outer_inside H H a a v [] tt ok x y (omega arith))
        (λ (d : within 0 0 1 x y ≤ 0). reach_inside H a v 0 0 ok.shown x y (omega arith))
        (cases_lt 0 (within 0 0 1 x y))
