-- A value with another put at a path's end: what stands around the slot stays.
use Rattle.std.proofs.Common.{◌≡◌, ℕ, ◌+◌, ◌<◌, ◌≤◌, cond, ◌&&◌, eqb, ◌≢◌, ◌⊎◌, List, [], ◌∷◌, sym, refl, subst, inl, inr, ⊎_elim, arith}
use Rattle.std.proofs.lemmas.Bool.{cases_eq, eq-eqb, ne_eqb}
use Rattle.tree.specs.Value.{Shape, Value, null, object, rows, pointers, size, slot, Step, Goes, value_at, change}
use Rattle.tree.specs.Shows.{span, Memory, land, Shows, within, totals, reach, walk, rest}
use Rattle.tree.specs.Edits.{pads, words}
use Rattle.tree.proofs.Count.{within_in, within_from, within_cases, totals_term, totals_change}
use Rattle.tree.proofs.Shapes.{slot_in, slot_apart}
use Rattle.tree.proofs.Frame.{PadsSame, land_same, paved_same, body_same, Agree, frame, frame_reach}

pub change_here : {A : Type 0} (f : ℕ → ℕ → A) (i j : ℕ) (u : A) → change f i j u i j ≡ u
unfolding change
change_here f i j u = rw (eq-eqb i i refl, eq-eqb j j refl)

pub change_else : {A : Type 0} (f : ℕ → ℕ → A) (i j : ℕ) (u : A) (a b : ℕ) → (a ≡ i → b ≡ j → ⊥) → change f i j u a b ≡ f a b
unfolding change
change_else f i j u a b n = go (cases_eq a i)
  where
    go : (a ≡ i) ⊎ (a ≡ i → ⊥) → cond (eqb a i && eqb b j) u (f a b) ≡ f a b
    go (inl e) = rw (eq-eqb a i e, ne_eqb b j (n e))
    go (inr e) = rw (ne_eqb a i e)

-- a change in a sum
pub totals_changed : (r p : ℕ) (f : ℕ → ℕ → ℕ) (i j u : ℕ) → i < r → j < p → totals r p (change f i j u) + f i j ≡ totals r p f + u
totals_changed r p f i j u hi hj =
    omega (arith, totals_change r p f (change f i j u) i j hi hj (λ a b _ _ n. change_else f i j u a b n), change_here f i j u)

-- two terms of a sum
pub totals_two : (r p : ℕ) (f : ℕ → ℕ → ℕ) (i j a b : ℕ) → i < r → j < p → a < r → b < p → (a ≡ i → b ≡ j → ⊥) →
    f i j + f a b ≤ totals r p f
totals_two r p f i j a b hi hj ha hb n =
    omega (arith, totals_changed r p f i j 0 hi hj, totals_term r p (change f i j 0) a b ha hb, change_else f i j 0 a b n)

-- ## The context of a slot

module _ (H : Memory) where
  pub split : (p : List Step) (v : Value) (g w : ℕ) → Goes v p → (x y : ℕ) →
      reach H g w v x y ≡ rest H g w v p x y + reach H (walk H g w v p).0 (walk H g w v p).1 (value_at v p) x y
  split [] v g w go x y = omega arith
  split (s ∷ p) null g w go x y = absurd go
  split (s ∷ p) (object sh dat kid) g w go x y =
      let l = land H g w in
      let i = s.element in
      let j = s.pointer_number in
      omega (
        arith,
        split p (kid i j) l.seg (l.pos + slot sh i j) go.1 x y,
        totals_changed (rows sh) (pointers sh) (λ i j. reach H l.seg (l.pos + slot sh i j) (kid i j) x y) i j
            (rest H l.seg (l.pos + slot sh i j) (kid i j) p x y)
            go.0.1
            go.0.2,
      )

  pub reached : (a : ℕ → ℕ) (p : List Step) (v : Value) (g w : ℕ) → Goes v p → Shows H a g w v →
      Shows H a (walk H g w v p).0 (walk H g w v p).1 (value_at v p)
  reached a [] v g w go sh = sh
  reached a (s ∷ p) null g w go sh = absurd go
  reached a (s ∷ p) (object sh dat kid) g w go o =
      let l = land H g w in
      let i = s.element in
      let j = s.pointer_number in
      reached a p (kid i j) l.seg (l.pos + slot sh i j) go.1 (o.2 i j go.0.1 go.0.2)

  -- the word of a slot is a word of the object
  pub slot_below : (g p z : ℕ) (sh : Shape) (i j : ℕ) → i < rows sh → j < pointers sh → (x y : ℕ) →
      within g (p + slot sh i j) 1 x y ≤ within g p (span z sh) x y
  slot_below g p z sh i j hi hj x y =
      ⊎_elim
      (λ (c : (within g (p + slot sh i j) 1 x y ≡ 1) × (x ≡ g) × (p + slot sh i j ≤ y) × (y < p + slot sh i j + 1)).
      omega (arith, within_in g p (span z sh) x y c.1 (omega arith) (omega (arith, slot_in sh i j hi hj))))
      (λ (c : within g (p + slot sh i j) 1 x y ≡ 0). omega arith)
      (within_cases g (p + slot sh i j) 1 x y)

  pub slot_counted : (p : List Step) (v : Value) (g w : ℕ) → Goes v p →
      1 ≤ within g w 1 (walk H g w v p).0 (walk H g w v p).1 + rest H g w v p (walk H g w v p).0 (walk H g w v p).1
  slot_counted [] v g w go = omega (arith, within_in g w 1 g w refl (omega arith) (omega arith))
  slot_counted (s ∷ p) null g w go = absurd go
  slot_counted (s ∷ p) (object sh dat kid) g w go =
      let l = land H g w in
      let i = s.element in
      let j = s.pointer_number in
      let q = l.pos + slot sh i j in
      let x = (walk H l.seg q (kid i j) p).0 in
      let y = (walk H l.seg q (kid i j) p).1 in
      let f : ℕ → ℕ → ℕ = λ i j. reach H l.seg (l.pos + slot sh i j) (kid i j) x y in
      let u = rest H l.seg q (kid i j) p x y in
      omega (
        arith,
        slot_counted p (kid i j) l.seg q go.1,
        slot_below l.seg l.pos l.said sh i j go.0.1 go.0.2 x y,
        totals_term (rows sh) (pointers sh) (change f i j u) i j go.0.1 go.0.2,
        change_here f i j u,
      )

-- the slot and what it shows are reached at most once
abbrev pub Once : Memory → ℕ → ℕ → Value → Type 0
Once H g w v = (x y : ℕ) → within g w 1 x y + reach H g w v x y ≤ 1

-- the three parts of what an object's slot reaches
abbrev pub kids : Memory → ℕ → ℕ → Shape → (ℕ → ℕ → Value) → ℕ → ℕ → ℕ → ℕ → ℕ
kids H g w sh kid x y i j = reach H (land H g w).seg ((land H g w).pos + slot sh i j) (kid i j) x y

-- ## One step of a path: what stands around pointer (i, j) of an object stays where the word (X, Y) changes, which is this slot
-- or lies below it. `inner` counts what is reached below it and stays.

module _ (H H' : Memory) (sh : Shape) (dat : ℕ → ℕ → ℕ) (kid : ℕ → ℕ → Value) (g w : ℕ) (i j : ℕ) (hi : i < rows sh) (hj : j < pointers sh)
    (inner : ℕ → ℕ → ℕ) (X Y : ℕ) (once : Once H g w (object sh dat kid)) (part : (x y : ℕ) → inner x y ≤ kids H g w sh kid x y i j)
    (counted : 1 ≤ within (land H g w).seg ((land H g w).pos + slot sh i j) 1 X Y + inner X Y)
    (agree : (x y : ℕ) →
    1 ≤ within g w 1 x y + (pads H g w x y + words H g w sh x y + totals (rows sh) (pointers sh) (change (kids H g w sh kid x y) i j (inner x y))) →
    (x ≡ X → y ≡ Y → ⊥) → H' x y ≡ H x y) where
  -- neither the slot (g, w) nor the pads hold it
  free : within g w 1 X Y + pads H g w X Y ≡ 0
  free = omega (
    arith,
    once X Y,
    counted,
    part X Y,
    slot_below H (land H g w).seg (land H g w).pos (land H g w).said sh i j hi hj X Y,
    totals_term (rows sh) (pointers sh) (kids H g w sh kid X Y) i j hi hj,
  )

  slot_same : H' g w ≡ H g w
  slot_same =
      let c = within_in g w 1 g w refl (omega arith) (omega arith) in
      agree g w (omega arith) (λ p q. omega (arith, free, within_in g w 1 X Y (sym p) (omega arith) (omega arith)))

  pads_same : PadsSame H H' (land H g w)
  pads_same x y h =
      agree x y (omega arith)
      (λ p q. omega (arith, free, subst (λ z. 1 ≤ pads H g w z Y) p (subst (λ z. 1 ≤ pads H g w x z) q h)))

  -- if the object holds it, it is the slot (i, j)
  its_slot : (n : ℕ) → n < size sh → (land H g w).seg ≡ X → (land H g w).pos + n ≡ Y → n ≡ slot sh i j
  its_slot n h p q =
      let c = within_in (land H g w).seg (land H g w).pos (span (land H g w).said sh) X Y (sym p) (omega arith) (omega arith) in
      let d : 1 ≤ within (land H g w).seg ((land H g w).pos + slot sh i j) 1 X Y =
      omega (arith, once X Y, counted, part X Y, totals_term (rows sh) (pointers sh) (kids H g w sh kid X Y) i j hi hj) in
      omega (arith, within_from (land H g w).seg ((land H g w).pos + slot sh i j) 1 X Y d)

  word_same : (n : ℕ) → n < size sh → n ≢ slot sh i j → H' (land H g w).seg ((land H g w).pos + n) ≡ H (land H g w).seg ((land H g w).pos + n)
  word_same n h k =
      let c = within_in (land H g w).seg (land H g w).pos (span (land H g w).said sh) (land H g w).seg ((land H g w).pos + n) refl (omega arith) (omega arith) in
      agree (land H g w).seg ((land H g w).pos + n) (omega arith) (λ p q. k (its_slot n h p q))

  others : (a b : ℕ) → a < rows sh → b < pointers sh → (a ≡ i → b ≡ j → ⊥) →
      Agree H H' (land H g w).seg ((land H g w).pos + slot sh a b) (kid a b)
  others a b ha hb n = (
    word_same (slot sh a b) (slot_in sh a b ha hb) (λ e. let s = slot_apart sh a b i j ha hb hi hj e in n s.0 s.1),
    λ x y h.
        agree x y
        (omega (
          arith,
          totals_term (rows sh) (pointers sh) (change (kids H g w sh kid x y) i j (inner x y)) a b ha hb,
          change_else (kids H g w sh kid x y) i j (inner x y) a b n,
        ))
        (λ p q.
        let k : 1 ≤ kids H g w sh kid X Y a b =
        subst (λ z. 1 ≤ kids H g w sh kid z Y a b) p (subst (λ z. 1 ≤ kids H g w sh kid x z a b) q h) in
        omega (
          arith,
          once X Y,
          counted,
          part X Y,
          slot_below H (land H g w).seg (land H g w).pos (land H g w).said sh i j hi hj X Y,
          totals_two (rows sh) (pointers sh) (kids H g w sh kid X Y) i j a b hi hj ha hb n,
        )),
  )

  pub step_land : land H' g w ≡ land H g w
  step_land = land_same H H' g w slot_same pads_same

  module _ (u : Value) where
    pub step_reach : (x y : ℕ) (m : ℕ) → reach H' (land H g w).seg ((land H g w).pos + slot sh i j) u x y ≡ inner x y + m →
        reach H' g w (object sh dat (change kid i j u)) x y ≡
        pads H g w x y + words H g w sh x y + totals (rows sh) (pointers sh) (change (kids H g w sh kid x y) i j (inner x y)) + m
    step_reach x y m e =
        rw step_land
        (let f = kids H g w sh kid x y in
        let h : ℕ → ℕ → ℕ = λ a b. reach H' (land H g w).seg ((land H g w).pos + slot sh a b) (change kid i j u a b) x y in
        let here : h i j ≡ inner x y + m = rw (change_here kid i j u) e in
        omega (
          arith,
          here,
          totals_changed (rows sh) (pointers sh) f i j (inner x y) hi hj,
          totals_change (rows sh) (pointers sh) f h i j hi hj
              (λ a b ha hb n. rw (change_else kid i j u a b n) (frame_reach H H' (kid a b) (land H g w).seg ((land H g w).pos + slot sh a b) (others a b ha hb n) x y)),
        ))

    module _ (a a' : ℕ → ℕ) (le : (x : ℕ) → a x ≤ a' x) where
      pub step_shows : Shows H a g w (object sh dat kid) → Shows H' a' (land H g w).seg ((land H g w).pos + slot sh i j) u →
          Shows H' a' g w (object sh dat (change kid i j u))
      step_shows s t = (
        paved_same H H' g w slot_same pads_same s.0,
        rw step_land (body_same H H' a a' (land H g w) sh dat le (λ n h k. word_same n h (k i j hi hj)) s.1),
        rw step_land
            (λ b c hb hc.
            ⊎_elim
            (λ (e : b ≡ i).
            ⊎_elim
            (λ (f : c ≡ j). rw (e, f, change_here kid i j u) t)
            (λ (n : c ≡ j → ⊥). one b c hb hc (λ _. n) s)
            (cases_eq c j))
            (λ (n : b ≡ i → ⊥). one b c hb hc (λ e _. n e) s)
            (cases_eq b i)),
        λ b c o.
            rw (change_else kid i j u b c (λ p q. ⊎_elim (λ (z : rows sh ≤ b). omega arith) (λ (z : pointers sh ≤ c). omega arith) o)) (s.3 b c o),
      )
        where
          one : (b c : ℕ) → b < rows sh → c < pointers sh → (b ≡ i → c ≡ j → ⊥) → Shows H a g w (object sh dat kid) →
              Shows H' a' (land H g w).seg ((land H g w).pos + slot sh b c) (change kid i j u b c)
          one b c hb hc n s =
              rw (change_else kid i j u b c n)
              (frame H H' a a' le (kid b c) (land H g w).seg ((land H g w).pos + slot sh b c) (others b c hb hc n) (s.2 b c hb hc))
