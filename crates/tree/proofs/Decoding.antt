-- A slot shows one value, and decoding finds it.
use Rattle.std.proofs.Common.{◌≡◌, ℕ, zero, suc, ◌+◌, ◌<◌, ◌≤◌, true, false, cond, ◌&&◌, eqb, ltb, ◌⊎◌, List, [], ◌∷◌, length, sym, refl, ap, ◌∙◌, subst, ap₂, inl, inr, ⊎_elim, arith}
use mathlib.Core.Path.{fun_ext}
use Rattle.std.proofs.lemmas.Bool.{cases_lt, eq-eqb, ne_eqb, lt-ltb, le-ltb, and_left, and_right}
use Rattle.wire.specs.Pointers.{pointer_kind, list_code}
use Rattle.tree.specs.Value.{Element, void, bit, byte, two_bytes, four_bytes, eight_bytes, pointer, Shape, structure, plain, composite, Value, null, object, rows, pointers, places, slot, number, element_code, Step, value_at, put, change}
use Rattle.tree.specs.Shows.{Memory, land, Describes, Shows}
use Rattle.tree.specs.Decode.{element_of_code, shape_of, decode, Deep}
use Rattle.tree.proofs.Roads.{paved_live}

element_back_again : (c : Element) → element_of_code (element_code c) ≡ c
element_back_again void = refl
element_back_again bit = refl
element_back_again byte = refl
element_back_again two_bytes = refl
element_back_again four_bytes = refl
element_back_again eight_bytes = refl
element_back_again pointer = refl

element_small : (c : Element) → element_code c ≤ 6
element_small void = omega arith
element_small bit = omega arith
element_small byte = omega arith
element_small two_bytes = omega arith
element_small four_bytes = omega arith
element_small eight_bytes = omega arith
element_small pointer = omega arith

pub describes_shape : (x t : ℕ) (sh : Shape) → Describes x t sh → shape_of x t ≡ sh
unfolding Describes shape_of
describes_shape x t (structure dw pw) d = rw (eq-eqb (pointer_kind x) 0 d.0, d.1, d.2)
describes_shape x t (plain c n) d =
    rw (ne_eqb (pointer_kind x) 0 (omega (arith, d.0)), ne_eqb (list_code x) 7 (omega (arith, d.1, element_small c)), d.1, d.2, element_back_again c)
describes_shape x t (composite n dw pw) d =
    rw (ne_eqb (pointer_kind x) 0 (omega (arith, d.0)), eq-eqb (list_code x) 7 d.1, d.4, d.5, d.6)

-- ## One value

-- two objects of one shape
objects_same : (sh : Shape) (dat dat' : ℕ → ℕ → ℕ) (kid kid' : ℕ → ℕ → Value) →
    ((i k : ℕ) → i < rows sh → k < places sh → dat i k ≡ dat' i k) →
    ((i k : ℕ) → (rows sh ≤ i) ⊎ (places sh ≤ k) → dat i k ≡ dat' i k) →
    ((i j : ℕ) → i < rows sh → j < pointers sh → kid i j ≡ kid' i j) →
    ((i j : ℕ) → (rows sh ≤ i) ⊎ (pointers sh ≤ j) → kid i j ≡ kid' i j) →
    object sh dat kid ≡ object sh dat' kid'
objects_same sh dat dat' kid kid' n m k o =
    ap₂ (object sh) (fun_ext (λ i. fun_ext (λ j. both (rows sh) (places sh) i j (dat i j ≡ dat' i j) (n i j) (m i j))))
    (fun_ext (λ i. fun_ext (λ j. both (rows sh) (pointers sh) i j (kid i j ≡ kid' i j) (k i j) (o i j))))
  where
    both : (r p i j : ℕ) (P : Type 0) → (i < r → j < p → P) → ((r ≤ i) ⊎ (p ≤ j) → P) → P
    both r p i j P f h =
        ⊎_elim (λ (a : i < r). ⊎_elim (λ (b : j < p). f a b) (λ (b : p ≤ j). h (inr b)) (cases_lt j p)) (λ (a : r ≤ i). h (inl a)) (cases_lt i r)

pub unique : (H : Memory) (a b : ℕ → ℕ) (v u : Value) (g w : ℕ) → Shows H a g w v → Shows H b g w u → v ≡ u
unique H a b null null g w s t = refl
unique H a b null (object sh dat kid) g w s t = absurd (paved_live H g w t.0 s)
unique H a b (object sh dat kid) null g w s t = absurd (paved_live H g w s.0 t)
unique H a b (object sh dat kid) (object sh' dat' kid') g w s t =
    let l = land H g w in
    let z = H l.seg l.pos in
    let e : sh' ≡ sh = sym (describes_shape l.said z sh' t.1.described) ∙ describes_shape l.said z sh s.1.described in
    let t' : Shows H b g w (object sh dat' kid') = subst (λ z. Shows H b g w (object z dat' kid')) e t in
    objects_same sh dat dat' kid kid'
    (λ i k hi hk. s.1.numbers i k hi hk ∙ sym (t'.1.numbers i k hi hk))
    (λ i k o. s.1.no_more i k o ∙ sym (t'.1.no_more i k o))
    (λ i j hi hj. unique H a b (kid i j) (kid' i j) l.seg (l.pos + slot sh i j) (s.2 i j hi hj) (t'.2 i j hi hj))
    (λ i j o. s.3 i j o ∙ sym (t'.3 i j o))
    ∙ sym (ap (λ z. object z dat' kid') e)

-- ## Decoding

inside_test : (r p i j : ℕ) → i < r → j < p → (ltb i r && ltb j p) ≡ true
inside_test r p i j hi hj = rw (lt-ltb i r hi, lt-ltb j p hj)

outside_test : (r p i j : ℕ) → (r ≤ i) ⊎ (p ≤ j) → (ltb i r && ltb j p) ≡ false
outside_test r p i j (inl h) = and_left (ltb i r) (ltb j p) (le-ltb i r h)
outside_test r p i j (inr h) = and_right (ltb i r) (ltb j p) (le-ltb j p h)

pub decodes : (d : ℕ) (H : Memory) (a : ℕ → ℕ) (v : Value) (g w : ℕ) → Deep d v → Shows H a g w v → decode d H g w ≡ v
unfolding decode
decodes zero H a null g w h s = refl
decodes zero H a (object sh dat kid) g w h s = absurd h
decodes (suc d) H a null g w h s = rw (eq-eqb (H g w) 0 s)
decodes (suc d) H a (object sh dat kid) g w h s =
    let l = land H g w in
    rw (ne_eqb (H g w) 0 (paved_live H g w s.0), describes_shape l.said (H l.seg l.pos) sh s.1.described)
    (objects_same sh
    (λ i k. cond (ltb i (rows sh) && ltb k (places sh)) (number sh (λ n. H l.seg (l.pos + n)) i k) 0)
    dat
    (λ i j. cond (ltb i (rows sh) && ltb j (pointers sh)) (decode d H l.seg (l.pos + slot sh i j)) null)
    kid
    (λ i k hi hk. rw (inside_test (rows sh) (places sh) i k hi hk) (sym (s.1.numbers i k hi hk)))
    (λ i k o. rw (outside_test (rows sh) (places sh) i k o) (sym (s.1.no_more i k o)))
    (λ i j hi hj. rw (inside_test (rows sh) (pointers sh) i j hi hj)
    (decodes d H a (kid i j) l.seg (l.pos + slot sh i j) (h i j) (s.2 i j hi hj)))
    (λ i j o. rw (outside_test (rows sh) (pointers sh) i j o) (sym (s.3 i j o))))

-- ## Depth

deep_change : (kid : ℕ → ℕ → Value) (d i j : ℕ) (u : Value) → Deep d u → ((a b : ℕ) → Deep d (kid a b)) →
    (a b : ℕ) → Deep d (change kid i j u a b)
unfolding change
deep_change kid d i j u n k a b =
    elim (eqb a i && eqb b j) as (λ t. Deep d (cond t u (kid a b))) [ true ↦ n | false ↦ k a b ]

-- what stands at a path may be replaced by what is no deeper
pub deep_put : (p : List Step) (v u : Value) (D d : ℕ) → D ≡ length p + d → Deep D v → (Deep d (value_at v p) → Deep d u) → Deep D (put v p u)
deep_put [] v u D d e n f =
    let same : D ≡ d = omega arith in
    let F : Value → ℕ → Type 0 = λ x k. Deep k x in
    subst (F u) (sym same) (f (subst (F v) same n))
deep_put (s ∷ p) null u D d e n f = tt
deep_put (s ∷ p) (object sh dat kid) u zero d e n f = n
deep_put (s ∷ p) (object sh dat kid) u (suc D) d e n f =
    deep_change kid D s.element s.pointer_number _
    (deep_put p (kid s.element s.pointer_number) u D d (omega arith) (n s.element s.pointer_number) f)
    n
