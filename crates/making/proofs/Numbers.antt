-- A number of an object is one element of one word.
use Rattle.std.proofs.Common.{◌≡◌, ℕ, ◌+◌, ◌*◌, ◌%◌, ◌<◌, ◌≤◌, false, ◌&&◌, eqb, ltb, leb, sym, ap, ◌∙◌, ⊎_elim, arith, lit≤}
use Rattle.std.proofs.lemmas.Bool.{leb-true, ltb-true, eqb-true, eq-eqb, ne_eqb, cond-true, cond-false, and_parts, cases_lt}
use Rattle.wire.specs.Sizes.{element_bits, list_words}
use Rattle.wire.specs.Elements.{element_word, element_put}
use Rattle.tree.specs.Value.{Element, void, bit, byte, two_bytes, four_bytes, eight_bytes, pointer, element_code, element_pointers, Shape, structure, plain, composite, Value, null, object, size, change}
use Rattle.tree.specs.Shows.{Memory, Landing, land, Shows}
use Rattle.tree.proofs.Decoding.{describes_shape}
use Rattle.tree.proofs.Shapes.{row_fits}
use Rattle.table.specs.Segments.{allocated_in}
use Rattle.table.specs.Placing.{Room, Outcome, got}
use Rattle.law.specs.Calls.{Home, field, row, item, write}
use Rattle.law.specs.Machine.{Making, keep, making, numbering, no_number, no_number_in}
use Rattle.law.specs.Exact.{Written, makes}
use Rattle.law.specs.Reads.{number_word}
use Rattle.law.specs.Law.{State, memory}
use Rattle.law.proofs.Fitting.{nine, fits_word}
use Rattle.walk.specs.Shapes.{shape_meant}
use Rattle.walk.specs.declared.held.Held.{Held}
use Rattle.walk.specs.declared.spot.Spot.{Spot}
use Rattle.walk.specs.Holding.{Leads}
use Rattle.effects.specs.Makes.{Slot}
use Rattle.making.specs.Numbers.{Numbers}

-- ## Its word is one of the object

item_below : (c : Element) (i n : ℕ) → i < n → 0 < element_bits (element_code c) → element_word (element_code c) i < list_words (element_code c) n
item_below void i n h b = absurd (omega arith)
item_below bit i n h b = omega arith
item_below byte i n h b = omega arith
item_below two_bytes i n h b = omega arith
item_below four_bytes i n h b = omega arith
item_below eight_bytes i n h b = omega arith
item_below pointer i n h b = omega arith

number_below : (sh : Shape) (h : Home) (code i : ℕ) → 0 < element_bits code → no_number h code i sh ≡ 0 → number_word sh h code i < size sh
number_below (structure dw pw) field code i b e = let k = fits_word code i dw b (leb-true _ _ (nine _ e)) in omega arith
number_below (plain c n) field code i b e = absurd (omega arith)
number_below (composite n dw pw) field code i b e = absurd (omega arith)
number_below (structure dw pw) (row r) code i b e = absurd (omega arith)
number_below (plain c n) (row r) code i b e = absurd (omega arith)
number_below (composite n dw pw) (row r) code i b e =
    let both = and_parts (ltb r n) (leb ((i + 1) * element_bits code) (64 * dw)) (nine _ e) in
    let k = fits_word code i dw b (leb-true _ _ both.1) in
    omega (arith, row_fits r n (dw + pw) (ltb-true r n both.0))
number_below (structure dw pw) item code i b e = absurd (omega arith)
number_below (plain c n) item code i b e =
    let q = and_parts (eqb (element_pointers c) 0) (eqb (element_code c) code && ltb i n) (nine _ e) in
    let both = and_parts (eqb (element_code c) code) (ltb i n) q.1 in
    let same : element_code c ≡ code = eqb-true (element_code c) code both.0 in
    item_below c i n (ltb-true i n both.1) (rw same b)
number_below (composite n dw pw) item code i b e = absurd (omega arith)

-- ## Written

-- the words with the element in the place of the number
abbrev pub with_number : Memory → (g w code i x : ℕ) → Memory
with_number H g w code i x = change H g w (element_put (H g w) code i x)

module _ (H : Memory) (a : ℕ → ℕ) (g w : ℕ) (dat : ℕ → ℕ → ℕ) (kid : ℕ → ℕ → Value) (code i x : ℕ) (b : 0 < element_bits code) (r : Room) where
  abbrev l : Landing
  l = land H g w

  abbrev ends : Memory → Outcome Written
  ends N = got r (record { words = N; pair = (l.seg, l.pos) })

  written : (sh : Shape) (h : Home) → Shows H a g w (object sh dat kid) → no_number h code i sh ≡ 0 →
      makes H g w (object sh dat kid) (numbering h code i x (object sh dat kid)) r ≡ ends (with_number H l.seg (l.pos + number_word sh h code i) code i x)
  written (structure dw pw) field s e =
      let k : ℕ = element_word code i in
      ap (λ (z : ℕ). ends (change H l.seg (l.pos + k) (element_put z code i x)))
      (s.1.numbers 0 k (lit≤ tt) (fits_word code i dw b (leb-true _ _ (nine _ e))))
  written (plain c n) field s e = absurd (omega arith)
  written (composite n dw pw) field s e = absurd (omega arith)
  written (structure dw pw) (row q) s e = absurd (omega arith)
  written (plain c n) (row q) s e = absurd (omega arith)
  written (composite n dw pw) (row q) s e =
      let k : ℕ = element_word code i in
      let both = and_parts (ltb q n) (leb ((i + 1) * element_bits code) (64 * dw)) (nine _ e) in
      ap (λ (z : ℕ). ends (change H l.seg (l.pos + (1 + q * (dw + pw) + k)) (element_put z code i x)))
      (s.1.numbers q k (ltb-true q n both.0) (fits_word code i dw b (leb-true _ _ both.1)))
  written (structure dw pw) item s e = absurd (omega arith)
  written (plain c n) item s e =
      let q = and_parts (eqb (element_pointers c) 0) (eqb (element_code c) code && ltb i n) (nine _ e) in
      let both = and_parts (eqb (element_code c) code) (ltb i n) q.1 in
      let same : element_code c ≡ code = eqb-true (element_code c) code both.0 in
      ap
      (λ (z : ℕ). ends (change H l.seg (l.pos + element_word (element_code c) i) (element_put (H l.seg (l.pos + element_word (element_code c) i)) z i x)))
      same
  written (composite n dw pw) item s e = absurd (omega arith)

-- an element without bits is left as it is
pub unwritten : (H : Memory) (g w : ℕ) (u : Value) (h : Home) (code i x : ℕ) → element_bits code ≡ 0 → Numbers H g w u (making (write h code i x) u) H
unwritten H g w u h code i x e r =
    ap (λ (m : Making). makes H g w u m r) (cond-true (eqb (element_bits code) 0) keep (numbering h code i x u) (eq-eqb (element_bits code) 0 e))

-- as the code finds the word
module _ (s : State) (g w : ℕ) (held : Held) (leads : Leads (memory s) g w held) (home : Home) (c code i x m : ℕ) (spot : Spot) (same : c ≡ code) (b : 0 < element_bits code)
    (m_is : m ≡ number_word (shape_meant held.shape) home c i) (seg_at : spot.segment ≡ held.landing.start.segment)
    (word_at : spot.word ≡ (held.landing.start.word + m) % 18446744073709551616) where
  abbrev H : Memory
  H = memory s

  abbrev at : Landing
  at = land H g w

  seg_is : spot.segment ≡ at.seg
  seg_is = seg_at ∙ ap (λ (z : Landing). z.seg) leads.lands

  module _ (sh : Shape) (dat : ℕ → ℕ → ℕ) (kid : ℕ → ℕ → Value) (slot : Slot s g w (object sh dat kid)) (none : no_number home code i sh ≡ 0) where
    shaped : shape_meant held.shape ≡ sh
    shaped = leads.shaped ∙ describes_shape at.said (H at.seg at.pos) sh slot.shown.1.described

    word_is : m ≡ number_word sh home code i
    word_is = m_is ∙ (ap (λ (z : Shape). number_word z home c i) shaped ∙ ap (λ (z : ℕ). number_word sh home z i) same)

    there_is : (spot.word ≡ at.pos + number_word sh home code i) × (spot.word < allocated_in s.table at.seg)
    there_is =
        let p : held.landing.start.word ≡ at.pos = ap (λ (z : Landing). z.pos) leads.lands in
        let below = number_below sh home code i b none in
        let fits = slot.shown.1.inside in
        let bound = slot.small at.seg in
        let q = word_is in
        (omega arith, omega arith)

  pub number_inside : (u : Value) → Slot s g w u → no_number_in home code i u ≡ 0 → spot.word < allocated_in s.table spot.segment
  number_inside null slot e = absurd (omega arith)
  number_inside (object sh dat kid) slot e = rw seg_is (there_is sh dat kid slot e).1

  pub numbered : (u : Value) (N : Memory) → Slot s g w u → no_number_in home code i u ≡ 0 → N ≡ with_number H spot.segment spot.word code i x →
      Numbers H g w u (making (write home code i x) u) N
  numbered null N slot e f r = absurd (omega arith)
  numbered (object sh dat kid) N slot e f r =
      let u : Value = object sh dat kid in
      let some : eqb (element_bits code) 0 ≡ false = ne_eqb (element_bits code) 0 (λ z. omega arith) in
      ap (λ (m : Making). makes H g w u m r) (cond-false (eqb (element_bits code) 0) keep (numbering home code i x u) some) ∙
      (written H (allocated_in s.table) g w dat kid code i x b r sh home slot.shown e ∙
      ap (λ (M : Memory). got r (record { words = M; pair = (at.seg, at.pos) }))
      (sym (f ∙ (ap (λ (z : ℕ). with_number H z spot.word code i x) seg_is ∙ ap (λ (z : ℕ). with_number H at.seg z code i x) (there_is sh dat kid slot e).0))))

-- an element has bits or none, as the code finds it
pub some_bits : (n c code : ℕ) → n ≡ element_bits c → c ≡ code → (n ≡ 0 → ⊥) → 0 < element_bits code
some_bits n c code e f h =
    let g : n ≡ element_bits code = e ∙ ap element_bits f in
    ⊎_elim (λ (k : 0 < element_bits code). k) (λ (k : element_bits code ≤ 0). absurd (h (omega arith))) (cases_lt 0 (element_bits code))

pub no_bits : (n c code : ℕ) → n ≡ element_bits c → c ≡ code → n ≡ 0 → element_bits code ≡ 0
no_bits n c code e f h = sym (e ∙ ap element_bits f) ∙ h
