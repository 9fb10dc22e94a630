-- Reads answer what the words hold.
use Rattle.std.proofs.Common.{◌≡◌, ℕ, ◌+◌, ◌*◌, ◌<◌, ◌≤◌, true, leb, ap, ◌∙◌, ⊎_elim, arith, lit≤}
use Rattle.std.proofs.lemmas.Bool.{leb-true, ltb-true, eqb-true, and_parts, cases_lt}
use Rattle.wire.specs.Sizes.{element_bits}
use Rattle.wire.specs.Elements.{element_word, element_in}
use Rattle.tree.specs.Value.{Shape, structure, plain, composite, Value, object, element_code}
use Rattle.tree.specs.Shows.{Memory, Landing, land, Shows}
use Rattle.tree.proofs.Context.{reached}
use Rattle.law.specs.Calls.{Home, field, row, item}
use Rattle.law.specs.Machine.{no_number}
use Rattle.law.specs.Reads.{number_in, number_word, ReadsStand}
use Rattle.law.proofs.Fitting.{nine, fits_word, item_place}

-- elements without bits are all 0
alike : (x y c i : ℕ) → element_bits c ≡ 0 → element_in x c i ≡ element_in y c i
alike x y c i e = rw e (omega arith)

-- element i of a data section of dw words, of which one is given as a number and as a word
in_section : (x y code i dw : ℕ) → leb ((i + 1) * element_bits code) (64 * dw) ≡ true → (element_word code i < dw → x ≡ y) →
    element_in x code i ≡ element_in y code i
in_section x y code i dw fit same =
    ⊎_elim
    (λ (b : 0 < element_bits code). ap (λ z. element_in z code i) (same (fits_word code i dw b (leb-true _ _ fit))))
    (λ (b : element_bits code ≤ 0). alike x y code i (omega arith))
    (cases_lt 0 (element_bits code))

module _ (H : Memory) (a : ℕ → ℕ) (g w : ℕ) (dat : ℕ → ℕ → ℕ) (kid : ℕ → ℕ → Value) where
  abbrev l : Landing
  l = land H g w

  there : (sh : Shape) (h : Home) (code i : ℕ) → Shows H a g w (object sh dat kid) → no_number h code i sh ≡ 0 →
      number_in dat h code i ≡ element_in (H (land H g w).seg ((land H g w).pos + number_word sh h code i)) code i
  there (structure dw pw) field code i s e =
      in_section (dat 0 (element_word code i)) (H l.seg (l.pos + element_word code i)) code i dw (nine _ e)
      (λ k. s.1.numbers 0 (element_word code i) (lit≤ tt) k)
  there (plain c n) field code i s e = absurd (omega arith)
  there (composite n dw pw) field code i s e = absurd (omega arith)
  there (structure dw pw) (row r) code i s e = absurd (omega arith)
  there (plain c n) (row r) code i s e = absurd (omega arith)
  there (composite n dw pw) (row r) code i s e =
      let both = and_parts _ _ (nine _ e) in
      in_section (dat r (element_word code i)) (H l.seg (l.pos + (1 + r * (dw + pw) + element_word code i))) code i dw both.1
      (λ k. s.1.numbers r (element_word code i) (ltb-true r n both.0) k)
  there (structure dw pw) item code i s e = absurd (omega arith)
  there (plain c n) item code i s e =
      let q = and_parts _ _ (nine _ e) in
      let both = and_parts _ _ q.1 in
      let same : element_code c ≡ code = eqb-true (element_code c) code both.0 in
      s.1.numbers i 0 (ltb-true i n both.1) (item_place c q.0) ∙
      ap (λ z. element_in (H l.seg (l.pos + element_word (element_code c) i)) z i) same
  there (composite n dw pw) item code i s e = absurd (omega arith)

pub reads : ReadsStand
reads = record {
  numbers_are_there = λ H a g w sh dat kid h code i. there H a g w dat kid sh h code i;
  places_show = λ H a v p go ok. reached H a p v 0 0 go ok.shown;
}
