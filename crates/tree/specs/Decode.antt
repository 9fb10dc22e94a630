-- The value that a memory shows, computed from its words.
use Rattle.std.specs.Prelude.{ℕ, zero, suc, ◌+◌, cond, ◌&&◌, ◌==◌, nat_lt}
use Rattle.wire.specs.Pointers.{pointer_kind, offset_field, data_words, pointer_words, list_code, list_count}
use Rattle.tree.specs.Value.{Element, void, bit, byte, two_bytes, four_bytes, eight_bytes, pointer, Shape, structure, plain, composite, Value, null, object, rows, pointers, places, slot, number}
use Rattle.tree.specs.Shows.{Memory, Landing, land}

abbrev pub element_of_code : ℕ → Element
element_of_code zero = void
element_of_code (suc zero) = bit
element_of_code (suc (suc zero)) = byte
element_of_code (suc (suc (suc zero))) = two_bytes
element_of_code (suc (suc (suc (suc zero)))) = four_bytes
element_of_code (suc (suc (suc (suc (suc zero))))) = eight_bytes
element_of_code (suc (suc (suc (suc (suc (suc n)))))) = pointer

-- the shape that x says, where t is the object's first word
unfoldable pub shape_of : ℕ → ℕ → Shape
shape_of x t =
    cond (pointer_kind x == 0)
    (structure (data_words x) (pointer_words x))
    (cond (list_code x == 7) (composite (offset_field t) (data_words t) (pointer_words t)) (plain (element_of_code (list_code x)) (list_count x)))

abbrev pub shape_at : Memory → Landing → Shape
shape_at H l = shape_of l.said (H l.seg l.pos)

-- the value of the slot (g, w), down to a depth of d objects
unfoldable pub decode : ℕ → Memory → ℕ → ℕ → Value
decode zero H g w = null
decode (suc d) H g w =
    cond (H g w == 0)
    null
    (object (shape_at H (land H g w))
    (λ i k.
    cond (nat_lt i (rows (shape_at H (land H g w))) && nat_lt k (places (shape_at H (land H g w))))
    (number (shape_at H (land H g w)) (λ n. H (land H g w).seg ((land H g w).pos + n)) i k)
    0)
    (λ i j.
    cond (nat_lt i (rows (shape_at H (land H g w))) && nat_lt j (pointers (shape_at H (land H g w))))
    (decode d H (land H g w).seg ((land H g w).pos + slot (shape_at H (land H g w)) i j))
    null))

-- at most d objects stand one below the other
abbrev pub Deep : ℕ → Value → Type 0
Deep d null = Unit {0}
Deep zero (object sh dat kid) = ⊥
Deep (suc d) (object sh dat kid) = (i j : ℕ) → Deep d (kid i j)
