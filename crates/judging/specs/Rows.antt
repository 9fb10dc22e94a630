-- What an element of a plain list takes as a row.
use Rattle.std.specs.Prelude.{ℕ, min, cond, ◌==◌}
use Rattle.wire.specs.Sizes.{element_bits}
use Rattle.tree.specs.Value.{Element, element_code, element_pointers}

-- its data words
abbrev pub row_data : Element → ℕ
row_data c = cond (element_pointers c == 0) (min 1 (element_bits (element_code c))) 0
