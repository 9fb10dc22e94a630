-- A shape as the layout's definitions have it.
use Rattle.std.specs.Prelude.{ℕ}
use Rattle.wire.specs.Sizes.{code_of}
use Rattle.wire.specs.Elements.{element_in}
use Rattle.tree.specs.Decode.{element_of_code}
use Rattle.tree.specs.Value as value
use Rattle.tree.specs.Value.{structure, plain, composite, element_code}
use Rattle.walk.specs.declared.shape.Shape.{Shape}
use Rattle.walk.specs.declared.shape.Shape.TheVariants.{Structure, Plain, Composite}

abbrev pub shape_meant : Shape → value.Shape
shape_meant (Structure s) = structure s.data s.pointers
shape_meant (Plain e n) = plain (element_of_code (code_of e)) n
shape_meant (Composite n s) = composite n s.data s.pointers

-- the number of row i that a word of an object of the shape holds
abbrev pub number_of : value.Shape → (word i : ℕ) → ℕ
number_of (structure dw pw) word i = word
number_of (plain c n) word i = element_in word (element_code c) i
number_of (composite n dw pw) word i = word
