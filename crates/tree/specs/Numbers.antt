-- Numbers written into an object's words.
use Rattle.std.specs.Prelude.{ℕ, ◌^◌, ◌<◌}
use Rattle.wire.specs.Sizes.{element_bits}
use Rattle.wire.specs.Elements.{element_put}
use Rattle.tree.specs.Value.{Shape, structure, plain, composite, element_code}

-- the word of row i's place when the number there becomes x
abbrev pub place_put : Shape → (word i x : ℕ) → ℕ
place_put (structure dw pw) word i x = x
place_put (plain c n) word i x = element_put word (element_code c) i x
place_put (composite n dw pw) word i x = x

-- the bits of a place
abbrev pub place_bits : Shape → ℕ
place_bits (structure dw pw) = 64
place_bits (plain c n) = element_bits (element_code c)
place_bits (composite n dw pw) = 64

-- x can stand there: an element has so many bits, and a data word takes what it is given
abbrev pub FitsPlace : Shape → (x : ℕ) → Type 0
FitsPlace (structure dw pw) x = Unit {0}
FitsPlace (plain c n) x = x < 2 ^ element_bits (element_code c)
FitsPlace (composite n dw pw) x = Unit {0}
