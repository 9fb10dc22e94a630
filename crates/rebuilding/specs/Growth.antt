-- A shape in which an object of another can be rebuilt.
use Rattle.std.specs.Prelude.{◌≡◌, ◌≤◌, ◌⊎◌}
use Rattle.tree.specs.Value.{Shape, structure, plain, composite, rows, pointers, places}
use Rattle.tree.specs.Numbers.{place_bits}

-- a struct or a struct list
abbrev pub Sectioned : Shape → Type 0
Sectioned (structure dw pw) = Unit {0}
Sectioned (plain c n) = ⊥
Sectioned (composite n dw pw) = Unit {0}

-- sh' has data words and pointers in the same rows as sh, and in each row at least as many numbers and pointers; numbers without bits
-- need no place
pub record Larger (sh sh' : Shape) : Type 0 where
  pub sectioned : Sectioned sh'
  pub same_rows : rows sh ≡ rows sh'
  pub more_pointers : pointers sh ≤ pointers sh'
  pub more_places : (places sh ≤ places sh') ⊎ (place_bits sh ≡ 0)
