-- A number that falls as a cursor goes on, whatever the words are.
use Rattle.std.specs.Prelude.{ℕ, ◌+◌, ◌-◌, ◌*◌, ◌^◌, ◌<◌, List, [], ◌∷◌, length, Some, None, Option}
use Rattle.tree.specs.Value.{rows, pointers}
use Rattle.cursor.specs.declared.Event.{Event}
use Rattle.cursor.specs.Begun.{Begun}

-- what is left of an object, one for the object itself
abbrev pub left : Begun → ℕ
left b = (rows b.shape - b.row) * 2 ^ 32 + (pointers b.shape - b.pointer) + 1

-- an object with n others below it weighs its left times 2 ^ (66 * (64 - n))
unfoldable pub weight : List Begun → ℕ
weight [] = 0
weight (b ∷ bs) = left b * 2 ^ (66 * (64 - length bs)) + weight bs

-- as long as anything happens
abbrev pub Lighter : Option Event → (bs bs' : List Begun) → Type 0
Lighter None bs bs' = Unit {0}
Lighter (Some e) bs bs' = weight bs' < weight bs
