-- What holds of each value that words show.
use Rattle.std.specs.Prelude.{ℕ, ◌^◌, ◌≤◌}
use Rattle.tree.specs.Value.{Value}
use Rattle.tree.specs.Shows.{Memory, Shows}

-- P holds of each value that the slot (g, w) shows, where no segment is longer than 2 ^ 29
abbrev pub OfSlot : Memory → (g w : ℕ) → (Value → Type 0) → Type 0
OfSlot H g w P = (a : ℕ → ℕ) (v : Value) → ((x : ℕ) → a x ≤ 2 ^ 29) → Shows H a g w v → P v

-- of each that the root shows
abbrev pub OfRoot : Memory → (Value → Type 0) → Type 0
OfRoot H P = OfSlot H 0 0 P
