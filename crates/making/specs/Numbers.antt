-- What the write of a number leaves.
use Rattle.std.specs.Prelude.{◌≡◌, ℕ}
use Rattle.tree.specs.Value.{Value}
use Rattle.tree.specs.Shows.{Memory, land}
use Rattle.table.specs.Placing.{Room, got}
use Rattle.law.specs.Machine.{Making}
use Rattle.law.specs.Exact.{makes}

-- The words N come of H by the making m of the slot (g, w), which takes no room; the object stays where it is.
abbrev pub Numbers : Memory → (g w : ℕ) → Value → Making → Memory → Type 0
Numbers H g w u m N = (r : Room) → makes H g w u m r ≡ got r (record { words = N; pair = ((land H g w).seg, (land H g w).pos) })
