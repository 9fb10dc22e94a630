-- The steps that are left lead from here to where all of them lead from the root.
use Rattle.std.proofs.Common.{◌≡◌, drop}
use Rattle.tree.specs.Words.{word}
use Rattle.walk.specs.Spots.{spot_at}
use Rattle.walk.specs.Slots.{slots_along}
use Rattle.walk.proofs.route.resolve.Given as goal

abbrev pub invariant-loop-i : goal.invariant-loop-i
invariant-loop-i g l =
    slots_along (word (g.R.Reading.segments l.reading)) l.slot (drop l.i l.path) l.i ≡
    slots_along (word (g.R.Reading.segments l.reading)) (spot_at 0 0) l.path 0
