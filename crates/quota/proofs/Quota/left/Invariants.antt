-- What the limit leaves of c words and the first segments.
use Rattle.std.proofs.Common.{◌≡◌, ◌+◌, take}
use Rattle.quota.specs.Capped.{total}
use Rattle.quota.proofs.Quota.left.Given as goal

abbrev pub invariant-loop-g : goal.invariant-loop-g
invariant-loop-g g l = total (take l.g (g.S.Reading.segments l.self.below)) + l.c + l.left ≡ l.self.limit
