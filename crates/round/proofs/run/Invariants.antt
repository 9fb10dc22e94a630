-- Each turn takes a line at least.
use Rattle.std.proofs.Common.{length}
use Rattle.round.proofs.run.Given as goal

abbrev pub decreases-loop-numbered : goal.decreases-loop-numbered
decreases-loop-numbered l = length l.rest
