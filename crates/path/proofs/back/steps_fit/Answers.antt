-- What is known of the element that is read.
use Rattle.std.proofs.Common.{below_more}
use Rattle.path.proofs.back.steps_fit.Goals as goal

pub loop-step-preserved : goal.loop-step-preserved
loop-step-preserved c = below_more _ _ c.loop-step.invariant c.step_fits.ensures
