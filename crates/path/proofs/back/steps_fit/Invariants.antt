-- The steps before the index fit.
use Rattle.std.proofs.Common.{ℕ, ◌<◌, get_or}
use Rattle.path.specs.Paths.{Fit}
use Rattle.path.specs.Steps.{three}
use Rattle.path.proofs.back.steps_fit.Given as goal

abbrev pub invariant-loop-step : goal.invariant-loop-step
invariant-loop-step l = (i : ℕ) → i < l.step-index → Fit (get_or l.steps i (three 0 0 0))
