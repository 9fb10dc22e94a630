-- The steps before the index are written.
use Rattle.std.proofs.Common.{take}
use Rattle.std.specs.Fmt.{IsPlainFormatter, HasWritten}
use Rattle.path.specs.Paths.{shown_steps}
use Rattle.path.proofs.place.PlaceDisplay.fmt.Given as goal

abbrev pub invariant-loop-step : goal.invariant-loop-step
invariant-loop-step g l = IsPlainFormatter l.initial.f → HasWritten g.W.Write.write_str_gives l.initial.f (shown_steps (take l.step-index l.step-items)) l.f
