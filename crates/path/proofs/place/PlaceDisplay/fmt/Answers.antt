-- Each turn writes a slash and a step.
use Rattle.std.proofs.Common.{is_ok, ap, arith, false-eqb}
use Rattle.std.proofs.Output.{writes_in_calls_nil, has_written_append, has_written_of_eq}
use Rattle.path.specs.Steps.{three}
use Rattle.path.proofs.PathSteps.{shown_more, shown_whole}
use Rattle.path.proofs.place.PlaceDisplay.fmt.Goals as goal

pub loop-step-init : goal.loop-step-init
loop-step-init g c = λ p. record { wrote = writes_in_calls_nil _ _; plain = p }

pub loop-step-preserved : goal.loop-step-preserved
loop-step-preserved g c = λ p.
    let old = c.loop-step.invariant p in
    has_written_of_eq _ _ _ _ _ (shown_more _ _ (three 0 0 0) c.loop-step-test.true)
    (has_written_append _ _ _ _ _ _ old (c.write-in-loop-step.ensures.writes old.plain (ap is_ok c.in_ok-write.was)))

pub returns-clause-writes : goal.returns-clause-writes
returns-clause-writes g c = λ p _. has_written_of_eq _ _ _ _ _ (shown_whole _ _ _ c.deref-step-items.ensures.value (λ e. false-eqb _ 0 c.if-is_empty.ensures (omega (arith, c.args.self.now.steps.ok.0))) c.loop-step-test.false) (c.loop-step.invariant p)
