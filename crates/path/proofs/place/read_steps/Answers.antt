-- Each turn takes a piece of the word and reads it.
use Rattle.std.proofs.Common.{◌≡◌, true, false, sym, ◌∙◌, subst}
use Rattle.std.proofs.lemmas.Result.{err_from_is_err_and}
use Rattle.path.proofs.PathSteps.{Sofar, start, unless_any}
use Rattle.path.proofs.Pieces.{Left, next_piece, no_piece, finished}
use Rattle.path.proofs.place.read_steps.Goals as goal

pub loop-piece-init : goal.loop-piece-init
loop-piece-init c =
    let it = c.split-piece-items.ensures in
    subst (Left c.args.word.now c.new-steps.result.items) (sym c.into_iter-piece-iterator.ensures.into_iter_gives)
    (record {
      pattern = it.pattern;
      going = λ _. subst (Sofar c.args.word.now c.new-steps.result.items) (sym it.text) (start _ _ c.new-steps.ensures.items);
      over = λ e. absurd (let z : ◌≡◌ true false = sym it.has_more ∙ e in cc);
    })

pub returns-in_err-read_step : goal.returns-in_err-read_step
returns-in_err-read_step c =
    let p = err_from_is_err_and c.from_residual.result c.from_residual.ensures.1 in
    rw p.1 (unless_any p.0 (no_piece c.loop-piece.invariant c.next.new.self c.in-Some.piece c.in-Some.ensures.steps c.in_err-read_step.ensures))

pub loop-piece-preserved : goal.loop-piece-preserved
loop-piece-preserved c = subst (λ l. Left c.args.word.now l c.next.new.self) (sym c.in_ok-push.ensures.items) (next_piece c.loop-piece.invariant c.next.new.self c.in-Some.piece _ c.in-Some.ensures.steps c.in_ok-read_step.ensures)

pub returns : goal.returns
returns c = finished c.loop-piece.invariant c.next.new.self c.in-None.ensures.steps
