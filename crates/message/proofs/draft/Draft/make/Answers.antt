-- Refused by a ruling, by want of space, or made.
use Rattle.std.proofs.Common.{refl}
use Rattle.std.proofs.lemmas.Result.{err_from_is_err_and}
use Rattle.message.specs.Drafts.{call_of}
use Rattle.message.proofs.Lawful.{ruled_keeps, edit_crowded, edit_placed}
use Rattle.message.proofs.draft.Draft.make.Goals as goal

pub returns-in_err-decision : goal.returns-in_err-decision
returns-in_err-decision g c =
    let p = err_from_is_err_and c.from_residual.result c.from_residual.ensures.1 in
    record {
      lawful = rw (p.1, p.2) (ruled_keeps _ _ (call_of c.args.path.now c.args.what c.args.bytes.now) c.in_err-decision.ensures.typed c.in_err-decision.field-0.0 c.in_err-decision.ensures.sound);
    }

pub returns-in_err-start : goal.returns-in_err-start
returns-in_err-start g c =
    let p = err_from_is_err_and c.from_residual-in_err-start.result c.from_residual-in_err-start.ensures.1 in
    let decided = c.in_ok-decision.ensures in
    record {
      lawful = rw (p.1, p.2)
          (edit_crowded _ _ _ c.args.path.now c.args.what c.args.bytes.now decided.typed c.in_ok-decision.decision decided.sound (c.perform.new.arena.source, refl) c.in_err-start.field-0.0 c.in_err-start.ensures.outcome);
    }

pub returns : goal.returns
returns g c =
    let decided = c.in_ok-decision.ensures in
    record {
      lawful =
          edit_placed _ _ _ c.args.path.now c.args.what c.args.bytes.now decided.typed c.in_ok-decision.decision decided.sound (c.perform.new.arena.source, refl) c.in_ok-start.start _ c.placed.ensures.value c.in_ok-start.ensures.outcome;
    }
