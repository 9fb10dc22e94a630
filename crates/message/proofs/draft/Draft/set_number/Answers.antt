-- Refused by a ruling, by want of space, or written.
use Rattle.std.proofs.Common.{refl, ap}
use Rattle.std.proofs.lemmas.Result.{err_from_is_err_and}
use Rattle.judging.specs.Rulings.{home_of}
use Rattle.message.proofs.Lawful.{ruled_keeps, number_call, number_crowded, number_done}
use Rattle.message.proofs.draft.Draft.set_number.Goals as goal

pub returns-in_err-place : goal.returns-in_err-place
returns-in_err-place g c =
    let p = err_from_is_err_and c.from_residual.result c.from_residual.ensures.1 in
    let x = g.E.PrimitiveElement.bits c.args.x in
    record {
      lawful = rw (p.1, p.2)
          (ruled_keeps _ _ (number_call c.args.path.now (home_of c.args.at.home) g.E.PrimitiveElement.code c.args.at.index x) (c.known-x.ensures.typed (home_of c.args.at.home) c.args.at.index) c.in_err-place.field-0.0 (λ a v small shown. c.in_err-place.ensures.sound a v small shown x));
    }

pub returns-in_err-perform_number : goal.returns-in_err-perform_number
returns-in_err-perform_number g c =
    let p = err_from_is_err_and c.from_residual-in_err-perform_number.result c.from_residual-in_err-perform_number.ensures.1 in
    record {
      lawful = rw (p.1, p.2)
          (number_crowded _ _ _ c.args.path.now (home_of c.args.at.home) g.E.PrimitiveElement.code c.args.at.index (g.E.PrimitiveElement.bits c.args.x) _ (c.known-x.ensures.typed (home_of c.args.at.home) c.args.at.index) c.in_ok-place.place c.in_ok-place.ensures.sound
          (c.perform_number.new.arena.source, refl) (ap g.E.PrimitiveElement.bits c.known-x.ensures.same) c.in_err-perform_number.field-0.0 c.in_err-perform_number.ensures.outcome);
    }

pub returns : goal.returns
returns g c =
    record {
      lawful =
          number_done _ _ _ c.args.path.now (home_of c.args.at.home) g.E.PrimitiveElement.code c.args.at.index (g.E.PrimitiveElement.bits c.args.x) _ (c.known-x.ensures.typed (home_of c.args.at.home) c.args.at.index) c.in_ok-place.place c.in_ok-place.ensures.sound
          (c.perform_number.new.arena.source, refl) (ap g.E.PrimitiveElement.bits c.known-x.ensures.same) _ c.in_ok-perform_number.ensures.outcome;
    }
