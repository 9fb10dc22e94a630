-- Room is found, and the slot is filled.
use Rattle.std.proofs.lemmas.Result.{err_from_is_err_and}
use Rattle.walk.specs.Shapes.{shape_meant}
use Rattle.effects.proofs.Keeping.{went_sized, went_grown}
use Rattle.making.proofs.Filling.{new_went, new_failed, inside_later}
use Rattle.law.proofs.Rooms.{after_shape}
use Rattle.making.proofs.init.init_object.Goals as goal

pub returns-in_err-start : goal.returns-in_err-start
returns-in_err-start g c =
    let p = err_from_is_err_and c.from_residual.result c.from_residual.ensures.1 in
    record {
      outcome = λ u slot fit.
          let k = c.in_err-start.ensures.outcome fit slot.inside in
          rw (p.1, p.2) (new_failed _ _ _ c.args.slot.segment c.args.slot.word u _ _ slot k.1 k.2 (shape_meant c.args.shape) k.0);
    }

pub returns : goal.returns
returns g c =
    record {
      outcome = λ u slot fit.
          let k = c.in_ok-start.ensures.outcome fit slot.inside in
          let there = c.in_ok-start.ensures.roomy fit slot.inside in
          let sh = shape_meant c.args.shape in
          let f = c.fill_slot.ensures in
          new_went _ _ _ _ c.args.slot.segment c.args.slot.word u _ sh k.0 k.1 f.rewritten
          (f.words _ u k.1 slot (went_sized _ _ _ _ _ k.0 slot.sized) fit
          (inside_later _ _ c.args.slot.segment c.args.slot.word slot.inside (went_grown _ _ _ _ _ k.0 (λ r. after_shape r c.args.slot.segment c.args.slot.word sh) c.args.slot.segment))
          there);
    }
