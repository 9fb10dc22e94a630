-- Room is found, the slot is filled, and the bytes are written.
use Rattle.std.proofs.lemmas.Result.{err_from_is_err_and}
use Rattle.walk.specs.Shapes.{shape_meant}
use Rattle.effects.proofs.Writing.{rewritten_then, rewritten_sized}
use Rattle.effects.proofs.Keeping.{went_sized, went_grown}
use Rattle.making.proofs.Filling.{text_fits, text_filled, text_placed, text_failed, text_room, text_unplaced, text_went, inside_later}
use Rattle.law.proofs.Rooms.{after_shape}
use Rattle.making.proofs.init.init_text.Goals as goal

pub returns-in_err-text : goal.returns-in_err-text
returns-in_err-text g c =
    let p = err_from_is_err_and c.from_residual.result c.from_residual.ensures.1 in
    record {
      outcome = λ u slot short.
          let is = c.text_shape-shape.ensures.value short in
          let k = c.in_err-text.ensures.outcome (text_fits c.args.bytes.now _ is short) slot.inside in
          rw (p.1, p.2) (text_failed _ _ _ c.args.slot.segment c.args.slot.word u _ _ slot k.1 k.2 c.args.bytes.now (text_unplaced _ _ _ c.args.slot.segment c.args.slot.word c.args.bytes.now _ _ is k.0));
    }

pub returns : goal.returns
returns g c =
    record {
      outcome = λ u slot short.
          let is = c.text_shape-shape.ensures.value short in
          let fit = text_fits c.args.bytes.now _ is short in
          let k = c.in_ok-text.ensures.outcome fit slot.inside in
          let there = c.in_ok-text.ensures.roomy fit slot.inside in
          let f = c.fill_slot.ensures in
          let t = c.spell.ensures in
          let sized = went_sized _ _ _ _ _ k.0 slot.sized in
          let v = text_placed _ _ _ c.args.slot.segment c.args.slot.word c.args.bytes.now _ _ is k.0 in
          let e = f.words _ u k.1 slot sized fit
          (inside_later _ _ c.args.slot.segment c.args.slot.word slot.inside (went_grown _ _ _ _ _ k.0 (λ r. after_shape r c.args.slot.segment c.args.slot.word (shape_meant c.text_shape-shape.result)) c.args.slot.segment))
          there in
          text_went _ _ _ _ c.args.slot.segment c.args.slot.word u _ c.args.bytes.now _ v k.1 (rewritten_then _ _ _ f.rewritten t.rewritten)
          (text_filled c.args.bytes.now _ is _ _ c.args.slot.segment c.args.slot.word u _ _ e)
          (t.words (rewritten_sized _ _ f.rewritten sized) (text_room c.args.bytes.now _ is _ _ c.args.slot.segment _ _ f.rewritten.same_table there));
    }
