-- The old object, then the slot.
use Rattle.walk.specs.Landings.{landing_of}
use Rattle.walk.specs.Shapes.{shape_meant}
use Rattle.effects.proofs.Writing.{rewritten_then}
use Rattle.rebuilding.proofs.Closing.{closed_old, zeroed_state}
use Rattle.rebuilding.proofs.rebuild.close_old.Goals as goal

pub returns : goal.returns
returns g c =
    let z = c.zero_landing.ensures in
    let a = c.aim_slot.ensures in
    let r = zeroed_state _ _ _ _ _ _ _ z.lengths z.steady.offers z.steady.first in
    record {
      rewritten = rewritten_then _ _ _ r a.rewritten;
      words =
          closed_old _ _ _ c.args.new.slot.segment c.args.new.slot.word (landing_of c.args.old.landing) (shape_meant c.args.old.shape) c.args.new.start.segment c.args.new.start.word (shape_meant c.args.new.shape)
          r z.own a.words;
    }
