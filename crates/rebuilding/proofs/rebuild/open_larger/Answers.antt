-- Pad and tag, then the numbers.
use Rattle.walk.specs.Landings.{landing_of}
use Rattle.walk.specs.Shapes.{shape_meant}
use Rattle.effects.proofs.Writing.{rewritten_then}
use Rattle.rebuilding.proofs.Opening.{opened_larger}
use Rattle.rebuilding.proofs.rebuild.open_larger.Goals as goal

pub returns : goal.returns
returns g c =
    let p = c.open_object.ensures in
    let q = c.copy_numbers.ensures in
    record {
      rewritten = rewritten_then _ _ _ p.rewritten q.rewritten;
      words = λ mark o.
          opened_larger mark _ _ _ c.args.new.slot.segment (landing_of c.args.old.landing) (shape_meant c.args.old.shape) c.args.new.start.segment c.args.new.start.word (shape_meant c.args.new.shape)
          o p.rewritten (p.words o.copies.prepared.sized o.fits o.room) q.words;
    }
