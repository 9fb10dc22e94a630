-- First the room, then the new words, the children and the slot.
use Rattle.std.proofs.Common.{◌+◌, refl}
use Rattle.std.proofs.lemmas.Result.{err_from_is_err_and}
use Rattle.tree.specs.Value.{size}
use Rattle.walk.specs.Landings.{landing_of}
use Rattle.walk.specs.Shapes.{shape_meant}
use Rattle.effects.specs.States.{meant, state_of}
use Rattle.rebuilding.proofs.Rebuilding.{fails_at_once}
use Rattle.rebuilding.proofs.Marked.{fails_by, went_by}
use Rattle.rebuilding.proofs.rebuild.rebuild_object.Goals as goal

pub returns-in_err-start : goal.returns-in_err-start
returns-in_err-start g c =
    let p = err_from_is_err_and c.from_residual.result c.from_residual.ensures.1 in
    record {
      outcome = λ u slot leads larger fits.
          rw (p.1, p.2)
          (fails_at_once (meant g.S.Reading.segments g.S.Source.offers g.S.Source.first)
          (state_of (meant g.S.Reading.segments g.S.Source.offers g.S.Source.first) c.args.arena.now)
          (state_of (meant g.S.Reading.segments g.S.Source.offers g.S.Source.first) c.place_shape.new.arena)
          c.args.slot.segment c.args.slot.word (shape_meant c.args.old.shape) (shape_meant c.args.larger) u
          (size (shape_meant c.args.larger) + 1)
          c.in_err-start.field-0.0.minimum
          slot leads.live leads.shaped (c.in_err-start.ensures.outcome fits slot.inside));
    }

pub returns-in_err-move_children : goal.returns-in_err-move_children
returns-in_err-move_children g c =
    let p = err_from_is_err_and c.from_residual-in_err-move_children.result c.from_residual-in_err-move_children.ensures.1 in
    let o = c.open_larger.ensures in
    record {
      outcome = λ u slot leads larger fits.
          let k = c.in_ok-start.ensures in
          rw (p.1, p.2)
          (fails_by (meant g.S.Reading.segments g.S.Source.offers g.S.Source.first)
          (state_of (meant g.S.Reading.segments g.S.Source.offers g.S.Source.first) c.args.arena.now)
          (state_of (meant g.S.Reading.segments g.S.Source.offers g.S.Source.first) c.place_shape.new.arena)
          (state_of (meant g.S.Reading.segments g.S.Source.offers g.S.Source.first) c.open_larger.new.arena)
          c.args.arena.now.table c.args.slot.segment c.args.slot.word c.in_ok-start.start.segment c.in_ok-start.start.word
          (landing_of c.args.old.landing) (shape_meant c.args.old.shape) (shape_meant c.args.larger) u
          refl slot leads.live leads.lands leads.shaped larger fits (k.outcome fits slot.inside) (k.roomy fits slot.inside) o.rewritten o.words
          (state_of (meant g.S.Reading.segments g.S.Source.offers g.S.Source.first) c.move_children.new.arena)
          c.in_err-move_children.field-0.0.minimum
          c.in_err-move_children.ensures.outcome);
    }

pub returns : goal.returns
returns g c =
    let o = c.open_larger.ensures in
    record {
      outcome = λ u slot leads larger fits.
          let k = c.in_ok-start.ensures in
          went_by (meant g.S.Reading.segments g.S.Source.offers g.S.Source.first)
          (state_of (meant g.S.Reading.segments g.S.Source.offers g.S.Source.first) c.args.arena.now)
          (state_of (meant g.S.Reading.segments g.S.Source.offers g.S.Source.first) c.place_shape.new.arena)
          (state_of (meant g.S.Reading.segments g.S.Source.offers g.S.Source.first) c.open_larger.new.arena)
          c.args.arena.now.table c.args.slot.segment c.args.slot.word c.in_ok-start.start.segment c.in_ok-start.start.word
          (landing_of c.args.old.landing) (shape_meant c.args.old.shape) (shape_meant c.args.larger) u
          refl slot leads.live leads.lands leads.shaped larger fits (k.outcome fits slot.inside) (k.roomy fits slot.inside) o.rewritten o.words
          (state_of (meant g.S.Reading.segments g.S.Source.offers g.S.Source.first) c.move_children.new.arena)
          (state_of (meant g.S.Reading.segments g.S.Source.offers g.S.Source.first) c.close_old.new.arena)
          c.in_ok-move_children.ensures.outcome
          c.close_old.ensures.rewritten
          c.close_old.ensures.words;
    }
