-- The first children of the row have moved.
use Rattle.std.proofs.Common.{◌<◌}
use Rattle.tree.specs.Value.{rows}
use Rattle.law.specs.Law.{State}
use Rattle.walk.specs.Landings.{landing_of}
use Rattle.walk.specs.Shapes.{shape_meant}
use Rattle.effects.specs.States.{meant, state_of}
use Rattle.widen.specs.Moves.{Carries, child_moves}
use Rattle.widen.proofs.Carrying.{Reached}
use Rattle.widen.proofs.children.move_row.Given as goal

abbrev pub invariant-loop-j : goal.invariant-loop-j
invariant-loop-j g l =
    (mark : State) →
    Carries mark (state_of (meant g.S.Reading.segments g.S.Source.offers g.S.Source.first) l.initial.arena) (landing_of l.old.landing) (shape_meant l.old.shape) l.new.start.segment l.new.start.word (shape_meant l.new.shape) →
    l.i < rows (shape_meant l.old.shape) →
    Reached (meant g.S.Reading.segments g.S.Source.offers g.S.Source.first) mark (child_moves (landing_of l.old.landing) (shape_meant l.old.shape) l.new.start.segment l.new.start.word (shape_meant l.new.shape) l.i) l.j
    (state_of (meant g.S.Reading.segments g.S.Source.offers g.S.Source.first) l.initial.arena)
    (state_of (meant g.S.Reading.segments g.S.Source.offers g.S.Source.first) l.arena)
