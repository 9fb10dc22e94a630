-- The children of the first rows have moved.
use Rattle.law.specs.Law.{State}
use Rattle.walk.specs.Landings.{landing_of}
use Rattle.walk.specs.Shapes.{shape_meant}
use Rattle.effects.specs.States.{meant, state_of}
use Rattle.widen.specs.Moves.{Carries, row_moves}
use Rattle.widen.proofs.Carrying.{Reached}
use Rattle.widen.proofs.children.move_children.Given as goal

abbrev pub invariant-loop-i : goal.invariant-loop-i
invariant-loop-i g l =
    (mark : State) →
    Carries mark (state_of (meant g.S.Reading.segments g.S.Source.offers g.S.Source.first) l.initial.arena) (landing_of l.old.landing) (shape_meant l.old.shape) l.new.start.segment l.new.start.word (shape_meant l.new.shape) →
    Reached (meant g.S.Reading.segments g.S.Source.offers g.S.Source.first) mark (row_moves (landing_of l.old.landing) (shape_meant l.old.shape) l.new.start.segment l.new.start.word (shape_meant l.new.shape)) l.i
    (state_of (meant g.S.Reading.segments g.S.Source.offers g.S.Source.first) l.initial.arena)
    (state_of (meant g.S.Reading.segments g.S.Source.offers g.S.Source.first) l.arena)
