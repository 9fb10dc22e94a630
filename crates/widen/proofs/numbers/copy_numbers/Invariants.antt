-- The numbers of the first rows are written.
use Rattle.law.specs.Law.{State, memory}
use Rattle.law.specs.Exact.{loop}
use Rattle.walk.specs.Landings.{landing_of}
use Rattle.walk.specs.Shapes.{shape_meant}
use Rattle.effects.specs.States.{meant, state_of, Rewritten}
use Rattle.widen.specs.Numbers.{Copies, row_copied, Put}
use Rattle.widen.proofs.numbers.copy_numbers.Given as goal

abbrev pub invariant-loop-i : goal.invariant-loop-i
invariant-loop-i g l =
    Rewritten (state_of (meant g.S.Reading.segments g.S.Source.offers g.S.Source.first) l.initial.arena)
    (state_of (meant g.S.Reading.segments g.S.Source.offers g.S.Source.first) l.arena) ×
    ((mark : State) →
    Copies mark (state_of (meant g.S.Reading.segments g.S.Source.offers g.S.Source.first) l.initial.arena) (landing_of l.old.landing) (shape_meant l.old.shape) l.new.start.segment l.new.start.word (shape_meant l.new.shape) →
    Put mark
    (loop l.i (row_copied (memory mark) (landing_of l.old.landing) (shape_meant l.old.shape) l.new.start.segment l.new.start.word (shape_meant l.new.shape))
    (memory (state_of (meant g.S.Reading.segments g.S.Source.offers g.S.Source.first) l.initial.arena)))
    (state_of (meant g.S.Reading.segments g.S.Source.offers g.S.Source.first) l.arena))
