-- The first numbers of the row are written.
use Rattle.std.proofs.Common.{◌<◌}
use Rattle.tree.specs.Value.{rows}
use Rattle.law.specs.Law.{State, memory}
use Rattle.law.specs.Exact.{loop}
use Rattle.walk.specs.Landings.{landing_of}
use Rattle.walk.specs.Shapes.{shape_meant}
use Rattle.effects.specs.States.{meant, state_of, Rewritten}
use Rattle.widen.specs.Numbers.{Copies, number_copied, Put}
use Rattle.widen.proofs.numbers.copy_row.Given as goal

abbrev pub invariant-loop-k : goal.invariant-loop-k
invariant-loop-k g l =
    Rewritten (state_of (meant g.S.Reading.segments g.S.Source.offers g.S.Source.first) l.initial.arena)
    (state_of (meant g.S.Reading.segments g.S.Source.offers g.S.Source.first) l.arena) ×
    ((mark : State) →
    Copies mark (state_of (meant g.S.Reading.segments g.S.Source.offers g.S.Source.first) l.initial.arena) (landing_of l.old.landing) (shape_meant l.old.shape) l.new.start.segment l.new.start.word (shape_meant l.new.shape) →
    l.i < rows (shape_meant l.old.shape) →
    Put mark
    (loop l.k (number_copied (memory mark) (landing_of l.old.landing) (shape_meant l.old.shape) l.new.start.segment l.new.start.word (shape_meant l.new.shape) l.i)
    (memory (state_of (meant g.S.Reading.segments g.S.Source.offers g.S.Source.first) l.initial.arena)))
    (state_of (meant g.S.Reading.segments g.S.Source.offers g.S.Source.first) l.arena))
