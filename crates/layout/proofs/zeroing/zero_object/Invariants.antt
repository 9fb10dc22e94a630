-- What the walk has left is zero; lengths, offers and faults are as they were.
use Rattle.std.proofs.Common.{◌≡◌, map, length}
use Rattle.tree.specs.Words.{word}
use Rattle.cursor.specs.Begun.{stack}
use Rattle.cursor.specs.Weight.{weight}
use Rattle.layout.proofs.Walks.{Clearing}
use Rattle.layout.proofs.zeroing.zero_object.Given as goal

abbrev pub invariant-loop-event : goal.invariant-loop-event
invariant-loop-event g l =
    record {
      clearing : Clearing (word (g.S.Reading.segments l.initial.source)) l.fn.slot.segment l.fn.slot.word (word (g.S.Reading.segments l.source)) (stack l.cursor);
      lengths : map length (g.S.Reading.segments l.source) ≡ map length (g.S.Reading.segments l.initial.source);
      offers : g.S.Source.offers l.source ≡ g.S.Source.offers l.initial.source;
      first : g.S.Source.first l.source ≡ g.S.Source.first l.initial.source;
      fault : g.S.Source.fault l.source ≡ g.S.Source.fault l.initial.source;
    }

abbrev pub decreases-loop-event : goal.decreases-loop-event
decreases-loop-event g l = weight (stack l.cursor)
