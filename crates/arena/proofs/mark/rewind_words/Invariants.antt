-- The segments so far are at the mark, and offers and faults are as they were.
use Rattle.std.proofs.Common.{◌≡◌}
use Rattle.table.specs.Meaning.{table_of}
use Rattle.arena.specs.Zeroed.{rewound_words}
use Rattle.arena.proofs.mark.rewind_words.Given as goal

abbrev pub invariant-loop-g : goal.invariant-loop-g
invariant-loop-g g l =
    record {
      words : g.S.Reading.segments l.source ≡ rewound_words (g.S.Reading.segments l.initial.source) (table_of l.table) (table_of l.mark) l.g;
      offers : g.S.Source.offers l.source ≡ g.S.Source.offers l.initial.source;
      first : g.S.Source.first l.source ≡ g.S.Source.first l.initial.source;
      fault : g.S.Source.fault l.source ≡ g.S.Source.fault l.initial.source;
    }
