-- The words so far are zero, and offers and faults are as they were.
use Rattle.std.proofs.Common.{◌≡◌, ◌-◌}
use Rattle.arena.specs.Zeroed.{zeroed_words}
use Rattle.arena.proofs.zeroing.zero_words.Given as goal

abbrev pub invariant-loop-w : goal.invariant-loop-w
invariant-loop-w g l =
    record {
      words : g.S.Reading.segments l.source ≡ zeroed_words (g.S.Reading.segments l.initial.source) l.g l.from (l.w - l.from);
      offers : g.S.Source.offers l.source ≡ g.S.Source.offers l.initial.source;
      first : g.S.Source.first l.source ≡ g.S.Source.first l.initial.source;
      fault : g.S.Source.fault l.source ≡ g.S.Source.fault l.initial.source;
    }
