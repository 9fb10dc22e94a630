-- The first k words are written, and nothing else changed.
use Rattle.std.proofs.Common.{◌≡◌, ◌+◌, ◌≤◌}
use Rattle.tree.specs.Value.{size}
use Rattle.table.specs.Segments.{allocated_in}
use Rattle.law.specs.Law.{memory}
use Rattle.law.specs.Machine.{text_shape}
use Rattle.effects.specs.States.{meant, state_of, Sized, Rewritten}
use Rattle.objects.proofs.Spelling.{partly}
use Rattle.objects.proofs.text.spell.Given as goal

abbrev pub invariant-loop-k : goal.invariant-loop-k
invariant-loop-k g l =
    Rewritten (state_of (meant g.S.Reading.segments g.S.Source.offers g.S.Source.first) l.initial.arena) (state_of (meant g.S.Reading.segments g.S.Source.offers g.S.Source.first) l.arena) ×
    (Sized (state_of (meant g.S.Reading.segments g.S.Source.offers g.S.Source.first) l.initial.arena) →
    l.start.word + size (text_shape l.bytes) ≤ allocated_in (state_of (meant g.S.Reading.segments g.S.Source.offers g.S.Source.first) l.initial.arena).table l.start.segment →
    memory (state_of (meant g.S.Reading.segments g.S.Source.offers g.S.Source.first) l.arena) ≡ partly (memory (state_of (meant g.S.Reading.segments g.S.Source.offers g.S.Source.first) l.initial.arena)) l.start.segment l.start.word l.bytes l.k)
