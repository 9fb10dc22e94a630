-- By the placing rule.
use Rattle.effects.specs.States.{meant, state_of}
use Rattle.effects.proofs.Allocations.{at_most, place_part}
use Rattle.objects.proofs.place.take_words.Goals as goal

pub returns : goal.returns
returns g c = record {
  outcome = λ there small.
      place_part (meant g.S.Reading.segments g.S.Source.offers g.S.Source.first) _ (state_of (meant g.S.Reading.segments g.S.Source.offers g.S.Source.first) c.args.arena.now) c.place.new.self.source _
      (at_most c.args.arena.now.table)
      (g.S.Source.bounds c.place.new.self.source)
      c.args.g there c.args.n small c.place.result c.place.ensures.outcome;
}
