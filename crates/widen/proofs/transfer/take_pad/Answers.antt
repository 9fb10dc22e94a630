-- A landing pad by the rule.
use Rattle.effects.specs.States.{meant, state_of}
use Rattle.effects.proofs.Allocations.{at_most, pad_part}
use Rattle.widen.proofs.transfer.take_pad.Goals as goal

pub returns : goal.returns
returns g c = record {
  outcome = λ there.
      pad_part (meant g.S.Reading.segments g.S.Source.offers g.S.Source.first) _
      (state_of (meant g.S.Reading.segments g.S.Source.offers g.S.Source.first) c.args.arena.now)
      c.place_pad.new.self.source _
      (at_most c.args.arena.now.table)
      (g.S.Source.bounds c.place_pad.new.self.source)
      c.args.g there c.place_pad.result c.place_pad.ensures.outcome;
}
