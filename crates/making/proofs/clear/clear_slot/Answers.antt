-- What the slot reaches, then the slot.
use Rattle.effects.proofs.Writing.{rewritten_then, rewritten_sized}
use Rattle.making.proofs.Clearing.{cleared, zeroed_state}
use Rattle.making.proofs.clear.clear_slot.Goals as goal

pub returns : goal.returns
returns g c =
    let z = c.zero_object.ensures in
    let r = zeroed_state _ _ _ _ _ _ _ z.lengths z.steady.offers z.steady.first in
    record {
      rewritten = rewritten_then _ _ _ r c.write_word.ensures.rewritten;
      words = λ s u same slot sized inside.
          cleared s _ _ _ c.args.slot.segment c.args.slot.word u same slot z.cleared (c.write_word.ensures.words (rewritten_sized _ _ r sized) inside);
    }
