-- A write replaces one word.
use Rattle.std.proofs.Common.{refl}
use Rattle.effects.proofs.Writing.{written_lengths, written_words}
use Rattle.effects.proofs.words.write_word.Goals as goal

pub returns : goal.returns
returns g c =
    let w = c.write.ensures.outcome in
    record {
      rewritten = record { same_lengths = written_lengths _ _ _ _ _ _ w; same_offers = c.write.ensures.offers; same_first = c.write.ensures.first; same_table = refl };
      words = λ sized inside. written_words _ _ _ c.args.arena.now.table _ _ _ w sized inside;
    }
