-- The word that `get` finds.
use Rattle.line.proofs.Places.{found}
use Rattle.line.proofs.args.word_at.Goals as goal

pub returns : goal.returns
returns c = rw (c.ok_or.ensures.value, c.copied.ensures) (found c.args.words.now c.args.at _ _ c.get.ensures.lookup)
