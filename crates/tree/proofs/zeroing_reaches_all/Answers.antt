-- The walk that zeroes.
use Rattle.tree.proofs.Laws.{zeroing}
use Rattle.tree.proofs.zeroing_reaches_all.Goals as goal

pub returns : goal.returns
returns c = zeroing
