-- The laws of the layout.
use Rattle.tree.proofs.Laws.{laws}
use Rattle.tree.proofs.layout_stands.Goals as goal

pub returns : goal.returns
returns c = laws
