-- The run and the greedy call.
use Rattle.law.proofs.Excluded.{examples}
use Rattle.law.proofs.examples_hold.Goals as goal

pub returns : goal.returns
returns c = examples
