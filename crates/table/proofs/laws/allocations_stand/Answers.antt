-- What holds of allocations.
use Rattle.table.proofs.Allocations.{allocations}
use Rattle.table.proofs.laws.allocations_stand.Goals as goal

pub returns : goal.returns
returns c = allocations
