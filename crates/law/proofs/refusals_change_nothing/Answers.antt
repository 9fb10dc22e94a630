-- By what the judge says and placing gives.
use Rattle.law.proofs.Tables.{tables}
use Rattle.law.proofs.refusals_change_nothing.Goals as goal

pub returns : goal.returns
returns g c = tables _
