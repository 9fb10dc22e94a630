-- Each is computed.
use Rattle.law.proofs.Cases.{worked}
use Rattle.law.proofs.worked_cases_hold.Goals as goal

pub returns : goal.returns
returns c = worked
