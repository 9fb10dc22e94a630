-- From the law of one call.
use Rattle.law.proofs.Drafts.{runs}
use Rattle.law.proofs.runs_follow_the_machine.Goals as goal

pub returns : goal.returns
returns g c = runs _ _
