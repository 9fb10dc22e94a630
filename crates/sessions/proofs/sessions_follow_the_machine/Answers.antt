-- From the law of one call to whole lists.
use Rattle.sessions.proofs.Sessions.{sessions_stand}
use Rattle.sessions.proofs.sessions_follow_the_machine.Goals as goal

pub returns : goal.returns
returns g c = sessions_stand _ _
