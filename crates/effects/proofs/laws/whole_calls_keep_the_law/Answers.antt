-- Each of the three ways in which a call ends.
use Rattle.effects.proofs.Calls.{whole_calls}
use Rattle.effects.proofs.laws.whole_calls_keep_the_law.Goals as goal

pub returns : goal.returns
returns g c = whole_calls _ _
