-- Each by one word, number or list that the law pins.
use Rattle.law.proofs.Excluded.{excluded}
use Rattle.law.proofs.wrong_behaviours_are_excluded.Goals as goal

pub returns : goal.returns
returns g c = excluded _
