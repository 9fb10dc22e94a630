-- For every edit.
use Rattle.law.proofs.Enough.{exact}
use Rattle.law.proofs.exact_words_keep_the_law.Goals as goal

pub returns : goal.returns
returns g c = exact _
