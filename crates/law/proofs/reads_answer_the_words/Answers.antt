-- Every number stands in the word that the definition names.
use Rattle.law.proofs.Looks.{reads}
use Rattle.law.proofs.reads_answer_the_words.Goals as goal

pub returns : goal.returns
returns c = reads
