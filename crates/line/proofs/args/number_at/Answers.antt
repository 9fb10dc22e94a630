-- Where there is no word, there is no number.
use Rattle.std.proofs.Common.{ap, length, arith}
use Rattle.std.proofs.lemmas.Result.{err_from_is_err_and}
use Rattle.line.proofs.Places.{past}
use Rattle.line.proofs.args.number_at.Goals as goal

pub returns-in_err-word_at : goal.returns-in_err-word_at
returns-in_err-word_at g c =
    let p = err_from_is_err_and c.from_residual.result c.from_residual.ensures.1 in
    rw p.1 (λ n h. omega (arith, g.met.T.Decimal.some _ n h, ap length (past c.args.words.now c.args.at c.in_err-word_at.ensures)))
