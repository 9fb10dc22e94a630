-- Each turn takes a letter.
use Rattle.std.proofs.Common.{◌+◌, Ok, sym, ap, ◌∙◌, subst, arith}
use Rattle.std.proofs.lemmas.Result.{err_from_is_err_and}
use Rattle.text.proofs.Pairs.{unless_any}
use Rattle.text.proofs.Quoting.{Sofar, one_more, bad_letter, closed, letter_from}
use Rattle.text.proofs.quoted.read_quoted.Goals as goal

pub returns-in_err-next_letter : goal.returns-in_err-next_letter
returns-in_err-next_letter c =
    let p = err_from_is_err_and c.from_residual.result c.from_residual.ensures.1 in
    rw p.1 (unless_any p.0 (bad_letter c.loop-bytes.invariant.1 _ (letter_from c.args.text.now c.loop-bytes.at ∙ sym c.in_err-next_letter.ensures.is)))

pub returns-in-Close : goal.returns-in-Close
returns-in-Close c =
    let used = rw c.in-Close.is at c.in_ok-next_letter.ensures.used in
    (closed c.loop-bytes.invariant.1 (letter_from c.args.text.now c.loop-bytes.at ∙ sym c.in_ok-next_letter.ensures.is ∙ ap Ok c.in-Close.is), omega (arith, used))

pub loop-bytes-preserved : goal.loop-bytes-preserved
loop-bytes-preserved c =
    let used = rw c.in-Byte.is at c.in_ok-next_letter.ensures.used in
    (omega (arith, used), subst (λ l. Sofar c.args.text.now l (c.loop-bytes.at + c.in-Byte.used)) (sym c.in_ok-push-in-Byte.ensures.items) (one_more c.loop-bytes.invariant.1 _ _ (letter_from c.args.text.now c.loop-bytes.at ∙ sym c.in_ok-next_letter.ensures.is ∙ ap Ok c.in-Byte.is)))
