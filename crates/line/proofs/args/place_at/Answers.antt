-- What `read_place` says of the word at the place; where there is no word, there is no path.
use Rattle.std.proofs.Common.{inr, rules}
use Rattle.std.proofs.lemmas.Result.{err_from_is_err_and}
use Rattle.line.proofs.Places.{placed, no_path}
use Rattle.line.proofs.args.place_at.Goals as goal

pub returns-in_err-word_at : goal.returns-in_err-word_at
returns-in_err-word_at c =
    let p = err_from_is_err_and c.from_residual.result c.from_residual.ensures.1 in
    rw p.1 (inr (no_path _ _ c.in_err-word_at.ensures))

pub returns : goal.returns
returns c = placed _ _ _ _ _ c.map_err.ensures.cases (λ e y q. search rules) c.in_ok-word_at.ensures.1 c.read_place.ensures
