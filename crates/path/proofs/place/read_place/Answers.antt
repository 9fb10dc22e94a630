-- A leading slash, and then the steps.
use Rattle.std.proofs.Common.{lit<, true-eqb}
use Rattle.std.proofs.lemmas.Str.Pattern.{strip_prefix_char}
use Rattle.std.proofs.lemmas.Option.{MatchOption-at_some, MatchOption-at_none}
use Rattle.std.proofs.lemmas.Result.{err_from_is_err_and}
use Rattle.path.proofs.PathSteps.{no_slash, the_root, to_path, unless_any}
use Rattle.path.proofs.place.read_place.Goals as goal

pub returns-in_err-rest : goal.returns-in_err-rest
returns-in_err-rest c =
    let p = err_from_is_err_and c.from_residual.result c.from_residual.ensures.1 in
    rw p.1 (unless_any p.0 (no_slash _ (MatchOption-at_none _ _ c.in_err-rest.ensures.ok_part (strip_prefix_char 47 _ _ c.strip_prefix.ensures.cases (lit< tt)))))

pub returns-then-is_empty : goal.returns-then-is_empty
returns-then-is_empty c =
    let e = MatchOption-at_some _ _ _ c.in_ok-rest.ensures.ok_part (strip_prefix_char 47 _ _ c.strip_prefix.ensures.cases (lit< tt)) in
    the_root _ _ _ e (true-eqb _ 0 c.if-is_empty.ensures) c.new.ensures.items

pub returns : goal.returns
returns c =
    let e = MatchOption-at_some _ _ _ c.in_ok-rest.ensures.ok_part (strip_prefix_char 47 _ _ c.strip_prefix.ensures.cases (lit< tt)) in
    to_path _ _ _ e c.in_ok-read_steps.ensures
