-- The first two `:` part the three numbers.
use Rattle.std.proofs.Common.{lit<}
use Rattle.std.proofs.lemmas.Str.Pattern.{split_parts}
use Rattle.std.proofs.lemmas.Option.{MatchOption-at_some, MatchOption-at_none}
use Rattle.path.proofs.StepForms.{refused, refuses, free_only, no_free, no_second}
use Rattle.path.proofs.step.free_step.Goals as goal

pub returns-in_err-first : goal.returns-in_err-first
returns-in_err-first c = refuses _ _ _ c.from_residual.ensures.1 (no_free _ (MatchOption-at_none _ _ c.in_err-first.ensures.ok_part (split_parts 58 _ _ c.split_once.ensures.cases (lit< tt))))

pub returns-in_err-second : goal.returns-in_err-second
returns-in_err-second c =
    let k = MatchOption-at_some _ _ _ c.in_ok-first.ensures.ok_part (split_parts 58 _ _ c.split_once.ensures.cases (lit< tt)) in
    refuses _ _ _ c.from_residual-in_err-second.ensures.1 (no_second _ _ _ k.0 k.1 (MatchOption-at_none _ _ c.in_err-second.ensures.ok_part (split_parts 58 _ _ c.split_once-2.ensures.cases (lit< tt))))

pub returns-in_err-read_number : goal.returns-in_err-read_number
returns-in_err-read_number c =
    let k = MatchOption-at_some _ _ _ c.in_ok-first.ensures.ok_part (split_parts 58 _ _ c.split_once.ensures.cases (lit< tt)) in
    let m = MatchOption-at_some _ _ _ c.in_ok-second.ensures.ok_part (split_parts 58 _ _ c.split_once-2.ensures.cases (lit< tt)) in
    refuses _ _ _ c.from_residual-in_err-read_number.ensures.1 (λ s t. let q = free_only _ _ _ _ _ k.0 k.1 m.0 m.1 s t in refused _ _ _ c.in_err-read_number.ensures q.0.0 q.0.1)

pub returns-in_err-read_number-2 : goal.returns-in_err-read_number-2
returns-in_err-read_number-2 c =
    let k = MatchOption-at_some _ _ _ c.in_ok-first.ensures.ok_part (split_parts 58 _ _ c.split_once.ensures.cases (lit< tt)) in
    let m = MatchOption-at_some _ _ _ c.in_ok-second.ensures.ok_part (split_parts 58 _ _ c.split_once-2.ensures.cases (lit< tt)) in
    refuses _ _ _ c.from_residual-in_err-read_number-2.ensures.1 (λ s t. let q = free_only _ _ _ _ _ k.0 k.1 m.0 m.1 s t in refused _ _ _ c.in_err-read_number-2.ensures q.1.0 q.1.1)

pub returns-in_err-read_number-3 : goal.returns-in_err-read_number-3
returns-in_err-read_number-3 c =
    let k = MatchOption-at_some _ _ _ c.in_ok-first.ensures.ok_part (split_parts 58 _ _ c.split_once.ensures.cases (lit< tt)) in
    let m = MatchOption-at_some _ _ _ c.in_ok-second.ensures.ok_part (split_parts 58 _ _ c.split_once-2.ensures.cases (lit< tt)) in
    refuses _ _ _ c.from_residual-in_err-read_number-3.ensures.1 (λ s t. let q = free_only _ _ _ _ _ k.0 k.1 m.0 m.1 s t in refused _ _ _ c.in_err-read_number-3.ensures q.2.0 q.2.1)
