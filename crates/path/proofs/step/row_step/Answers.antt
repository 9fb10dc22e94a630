-- The first `p` parts the row from the pointer.
use Rattle.std.proofs.Common.{lit<}
use Rattle.std.proofs.lemmas.Str.Pattern.{split_parts}
use Rattle.std.proofs.lemmas.Option.{MatchOption-at_some, MatchOption-at_none}
use Rattle.path.proofs.StepForms.{refused, refuses, row_only, no_row}
use Rattle.path.proofs.step.row_step.Goals as goal

pub returns-in_err-row : goal.returns-in_err-row
returns-in_err-row c = refuses _ _ _ c.from_residual.ensures.1 (no_row _ (MatchOption-at_none _ _ c.in_err-row.ensures.ok_part (split_parts 112 _ _ c.split_once.ensures.cases (lit< tt))))

pub returns-in_err-read_number : goal.returns-in_err-read_number
returns-in_err-read_number c =
    let k = MatchOption-at_some _ _ _ c.in_ok-row.ensures.ok_part (split_parts 112 _ _ c.split_once.ensures.cases (lit< tt)) in
    refuses _ _ _ c.from_residual-in_err-read_number.ensures.1 (λ s t. let q = row_only _ _ _ k.0 k.1 s t in refused _ _ _ c.in_err-read_number.ensures q.0.0 q.0.1)

pub returns-in_err-read_number-2 : goal.returns-in_err-read_number-2
returns-in_err-read_number-2 c =
    let k = MatchOption-at_some _ _ _ c.in_ok-row.ensures.ok_part (split_parts 112 _ _ c.split_once.ensures.cases (lit< tt)) in
    refuses _ _ _ c.from_residual-in_err-read_number-2.ensures.1 (λ s t. let q = row_only _ _ _ k.0 k.1 s t in refused _ _ _ c.in_err-read_number-2.ensures q.1.0 q.1.1)
