-- A quote opens a text unless a `#` stands before it.
use Rattle.std.proofs.Common.{lit<}
use Rattle.std.proofs.lemmas.Str.Pattern.{split_parts, contains_char}
use Rattle.std.proofs.lemmas.Option.{MatchOption-at_some, MatchOption-at_none}
use Rattle.text.specs.Lines.{Lacks}
use Rattle.text.proofs.Marks.{no_quote, quote_in_comment, lacks_from}
use Rattle.text.proofs.cut.split_quote.Goals as goal
use Rattle.text.proofs.cut.split_quote.Goals.{in_default-via-in-Some+else-not-contains, in_default-via-in_default}

pub returns-in-Some : goal.returns-in-Some
returns-in-Some c =
    let p = MatchOption-at_some _ _ _ c.in-Some.is (split_parts 34 _ _ c.split_once.ensures.cases (lit< tt)) in
    (p.1, lacks_from 35 _ _ c.if-not-contains.true (contains_char 35 _ _ c.contains.ensures.cases (lit< tt)).1, p.0)

pub returns-in_default : goal.returns-in_default
returns-in_default c =
    let head : Lacks 34 c.before_comment.result.now =
    elim c.in_default.branch [
      | in_default-via-in-Some+else-not-contains w ↦
          (let p = MatchOption-at_some _ _ _ w.in-Some.is (split_parts 34 _ _ c.split_once.ensures.cases (lit< tt)) in
          quote_in_comment _ _ _ _ p.0 p.1 ((contains_char 35 _ _ w.contains.ensures.cases (lit< tt)).0 w.if-not-contains.false) c.before_comment.ensures)
      | in_default-via-in_default w ↦ no_quote _ _ (MatchOption-at_none _ _ w.in_default.is (split_parts 34 _ _ c.split_once.ensures.cases (lit< tt))) c.before_comment.ensures
    ] in
    (head, c.before_comment.ensures)
