-- After a backslash.
use Rattle.std.proofs.Common.{length, sym, ◌∙◌, subst}
use Rattle.text.specs.Quotes.{Used}
use Rattle.text.proofs.Quoting.{used_escaped, behind}
use Rattle.text.proofs.quoted.next_letter.Goals as goal

pub returns-in-92-clause-used : goal.returns-in-92-clause-used
returns-in-92-clause-used c = subst (Used (length c.args.text.now)) (sym (c.escape.ensures ∙ behind c.args.text.now)) (used_escaped c.args.text.now)
