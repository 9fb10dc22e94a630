-- What is written is read as that number alone.
use Rattle.std.proofs.Common.{subst, IfSome, sym, ◌≡◌}
use Rattle.number.proofs.back.reread.Goals as goal

pub returns : goal.returns
returns g c = g.met.T.Decimal.again c.args.n c.in_range.ensures _ (subst (λ l. IfSome (g.T.Display.output c.args.n) (λ cs. l ≡ cs)) (sym c.as_str.ensures.value) c.in_ok-text.ensures.ok) _ c.read_number.ensures
