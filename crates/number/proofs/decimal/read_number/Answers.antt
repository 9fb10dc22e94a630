-- What the law says of `parse`, carried over the change of the error.
use Rattle.std.proofs.Common.{◌≡◌, arith, false-eqb, Ok, Err, Result, MatchResult, sym, ap, subst, rules}
use Rattle.std.specs.Result.{IsErrAnd}
use Rattle.number.proofs.decimal.read_number.Goals as goal

told : {T E D : Type 0} (s : Result T E) (r : Result T D) (P : Result T D → Type 0) (Q : E → D → Type 0) (d : D) → MatchResult s (λ x. r ≡ Ok x) (λ e. IsErrAnd r (Q e)) → ((e : E) (y : D) → Q e y → y ≡ d) → MatchResult s (λ x. P (Ok x)) (λ _. P (Err d)) → P r
told (Ok x) r P Q d e q h = subst P (sym e) h
told (Err f) (Ok y) P Q d e q h = absurd e
told (Err f) (Err y) P Q d e q h = subst P (ap Err (sym (q f y e))) h

pub returns : goal.returns
returns g c =
    told c.parse.result c.map_err.result (g.T.Decimal.reads c.args.word.now) _ _ c.map_err.ensures.cases (λ e y q. search rules)
    (g.met.T.Decimal.parses _ _ c.without_sign-digits.ensures (omega (arith, false-eqb _ 0 c.if-is_empty.ensures), c.all_digits.ensures.0 c.if-not-all_digits.false) _ c.parse.ensures.value)
