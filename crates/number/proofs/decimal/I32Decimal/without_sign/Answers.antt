-- What `strip_prefix` says of a leading minus.
use Rattle.std.proofs.Common.{◌≡◌, ℕ, ◌∷◌, List, Some, None, Option, Bor, MatchOption, refl, inl, inr, lit<, subst, sym}
use Rattle.std.proofs.lemmas.Str.Pattern.{strip_prefix_char}
use Rattle.std.specs.Prelude.{unwrap_or, ◌≢◌}
use Rattle.number.specs.Numbers.{WithoutMinus}
use Rattle.number.proofs.decimal.I32Decimal.without_sign.Goals as goal

stripped : (w : Bor (List ℕ)) (o : Option (Bor (List ℕ))) → MatchOption o ((rest : List ℕ) → w.now ≢ 45 ∷ rest) (λ d. w.now ≡ 45 ∷ d.now) → WithoutMinus w.now (unwrap_or o w).now
stripped w (Some d) h = inl h
stripped w None h = inr (refl, h)

pub returns : goal.returns
returns c = subst (λ d. WithoutMinus c.args.word.now d.now) (sym c.unwrap_or.ensures) (stripped c.args.word _ (strip_prefix_char 45 _ _ c.strip_prefix.ensures.cases (lit< tt)))
