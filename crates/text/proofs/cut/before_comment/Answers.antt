-- What `split_once` says of the first `#`.
use Rattle.std.proofs.Common.{◌≡◌, ℕ, ◌∷◌, ◌++◌, List, Some, None, Option, MatchOption, Bor, refl, sym, subst, inl, inr, lit<, rules}
use Rattle.std.proofs.lemmas.Str.Pattern.{split_parts}
use Rattle.text.specs.Lines.{Lacks, Uncommented}
use Rattle.text.proofs.cut.before_comment.Goals as goal

headed : (line r : Bor (List ℕ)) (o : Option (Bor (List ℕ) × Bor (List ℕ))) (Q : Bor (List ℕ) × Bor (List ℕ) → Type 0) → MatchOption o (r ≡ line) Q → ((a b : Bor (List ℕ)) → Q (a, b) → r ≡ a) → MatchOption o (Lacks 35 line.now) (λ x. (line.now ≡ x.0.now ++ (35 ∷ x.1.now)) × Lacks 35 x.0.now) → Uncommented line.now r.now
headed line r None Q e f h = subst (λ l. Uncommented line.now l.now) (sym e) (h, inl refl)
headed line r (Some (a, b)) Q e f h = subst (λ l. Uncommented line.now l.now) (sym (f a b e)) (h.1, inr (_, h.0))

pub returns : goal.returns
returns c = headed c.args.line c.map_or.result c.split_once.result _ c.map_or.ensures (λ a b q. search rules) (split_parts 35 _ _ c.split_once.ensures.cases (lit< tt))
