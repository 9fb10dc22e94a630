-- A word past the last one is empty, and the empty word is no argument.
use Rattle.std.proofs.Common.{◌≡◌, ℕ, zero, suc, ◌<◌, ◌≤◌, ◌⊎◌, List, [], ◌∷◌, length, get_or, Some, None, Option, Ok, Err, Result, MatchResult, sym, refl, ap, ◌∙◌, subst, inl, inr, arith, rules, Bor}
use Rattle.std.specs.Option.{option_map, ok_or}
use Rattle.std.specs.Result.{IsErrAnd}
use Rattle.std.specs.Slice.{IsItemAt}
use Rattle.number.specs.declared.kind.Kind.{Kind}
use Rattle.number.specs.declared.kind.Kind.TheVariants as kind
use Rattle.number.specs.declared.kind.Value.{Value}
use Rattle.number.specs.Kinds.{kind_name, ValueText}
use Rattle.path.specs.declared.place.Place.{Place}
use Rattle.path.specs.declared.step.Step.{Step}
use Rattle.path.specs.declared.step.PathFault.{PathFault}
use Rattle.path.specs.declared.step.PathFault.TheVariants as path
use Rattle.path.specs.Paths.{PathText, Unless}
use Rattle.path.proofs.PathSteps.{no_slash}
use Rattle.line.specs.declared.fault.Fault.{Fault}
use Rattle.line.specs.declared.fault.Fault.TheVariants.{Memory}
use Rattle.line.specs.declared.fault.Problem.{Problem}
use Rattle.line.specs.Arguments.{word_at, path_fault}

pub past : (ws : List (Bor (List ℕ))) (i : ℕ) → length ws ≤ i → word_at ws i ≡ []
past [] i l = refl
past (w ∷ ws) zero l = absurd (omega arith)
past (w ∷ ws) (suc i) l = past ws i (omega arith)

pub within : (ws : List (Bor (List ℕ))) (i : ℕ) (d : Bor (List ℕ)) → i < length ws → word_at ws i ≡ (get_or ws i d).now
within [] i d l = absurd (omega arith)
within (w ∷ ws) zero d l = refl
within (w ∷ ws) (suc i) d l = within ws i d (omega arith)

pub found : (ws : List (Bor (List ℕ))) (i : ℕ) (o : Option (Bor (Bor (List ℕ)))) (p : Problem) → IsItemAt ws i o → MatchResult (ok_or (option_map (λ x. x.now) o) p) (λ w. (i < length ws) × (w.now ≡ word_at ws i)) (λ _. length ws ≤ i)
found ws i None p h = search rules
found ws i (Some x) p h = let l : i < length ws = search rules in (l, ap (λ w. w.now) h.1 ∙ sym (within ws i x.now l))

judged : (e : PathFault) (f : Fault) (P Q : Type 0) → f ≡ path_fault e → (P → Q) → Unless e P → (f ≡ Memory) ⊎ Q
judged path.NoSlash f P Q s g h = inr (g h)
judged path.BadStep f P Q s g h = inr (g h)
judged path.TooLarge f P Q s g h = inr (g h)
judged path.Memory f P Q s g h = inl s

pub placed : (bs at : List ℕ) (s : Result Place PathFault) (r : Result Place Problem) (Q : PathFault → Problem → Type 0) → MatchResult s (λ x. r ≡ Ok x) (λ e. IsErrAnd r (Q e)) → ((e : PathFault) (y : Problem) → Q e y → y.fault ≡ path_fault e) → bs ≡ at
    → MatchResult s (λ p. PathText bs p.steps.items) (λ e. Unless e ((ss : List Step) → PathText bs ss → ⊥)) → MatchResult r (λ p. PathText at p.steps.items) (λ e. (e.fault ≡ Memory) ⊎ ((ss : List Step) → PathText at ss → ⊥))
placed bs at (Ok p) r Q e q same h = rw e (subst (λ l. PathText l p.steps.items) same h)
placed bs at (Err f) (Ok p) Q e q same h = absurd e
placed bs at (Err f) (Err y) Q e q same h = judged f y.fault _ _ (q f y e) (λ none ss k. none ss (subst (λ l. PathText l ss) (sym same) k)) h

module _ (ws : List (Bor (List ℕ))) (i : ℕ) (l : length ws ≤ i) where
  pub no_kind : (k : Kind) → word_at ws i ≡ kind_name k → ⊥
  no_kind k h = none k (sym (past ws i l)) h
    where
      none : (j : Kind) → [] ≡ word_at ws i → word_at ws i ≡ kind_name j → ⊥
      none kind.Bool e g = let a = ap length e in let b = ap length g in omega arith
      none kind.Void e g = let a = ap length e in let b = ap length g in omega arith
      none kind.U8 e g = let a = ap length e in let b = ap length g in omega arith
      none kind.U16 e g = let a = ap length e in let b = ap length g in omega arith
      none kind.U32 e g = let a = ap length e in let b = ap length g in omega arith
      none kind.U64 e g = let a = ap length e in let b = ap length g in omega arith
      none kind.I32 e g = let a = ap length e in let b = ap length g in omega arith

  pub no_value : (k : Kind) (v : Value) → ValueText k (word_at ws i) v → ⊥
  no_value kind.Bool v h = let e = ap length (past ws i l) in omega (arith, h.0.0.0)
  no_value kind.Void v h = let e = ap length (past ws i l) in omega (arith, h.0.0.0)
  no_value kind.U8 v h = let e = ap length (past ws i l) in omega (arith, h.0.0.0)
  no_value kind.U16 v h = let e = ap length (past ws i l) in omega (arith, h.0.0.0)
  no_value kind.U32 v h = let e = ap length (past ws i l) in omega (arith, h.0.0.0)
  no_value kind.U64 v h = let e = ap length (past ws i l) in omega (arith, h.0.0.0)
  no_value kind.I32 v (z, inl p, q) = let e = ap length (past ws i l) in omega (arith, p.0.0)
  no_value kind.I32 v (z, inr (ds, f, n, m, p), q) = let e = ap length (past ws i l) in let g = ap length f in omega arith

  pub no_path : (ss : List Step) → PathText (word_at ws i) ss → ⊥
  no_path = no_slash (word_at ws i) (λ rest e. let a = ap length (past ws i l) in let b = ap length e in omega arith)
