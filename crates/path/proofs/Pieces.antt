-- What stands behind the first slash of a path, taken apart by `split`.
use Rattle.std.proofs.Common.{◌≡◌, ℕ, true, false, ◌⊎◌, List, [], ◌∷◌, ◌++◌, Some, None, Option, Bor, sym, ◌∙◌, subst, ⊎_elim, lit<}
use Rattle.std.specs.declared.str.Split.{Split}
use Rattle.std.specs.Str.Iter.{split_steps, split_text, split_has_more, split_pattern}
use Rattle.std.specs.Str.Pattern.{FindsChar}
use Rattle.std.proofs.iter.runs.Bytes.{all, Other}
use Rattle.std.proofs.iter.runs.Splits.{piece}
use Rattle.path.specs.declared.step.Step.{Step}
use Rattle.path.specs.Paths.{Steps}
use Rattle.path.specs.Steps.{StepText}
use Rattle.path.proofs.PathSteps.{Sofar, one_more, refused_piece, last_step, refused_last}
use Rattle.path.proofs.Splits.{Lacks, lacks_nil, lacks_cons}

-- one call of `next`
abbrev Cuts : Split ℕ → Option (Bor (List ℕ)) → Split ℕ → Type 0
Cuts = split_steps FindsChar (λ (a : ℕ) (b : ℕ). b ≡ a)

lacks_all : (c : ℕ) (xs : List ℕ) → all (Other c) xs → Lacks c xs
lacks_all c [] h = lacks_nil c
lacks_all c (x ∷ xs) h = lacks_cons c x xs h.0 (lacks_all c xs h.1)

record Cut (s : Split ℕ) (x : List ℕ) (t : Split ℕ) : Type 0 where
  pattern : split_pattern t ≡ 47
  more : split_has_more s ≡ true
  lacks : Lacks 47 x
  rest : ((x ≡ split_text s) × (split_has_more t ≡ false)) ⊎ ((split_has_more t ≡ true) × (split_text s ≡ x ++ (47 ∷ split_text t)))

cut : (s t : Split ℕ) (x : Bor (List ℕ)) → split_pattern s ≡ 47 → Cuts s (Some x) t → Cut s x.now t
cut s t x e k =
    let found = k.1.1.1 in
    let m = piece 47 (lit< tt) (split_text s) x.now (split_text t) (split_has_more t) found.0 (subst (λ d. FindsChar d (split_text s) found.0) e found.1) found.2 in
    record { pattern = k.1.0 ∙ e; more = sym k.0; lacks = lacks_all 47 x.now m.0; rest = m.1 }

-- the steps so far, and what is left of the text
pub record Left (bs : List ℕ) (done : List Step) (s : Split ℕ) : Type 0 where
  pub pattern : split_pattern s ≡ 47
  pub going : split_has_more s ≡ true → Sofar bs done (split_text s)
  pub over : split_has_more s ≡ false → Steps (47 ∷ bs) done

module _ {bs : List ℕ} {done : List Step} {s : Split ℕ} (old : Left bs done s) where
  pub next_piece : (t : Split ℕ) (x : Bor (List ℕ)) (step : Step) → Cuts s (Some x) t → StepText x.now step → Left bs (done ++ (step ∷ [])) t
  next_piece t x step k h =
      let c = cut s t x old.pattern k in
      let sofar = old.going c.more in
      ⊎_elim
      (λ l. record {
        pattern = c.pattern;
        going = λ e. absurd (let z : true ≡ false = sym e ∙ l.1 in cc);
        over = λ _. last_step sofar step (subst (λ y. StepText y step) l.0 h);
      })
      (λ r. record {
        pattern = c.pattern;
        going = λ _. one_more sofar x.now (split_text t) step r.1 c.lacks h;
        over = λ e. absurd (let z : true ≡ false = sym r.0 ∙ e in cc);
      })
      c.rest

  pub no_piece : (t : Split ℕ) (x : Bor (List ℕ)) → Cuts s (Some x) t → ((step : Step) → StepText x.now step → ⊥) → (ss : List Step) → Steps (47 ∷ bs) ss → ⊥
  no_piece t x k none =
      let c = cut s t x old.pattern k in
      let sofar = old.going c.more in
      ⊎_elim
      (λ l. refused_last sofar (subst (Lacks 47) l.0 c.lacks) (λ step h. none step (subst (λ y. StepText y step) (sym l.0) h)))
      (λ r. refused_piece sofar x.now (split_text t) r.1 c.lacks none)
      c.rest

  pub finished : (t : Split ℕ) → Cuts s None t → Steps (47 ∷ bs) done
  finished t k = old.over (sym k.0)
