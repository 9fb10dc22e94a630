-- Steps and paths that are shown are texts of themselves, and no text is of two.
use Rattle.std.proofs.Common.{◌≡◌, ℕ, suc, ◌^◌, ◌<◌, Bool, true, false, cond, ◌&&◌, eqb, ◌⊎◌, List, [], ◌∷◌, ◌++◌, length, Ok, Err, vec_items, decimal, Result, sym, refl, ap, ◌∙◌, subst, inl, inr, arith, lit<, MatchResult}
use Rattle.std.proofs.lemmas.Bool.Decides.{nat_tests}
use Rattle.path.specs.declared.place.Place.{Place}
use Rattle.path.specs.declared.step.PathFault.{PathFault}
use Rattle.path.specs.declared.step.PathFault.TheVariants.{NoSlash, BadStep, TooLarge, Memory}
use Rattle.path.specs.declared.step.Step.{Step}
use Rattle.number.specs.Numbers.{worth}
use Rattle.path.specs.Paths.{Steps, PathText, Unless, Fit, AllFit, shown_steps, shown_path}
use Rattle.path.specs.Steps.{Number32, three, StepText, shown_step}
use Rattle.number.specs.Again.{numeral_decimal, worth_decimal}
use Rattle.path.proofs.PathSteps.{step_lacks}
use Rattle.path.proofs.Splits.{Lacks, first_lacks, rest_lacks, digits_lack}
use Rattle.path.proofs.StepForms.{digit_first, first_is, pointer_only, element_only, row_text_only, free_text_only, row_only, free_only}

-- a step
number32_decimal : (n : ℕ) → n < 2 ^ 32 → Number32 (decimal n)
number32_decimal n l = (numeral_decimal n (omega arith), subst (λ m. m < 2 ^ 32) (sym (worth_decimal n (omega arith))) l)

three_worth : (s : Step) (k e p : ℕ) → s.kind ≡ k → s.element ≡ e → s.pointer ≡ p → s ≡ three k e p
three_worth s k e p a b c = λ i. three (a i) (b i) (c i)

module _ (s : Step) (f : Fit s) where
  worth_kind : worth (decimal s.kind) ≡ s.kind
  worth_kind = worth_decimal s.kind (omega (arith, f.0))

  worth_element : worth (decimal s.element) ≡ s.element
  worth_element = worth_decimal s.element (omega (arith, f.1))

  worth_pointer : worth (decimal s.pointer) ≡ s.pointer
  worth_pointer = worth_decimal s.pointer (omega (arith, f.2))

  free_shown : StepText (decimal s.kind ++ (58 ∷ (decimal s.element ++ (58 ∷ decimal s.pointer)))) s
  free_shown = inr (inr (inr (_, _, _, refl, number32_decimal _ f.0, number32_decimal _ f.1, number32_decimal _ f.2, three_worth s _ _ _ (sym worth_kind) (sym worth_element) (sym worth_pointer))))

  row_shown : (b : Bool) → eqb s.kind 2 ≡ b → StepText (cond b (114 ∷ (decimal s.element ++ (112 ∷ decimal s.pointer))) (decimal s.kind ++ (58 ∷ (decimal s.element ++ (58 ∷ decimal s.pointer))))) s
  row_shown true e = inr (inr (inl (_, refl, (_, _, refl, number32_decimal _ f.1, number32_decimal _ f.2, three_worth s _ _ _ (grind (arith, nat_tests)) (sym worth_element) (sym worth_pointer)))))
  row_shown false e = free_shown

  element_shown : (b : Bool) → (eqb s.kind 1 && eqb s.pointer 0) ≡ b → StepText (cond b (101 ∷ decimal s.element) (cond (eqb s.kind 2) (114 ∷ (decimal s.element ++ (112 ∷ decimal s.pointer))) (decimal s.kind ++ (58 ∷ (decimal s.element ++ (58 ∷ decimal s.pointer)))))) s
  element_shown true e = inr (inl (_, refl, (number32_decimal _ f.1, three_worth s _ _ _ (grind (arith, nat_tests)) (sym worth_element) (grind (arith, nat_tests)))))
  element_shown false e = row_shown (eqb s.kind 2) refl

  pointer_shown : (b : Bool) → (eqb s.kind 0 && eqb s.element 0) ≡ b → StepText (cond b (112 ∷ decimal s.pointer) (cond (eqb s.kind 1 && eqb s.pointer 0) (101 ∷ decimal s.element) (cond (eqb s.kind 2) (114 ∷ (decimal s.element ++ (112 ∷ decimal s.pointer))) (decimal s.kind ++ (58 ∷ (decimal s.element ++ (58 ∷ decimal s.pointer))))))) s
  pointer_shown true e = inl (_, refl, (number32_decimal _ f.2, three_worth s _ _ _ (grind (arith, nat_tests)) (grind (arith, nat_tests)) (sym worth_pointer)))
  pointer_shown false e = element_shown (eqb s.kind 1 && eqb s.pointer 0) refl

  pub step_shown : StepText (shown_step s) s
  step_shown = pointer_shown (eqb s.kind 0 && eqb s.element 0) refl

pub step_unique : (bs : List ℕ) (s t : Step) → StepText bs s → StepText bs t → s ≡ t
step_unique bs s t (inl (xs, e, (n, q))) h = q ∙ sym (pointer_only bs xs t e h).1
step_unique bs s t (inr (inl (xs, e, (n, q)))) h = q ∙ sym (element_only bs xs t e h).1
step_unique bs s t (inr (inr (inl (xs, e, (is, ps, f, n, m, q))))) h =
    q ∙ sym (row_only xs is ps f (digits_lack 112 is (lit< tt) n.0.1) t (row_text_only bs xs t e h)).2
step_unique bs s t (inr (inr (inr (ks, es, ps, f, k, n, m, q)))) h =
    let d = digit_first bs s (ks, es, ps, f, k, n, m, q) in
    let g = free_text_only bs t (λ r e. omega (arith, first_is _ _ _ e)) (λ r e. omega (arith, first_is _ _ _ e)) (λ r e. omega (arith, first_is _ _ _ e)) h in
    q ∙ sym (free_only bs ks (es ++ (58 ∷ ps)) es ps f (digits_lack 58 ks (lit< tt) k.0.1) refl (digits_lack 58 es (lit< tt) n.0.1) t g).3

-- a path
step_some : (s : Step) → StepText [] s → ⊥
step_some s (inl (xs, e, p)) = let z = ap length e in omega arith
step_some s (inr (inl (xs, e, p))) = let z = ap length e in omega arith
step_some s (inr (inr (inl (xs, e, p)))) = let z = ap length e in omega arith
step_some s (inr (inr (inr (ks, es, ps, f, k, n, m, q)))) = empty ks f
  where
    empty : (xs : List ℕ) → [] ≡ xs ++ (58 ∷ (es ++ (58 ∷ ps))) → ⊥
    empty [] e = let z = ap length e in omega arith
    empty (x ∷ xs) e = let z = ap length e in omega arith

-- r is empty or begins with a slash
abbrev Ends : List ℕ → Type 0
Ends r = (r ≡ []) ⊎ ((rest : List ℕ) × (r ≡ 47 ∷ rest))

ends_steps : (r : List ℕ) (ss : List Step) → Steps r ss → Ends r
ends_steps r [] e = inl e
ends_steps r (s ∷ ss) (ps, q, e, t, h) = inr (ps ++ q, e)

ends_first : (x : ℕ) (r xs : List ℕ) → Ends r → r ≡ x ∷ xs → x ≡ 47
ends_first x r xs (inl e) f = absurd (let z = ap length (sym e ∙ f) in omega arith)
ends_first x r xs (inr (rest, e)) f = cc

same_cut : (xs r us q : List ℕ) → Lacks 47 xs → Lacks 47 us → Ends r → Ends q → xs ++ r ≡ us ++ q → (xs ≡ us) × (r ≡ q)
same_cut [] r [] q l m a b e = (refl, e)
same_cut [] r (u ∷ us) q l m a b e = absurd (first_lacks 47 u us m (ends_first u r (us ++ q) a e))
same_cut (x ∷ xs) r [] q l m a b e = absurd (first_lacks 47 x xs l (ends_first x q (xs ++ r) b (sym e)))
same_cut (x ∷ xs) r (u ∷ us) q l m a b e =
    let head : x ≡ u = cc in
    let tail : xs ++ r ≡ us ++ q = cc in
    let p = same_cut xs r us q (rest_lacks 47 x xs l) (rest_lacks 47 u us m) a b tail in
    (cc (head, p.0), p.1)

steps_unique : (bs : List ℕ) (ss ts : List Step) → Steps bs ss → Steps bs ts → ss ≡ ts
steps_unique bs [] [] h k = refl
steps_unique bs [] (t ∷ ts) h (qs, q, f, v, k) = absurd (let z = ap length (sym h ∙ f) in omega arith)
steps_unique bs (s ∷ ss) [] (ps, r, e, u, h) k = absurd (let z = ap length (sym k ∙ e) in omega arith)
steps_unique bs (s ∷ ss) (t ∷ ts) (ps, r, e, u, h) (qs, q, f, v, k) =
    let g : ps ++ r ≡ qs ++ q = cc in
    let p = same_cut ps r qs q (step_lacks ps s u) (step_lacks qs t v) (ends_steps r ss h) (ends_steps q ts k) g in
    let one = step_unique ps s t u (subst (λ l. StepText l t) (sym p.0) v) in
    let rest = steps_unique r ss ts h (subst (λ l. Steps l ts) (sym p.1) k) in
    λ i. one i ∷ rest i

root_only : (ss : List Step) → 0 < length ss → Steps (47 ∷ []) ss → ⊥
root_only [] l h = omega arith
root_only (s ∷ ss) l ([], r, e, t, h) = step_some s t
root_only (s ∷ ss) l (p ∷ ps, r, e, t, h) = let z = ap length e in omega arith

pub path_unique : (bs : List ℕ) (ss ts : List Step) → PathText bs ss → PathText bs ts → ss ≡ ts
path_unique bs ss ts (inl p) (inl q) = p.1 ∙ sym q.1
path_unique bs ss ts (inl p) (inr q) = absurd (root_only ts q.0 (subst (λ l. Steps l ts) p.0 q.1))
path_unique bs ss ts (inr p) (inl q) = absurd (root_only ss p.0 (subst (λ l. Steps l ss) q.0 p.1))
path_unique bs ss ts (inr p) (inr q) = steps_unique bs ss ts p.1 q.1

rest_fit : (s : Step) (ss : List Step) → AllFit (s ∷ ss) → AllFit ss
rest_fit s ss f i l = f (suc i) (omega arith)

steps_shown : (ss : List Step) → AllFit ss → Steps (shown_steps ss) ss
steps_shown [] f = refl
steps_shown (s ∷ ss) f = (shown_step s, shown_steps ss, refl, step_shown s (f 0 (omega arith)), steps_shown ss (rest_fit s ss f))

pub path_shown : (ss : List Step) → AllFit ss → PathText (shown_path ss) ss
path_shown [] f = inl (refl, refl)
path_shown (s ∷ ss) f = inr (omega arith, steps_shown (s ∷ ss) f)

-- what `reread_place` answers
pub path_again : (bs : List ℕ) (ss : List Step) (r : Result Place PathFault) → bs ≡ shown_path ss → AllFit ss → MatchResult r (λ p. PathText bs (vec_items p.steps)) (λ e. Unless e ((ts : List Step) → PathText bs ts → ⊥)) → MatchResult r (λ p. vec_items p.steps ≡ ss) (λ e. e ≡ Memory)
path_again bs ss (Ok p) e f h = path_unique bs (vec_items p.steps) ss h (subst (λ l. PathText l ss) (sym e) (path_shown ss f))
path_again bs ss (Err NoSlash) e f h = absurd (h ss (subst (λ l. PathText l ss) (sym e) (path_shown ss f)))
path_again bs ss (Err BadStep) e f h = absurd (h ss (subst (λ l. PathText l ss) (sym e) (path_shown ss f)))
path_again bs ss (Err TooLarge) e f h = absurd (h ss (subst (λ l. PathText l ss) (sym e) (path_shown ss f)))
path_again bs ss (Err Memory) e f h = refl
