-- The four forms of a step: where a text is cut, it can be read in one way only.
use Rattle.std.proofs.Common.{◌≡◌, ℕ, ◌<◌, ◌≤◌, List, [], ◌∷◌, ◌++◌, length, get_or, Ok, Err, Result, sym, ap, ◌∙◌, subst, inl, inr, arith, lit<}
use Rattle.std.specs.Result.{IsErrAnd}
use Rattle.number.specs.declared.decimal.NumberFault.{NumberFault}
use Rattle.number.specs.declared.decimal.NumberFault.TheVariants.{NoDigits, TooLarge}
use Rattle.path.specs.declared.step.PathFault.{PathFault}
use Rattle.path.specs.declared.step.Step.{Step}
use Rattle.number.specs.Numbers.{Numeral, worth, ReadsBelow}
use Rattle.path.specs.Steps.{Number32, three, Pointer, Element, Row, Free, StepText, Exactly}
use Rattle.path.proofs.Splits.{Lacks, same_split, at_cut, digits_lack}

pub refused : (top : ℕ) (bs : List ℕ) (e : NumberFault) → ReadsBelow top bs (Err e) → Numeral bs → worth bs < top → ⊥
refused top bs NoDigits h n l = h n
refused top bs TooLarge h n l = omega (arith, h.1)

-- rows
pub row_only : (bs is ps : List ℕ) → bs ≡ is ++ (112 ∷ ps) → Lacks 112 is → (s : Step) → Row bs s → Number32 is × Number32 ps × (s ≡ three 2 (worth is) (worth ps))
row_only bs is ps e l s (js, qs, f, n, m, q) =
    let p = same_split 112 js qs is ps (digits_lack 112 js (lit< tt) n.0.1) l (sym f ∙ e) in
    (subst Number32 p.0 n, subst Number32 p.1 m, q ∙ ap (λ x. three 2 (worth x) (worth qs)) p.0 ∙ ap (λ x. three 2 (worth is) (worth x)) p.1)

pub no_row : (bs : List ℕ) → Lacks 112 bs → (s : Step) → Row bs s → ⊥
no_row bs l s (js, qs, f, n, m, q) = at_cut 112 js qs (subst (Lacks 112) f l)

-- three numbers
pub free_only : (bs ks rest es ps : List ℕ) → bs ≡ ks ++ (58 ∷ rest) → Lacks 58 ks → rest ≡ es ++ (58 ∷ ps) → Lacks 58 es → (s : Step) → Free bs s → Number32 ks × Number32 es × Number32 ps × (s ≡ three (worth ks) (worth es) (worth ps))
free_only bs ks rest es ps e l f m s (ls, fs, qs, g, a, b, c, q) =
    let p = same_split 58 ls (fs ++ (58 ∷ qs)) ks rest (digits_lack 58 ls (lit< tt) a.0.1) l (sym g ∙ e) in
    let r = same_split 58 fs qs es ps (digits_lack 58 fs (lit< tt) b.0.1) m (p.1 ∙ f) in
    (subst Number32 p.0 a, subst Number32 r.0 b, subst Number32 r.1 c, q ∙ ap (λ x. three (worth x) (worth fs) (worth qs)) p.0 ∙ ap (λ x. three (worth ks) (worth x) (worth qs)) r.0 ∙ ap (λ x. three (worth ks) (worth es) (worth x)) r.1)

pub no_free : (bs : List ℕ) → Lacks 58 bs → (s : Step) → Free bs s → ⊥
no_free bs l s (ls, fs, qs, g, a, b, c, q) = at_cut 58 ls (fs ++ (58 ∷ qs)) (subst (Lacks 58) g l)

pub no_second : (bs ks rest : List ℕ) → bs ≡ ks ++ (58 ∷ rest) → Lacks 58 ks → Lacks 58 rest → (s : Step) → Free bs s → ⊥
no_second bs ks rest e l m s (ls, fs, qs, g, a, b, c, q) =
    let p = same_split 58 ls (fs ++ (58 ∷ qs)) ks rest (digits_lack 58 ls (lit< tt) a.0.1) l (sym g ∙ e) in
    at_cut 58 fs qs (subst (Lacks 58) (sym p.1) m)

-- the first byte says which form a step has
pub digit_first : (bs : List ℕ) (s : Step) → Free bs s → get_or bs 0 0 ≤ 57
digit_first bs s (ls, fs, qs, g, a, b, c, q) = rw g (first ls a.0.0 a.0.1)
  where
    first : (xs : List ℕ) → 0 < length xs → ((i : ℕ) → i < length xs → (48 ≤ get_or xs i 0) × (get_or xs i 0 ≤ 57)) → get_or (xs ++ (58 ∷ (fs ++ (58 ∷ qs)))) 0 0 ≤ 57
    first [] l d = absurd (omega arith)
    first (x ∷ xs) l d = (d 0 l).1

pub other_first : (c d : ℕ) (bs xs ys : List ℕ) → bs ≡ c ∷ xs → bs ≡ d ∷ ys → c ≡ d
other_first c d bs xs ys e f = cc

pub same_rest : (c : ℕ) (bs xs ys : List ℕ) → bs ≡ c ∷ xs → bs ≡ c ∷ ys → xs ≡ ys
same_rest c bs xs ys e f = cc

pub first_is : (c : ℕ) (bs xs : List ℕ) → bs ≡ c ∷ xs → get_or bs 0 0 ≡ c
first_is c bs xs e = ap (λ l. get_or l 0 0) e

module _ (bs rest : List ℕ) (s : Step) where
  pub pointer_only : bs ≡ 112 ∷ rest → StepText bs s → Pointer rest s
  pointer_only e (inl (xs, f, p)) = subst (λ l. Pointer l s) (same_rest 112 bs xs rest f e) p
  pointer_only e (inr (inl (xs, f, p))) = absurd (omega (arith, first_is _ _ _ e, first_is _ _ _ f))
  pointer_only e (inr (inr (inl (xs, f, p)))) = absurd (omega (arith, first_is _ _ _ e, first_is _ _ _ f))
  pointer_only e (inr (inr (inr p))) = absurd (omega (arith, first_is _ _ _ e, digit_first bs s p))

  pub element_only : bs ≡ 101 ∷ rest → StepText bs s → Element rest s
  element_only e (inl (xs, f, p)) = absurd (omega (arith, first_is _ _ _ e, first_is _ _ _ f))
  element_only e (inr (inl (xs, f, p))) = subst (λ l. Element l s) (same_rest 101 bs xs rest f e) p
  element_only e (inr (inr (inl (xs, f, p)))) = absurd (omega (arith, first_is _ _ _ e, first_is _ _ _ f))
  element_only e (inr (inr (inr p))) = absurd (omega (arith, first_is _ _ _ e, digit_first bs s p))

  pub row_text_only : bs ≡ 114 ∷ rest → StepText bs s → Row rest s
  row_text_only e (inl (xs, f, p)) = absurd (omega (arith, first_is _ _ _ e, first_is _ _ _ f))
  row_text_only e (inr (inl (xs, f, p))) = absurd (omega (arith, first_is _ _ _ e, first_is _ _ _ f))
  row_text_only e (inr (inr (inl (xs, f, p)))) = subst (λ l. Row l s) (same_rest 114 bs xs rest f e) p
  row_text_only e (inr (inr (inr p))) = absurd (omega (arith, first_is _ _ _ e, digit_first bs s p))

-- bs does not begin with c
abbrev pub Unlike : ℕ → List ℕ → Type 0
Unlike c bs = (rest : List ℕ) → bs ≡ c ∷ rest → ⊥

pub free_text_only : (bs : List ℕ) (s : Step) → Unlike 112 bs → Unlike 101 bs → Unlike 114 bs → StepText bs s → Free bs s
free_text_only bs s a b c (inl (xs, f, p)) = absurd (a xs f)
free_text_only bs s a b c (inr (inl (xs, f, p))) = absurd (b xs f)
free_text_only bs s a b c (inr (inr (inl (xs, f, p)))) = absurd (c xs f)
free_text_only bs s a b c (inr (inr (inr p))) = p

-- a reader of one form is a reader of steps, where the text has that form
pub exactly_like : {P Q : Step → Type 0} (r : Result Step PathFault) → ((s : Step) → P s → Q s) → ((s : Step) → Q s → P s) → Exactly P r → Exactly Q r
exactly_like (Ok s) f g h = f s h
exactly_like (Err e) f g h = λ s q. h s (g s q)

-- the exit of a `?`, whatever the fault
pub refuses : (P : Step → Type 0) (Q : PathFault → Type 0) (r : Result Step PathFault) → IsErrAnd r Q → ((s : Step) → P s → ⊥) → Exactly P r
refuses P Q (Ok s) h none = absurd h
refuses P Q (Err e) h none = none
