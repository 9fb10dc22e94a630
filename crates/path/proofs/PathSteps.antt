-- A path taken apart at its slashes, step by step.
use Rattle.std.proofs.Common.{◌≡◌, ℕ, ◌+◌, ◌<◌, ◌≤◌, List, [], ◌∷◌, ◌++◌, length, get_or, take, sym, refl, ap, ◌∙◌, subst, inl, inr, append_assoc, append-nil, arith, lit<}
use Rattle.std.proofs.lemmas.List.{take_more, take_all}
use Rattle.path.specs.declared.step.PathFault.{PathFault}
use Rattle.path.specs.declared.step.PathFault.TheVariants.{NoSlash, BadStep, TooLarge, Memory}
use Rattle.path.specs.declared.step.Step.{Step}
use Rattle.path.specs.Paths.{Steps, PathText, Unless, shown_steps, shown_path}
use Rattle.path.specs.Steps.{StepText, shown_step}
use Rattle.path.proofs.Splits.{Lacks, same_split, at_cut, lacks_cons, lacks_append, digits_lack_low}

-- no step has a slash in it
pub step_lacks : (bs : List ℕ) (s : Step) → StepText bs s → Lacks 47 bs
step_lacks bs s (inl (xs, e, (n, q))) = subst (Lacks 47) (sym e) (lacks_cons 47 112 xs (λ f. omega arith) (digits_lack_low 47 xs (lit< tt) n.0.1))
step_lacks bs s (inr (inl (xs, e, (n, q)))) = subst (Lacks 47) (sym e) (lacks_cons 47 101 xs (λ f. omega arith) (digits_lack_low 47 xs (lit< tt) n.0.1))
step_lacks bs s (inr (inr (inl (xs, e, (is, ps, f, n, m, q))))) =
    subst (Lacks 47) (sym (e ∙ ap (λ l. 114 ∷ l) f))
    (lacks_cons 47 114 _ (λ g. omega arith) (lacks_append 47 is (112 ∷ ps) (digits_lack_low 47 is (lit< tt) n.0.1) (lacks_cons 47 112 ps (λ g. omega arith) (digits_lack_low 47 ps (lit< tt) m.0.1))))
step_lacks bs s (inr (inr (inr (ks, es, ps, f, k, n, m, q)))) =
    subst (Lacks 47) (sym f)
    (lacks_append 47 ks _ (digits_lack_low 47 ks (lit< tt) k.0.1)
    (lacks_cons 47 58 _ (λ g. omega arith)
    (lacks_append 47 es _ (digits_lack_low 47 es (lit< tt) n.0.1) (lacks_cons 47 58 ps (λ g. omega arith) (digits_lack_low 47 ps (lit< tt) m.0.1)))))

-- the first step of rest ends at the first slash, and the other steps begin there
pub at_slash : (rest piece after : List ℕ) → rest ≡ piece ++ (47 ∷ after) → Lacks 47 piece → (ts : List Step) → Steps (47 ∷ rest) ts → (s : Step) × StepText piece s × ((us : List Step) × Steps (47 ∷ after) us)
at_slash rest piece after e l [] h = absurd (let z = ap length h in omega arith)
at_slash rest piece after e l (s ∷ []) (ps, r, f, t, h) =
    let g : rest ≡ ps ++ r = cc in
    let same : rest ≡ ps = g ∙ ap (λ x. ps ++ x) h ∙ append-nil ps in
    absurd (at_cut 47 piece after (subst (Lacks 47) (sym same ∙ e) (step_lacks ps s t)))
at_slash rest piece after e l (s ∷ u ∷ us) (ps, r, f, t, (qs, q, g, v, h)) =
    let m : rest ≡ ps ++ r = cc in
    let p = same_split 47 ps (qs ++ q) piece after (step_lacks ps s t) l (ap (λ x. ps ++ x) (sym g) ∙ sym m ∙ e) in
    (s, subst (λ x. StepText x s) p.0 t, (u ∷ us, (qs, q, ap (λ x. 47 ∷ x) (sym p.1), v, h)))

-- without a slash there is one step
pub at_end : (rest : List ℕ) → Lacks 47 rest → (ts : List Step) → Steps (47 ∷ rest) ts → (s : Step) × StepText rest s
at_end rest l [] h = absurd (let z = ap length h in omega arith)
at_end rest l (s ∷ []) (ps, r, f, t, h) =
    let g : rest ≡ ps ++ r = cc in
    (s, subst (λ x. StepText x s) (sym (g ∙ ap (λ x. ps ++ x) h ∙ append-nil ps)) t)
at_end rest l (s ∷ u ∷ us) (ps, r, f, t, (qs, q, g, v, h)) =
    let m : rest ≡ ps ++ r = cc in
    absurd (at_cut 47 ps (qs ++ q) (subst (Lacks 47) (m ∙ ap (λ x. ps ++ x) g) l))

-- the steps so far, and the rest of the text after the slash behind them
pub record Sofar (bs : List ℕ) (done : List Step) (rest : List ℕ) : Type 0 where
  pub sound : (ss : List Step) → Steps (47 ∷ rest) ss → Steps (47 ∷ bs) (done ++ ss)
  pub whole : (ss : List Step) → Steps (47 ∷ bs) ss → (ts : List Step) × Steps (47 ∷ rest) ts

pub start : (bs : List ℕ) (done : List Step) → done ≡ [] → Sofar bs done bs
start bs done e = record { sound = λ ss h. subst (λ l. Steps (47 ∷ bs) (l ++ ss)) (sym e) h; whole = λ ss h. (ss, h) }

module _ {bs : List ℕ} {done : List Step} {rest : List ℕ} (old : Sofar bs done rest) where
  pub one_more : (piece after : List ℕ) (s : Step) → rest ≡ piece ++ (47 ∷ after) → Lacks 47 piece → StepText piece s → Sofar bs (done ++ (s ∷ [])) after
  one_more piece after s e l t = record {
    sound = λ ss h. subst (Steps (47 ∷ bs)) (sym (append_assoc done (s ∷ []) ss)) (old.sound (s ∷ ss) (piece, 47 ∷ after, ap (λ x. 47 ∷ x) e, t, h));
    whole = λ ss h. let k = old.whole ss h in (at_slash rest piece after e l k.0 k.1).2;
  }

  pub refused_piece : (piece after : List ℕ) → rest ≡ piece ++ (47 ∷ after) → Lacks 47 piece → ((s : Step) → StepText piece s → ⊥) → (ss : List Step) → Steps (47 ∷ bs) ss → ⊥
  refused_piece piece after e l none ss h =
      let k = old.whole ss h in
      let p = at_slash rest piece after e l k.0 k.1 in
      none p.0 p.1

  pub last_step : (s : Step) → StepText rest s → Steps (47 ∷ bs) (done ++ (s ∷ []))
  last_step s t = old.sound (s ∷ []) (rest, [], ap (λ x. 47 ∷ x) (sym (append-nil rest)), t, refl)

  pub refused_last : Lacks 47 rest → ((s : Step) → StepText rest s → ⊥) → (ss : List Step) → Steps (47 ∷ bs) ss → ⊥
  refused_last l none ss h =
      let k = old.whole ss h in
      let p = at_end rest l k.0 k.1 in
      none p.0 p.1

pub unless_any : (e : PathFault) {P : Type 0} → P → Unless e P
unless_any NoSlash p = p
unless_any BadStep p = p
unless_any TooLarge p = p
unless_any Memory p = tt

-- whole paths
pub no_slash : (bs : List ℕ) → ((rest : List ℕ) → bs ≡ 47 ∷ rest → ⊥) → (ss : List Step) → PathText bs ss → ⊥
no_slash bs u ss (inl p) = u [] p.0
no_slash bs u [] (inr p) = omega (arith, p.0)
no_slash bs u (s ∷ ss) (inr (l, (ps, r, e, t, h))) = u (ps ++ r) e

pub the_root : (bs rest : List ℕ) (ss : List Step) → bs ≡ 47 ∷ rest → length rest ≡ 0 → ss ≡ [] → PathText bs ss
the_root bs [] ss e l n = inl (e, n)
the_root bs (x ∷ rest) ss e l n = absurd (omega arith)

pub to_path : (bs rest : List ℕ) (ss : List Step) → bs ≡ 47 ∷ rest → Steps (47 ∷ rest) ss → PathText bs ss
to_path bs rest [] e h = absurd (let z = ap length h in omega arith)
to_path bs rest (s ∷ ss) e h = inr (omega arith, subst (λ l. Steps l (s ∷ ss)) (sym e) h)

pub from_path : (bs rest : List ℕ) (ss : List Step) → bs ≡ 47 ∷ rest → 0 < length rest → PathText bs ss → Steps (47 ∷ rest) ss
from_path bs rest ss e l (inl p) = absurd (let z = ap length (sym e ∙ p.0) in omega arith)
from_path bs rest ss e l (inr p) = subst (λ x. Steps x ss) e p.1

-- what is shown of a path
pub shown_push : (ss : List Step) (s : Step) → shown_steps (ss ++ (s ∷ [])) ≡ shown_steps ss ++ (47 ∷ shown_step s)
shown_push [] s = ap (λ l. 47 ∷ l) (append-nil (shown_step s))
shown_push (t ∷ ss) s = ap (λ l. 47 ∷ l) (ap (λ l. shown_step t ++ l) (shown_push ss s) ∙ sym (append_assoc (shown_step t) (shown_steps ss) (47 ∷ shown_step s)))

pub shown_more : (ss : List Step) (i : ℕ) (d : Step) → i < length ss → shown_steps (take i ss) ++ (47 ∷ shown_step (get_or ss i d)) ≡ shown_steps (take (i + 1) ss)
shown_more ss i d l = sym (ap shown_steps (take_more ss i d l) ∙ shown_push (take i ss) (get_or ss i d))

pub shown_whole : (ss ts : List Step) (i : ℕ) → ts ≡ ss → (length ss ≡ 0 → ⊥) → length ts ≤ i → shown_steps (take i ts) ≡ shown_path ss
shown_whole [] ts i e n l = absurd (n refl)
shown_whole (s ∷ ss) ts i e n l = ap shown_steps (take_all i ts l ∙ e)
