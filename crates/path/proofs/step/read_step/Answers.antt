-- The first byte says which form the step has.
use Rattle.std.proofs.Common.{inl, inr, lit<}
use Rattle.std.proofs.lemmas.Str.Pattern.{strip_prefix_char}
use Rattle.std.proofs.lemmas.Option.{MatchOption-at_some, MatchOption-at_none}
use Rattle.path.proofs.StepForms.{exactly_like, pointer_only, element_only, row_text_only, free_text_only}
use Rattle.path.proofs.step.read_step.Goals as goal

pub returns-in-Some : goal.returns-in-Some
returns-in-Some c =
    let e = MatchOption-at_some _ _ _ c.in-Some.is (strip_prefix_char 112 _ _ c.strip_prefix.ensures.cases (lit< tt)) in
    exactly_like _ (λ s p. inl (_, e, p)) (λ s. pointer_only _ _ s e) c.pointer_step.ensures

pub returns-in-Some-strip_prefix : goal.returns-in-Some-strip_prefix
returns-in-Some-strip_prefix c =
    let e = MatchOption-at_some _ _ _ c.in-Some-strip_prefix.is (strip_prefix_char 101 _ _ c.strip_prefix-2.ensures.cases (lit< tt)) in
    exactly_like _ (λ s p. inr (inl (_, e, p))) (λ s. element_only _ _ s e) c.element_step.ensures

pub returns-in-Some-strip_prefix-2 : goal.returns-in-Some-strip_prefix-2
returns-in-Some-strip_prefix-2 c =
    let e = MatchOption-at_some _ _ _ c.in-Some-strip_prefix-2.is (strip_prefix_char 114 _ _ c.strip_prefix-3.ensures.cases (lit< tt)) in
    exactly_like _ (λ s p. inr (inr (inl (_, e, p)))) (λ s. row_text_only _ _ s e) c.row_step.ensures

pub returns : goal.returns
returns c =
    let p = MatchOption-at_none _ _ c.in_default.is (strip_prefix_char 112 _ _ c.strip_prefix.ensures.cases (lit< tt)) in
    let e = MatchOption-at_none _ _ c.in_default-strip_prefix.is (strip_prefix_char 101 _ _ c.strip_prefix-2.ensures.cases (lit< tt)) in
    let r = MatchOption-at_none _ _ c.in_default-strip_prefix-2.is (strip_prefix_char 114 _ _ c.strip_prefix-3.ensures.cases (lit< tt)) in
    exactly_like _ (λ s q. inr (inr (inr q))) (λ s. free_text_only _ s p e r) c.free_step.ensures
