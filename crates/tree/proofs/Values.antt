-- Putting a value at a path's end.
use Rattle.std.proofs.Common.{◌≡◌, ℕ, ◌+◌, ◌⊎◌, List, [], ◌∷◌, sym, refl, ap, ◌∙◌, inl, inr, arith}
use mathlib.Core.Path.{fun_ext}
use Rattle.std.proofs.lemmas.Bool.{cases_eq}
use Rattle.tree.specs.Value.{Value, null, object, slot, Step, Goes, value_at, put, change}
use Rattle.tree.specs.Shows.{Memory, land, walk, rest}
use Rattle.tree.proofs.Context.{change_here, change_else, split, slot_counted, Once, step_land}
use Rattle.tree.proofs.Replace.{Around, once_kid, around_kid}

-- two changes at one place
pub change_twice : {A : Type 0} (f : ℕ → ℕ → A) (i j : ℕ) (u t : A) → change (change f i j u) i j t ≡ change f i j t
change_twice {A} f i j u t = fun_ext (λ a. fun_ext (λ b. at a b (cases_eq a i) (cases_eq b j)))
  where
    other : (a b : ℕ) → (a ≡ i → b ≡ j → ⊥) → change (change f i j u) i j t a b ≡ change f i j t a b
    other a b n = change_else (change f i j u) i j t a b n ∙ (change_else f i j u a b n ∙ sym (change_else f i j t a b n))

    at : (a b : ℕ) → (a ≡ i) ⊎ (a ≡ i → ⊥) → (b ≡ j) ⊎ (b ≡ j → ⊥) → change (change f i j u) i j t a b ≡ change f i j t a b
    at a b (inl p) (inl q) = rw (p, q) (change_here (change f i j u) i j t ∙ sym (change_here f i j t))
    at a b (inl p) (inr n) = other a b (λ _. n)
    at a b (inr n) q = other a b (λ e _. n e)

pub goes_put : (p : List Step) (v u : Value) → Goes v p → Goes (put v p u) p
goes_put [] v u go = tt
goes_put (s ∷ p) null u go = absurd go
goes_put (s ∷ p) (object sh dat kid) u go =
    (go.0, rw (change_here kid s.element s.pointer_number (put (kid s.element s.pointer_number) p u)) (goes_put p (kid s.element s.pointer_number) u go.1))

pub value_at_put : (p : List Step) (v u : Value) → Goes v p → value_at (put v p u) p ≡ u
value_at_put [] v u go = refl
value_at_put (s ∷ p) null u go = absurd go
value_at_put (s ∷ p) (object sh dat kid) u go =
    rw (change_here kid s.element s.pointer_number (put (kid s.element s.pointer_number) p u)) (value_at_put p (kid s.element s.pointer_number) u go.1)

pub put_put : (p : List Step) (v u t : Value) → Goes v p → put (put v p u) p t ≡ put v p t
put_put [] v u t go = refl
put_put (s ∷ p) null u t go = absurd go
put_put (s ∷ p) (object sh dat kid) u t go =
    let i = s.element in
    let j = s.pointer_number in
    rw (change_here kid i j (put (kid i j) p u), put_put p (kid i j) u t go.1)
    (ap (object sh dat) (change_twice kid i j (put (kid i j) p u) (put (kid i j) p t)))

-- the path leads to the same slot afterwards
pub put_walk : (H H' : Memory) (u : Value) (p : List Step) (v : Value) (g w : ℕ) → Goes v p → Once H g w v → Around H H' p v g w →
    walk H' g w (put v p u) p ≡ walk H g w v p
put_walk H H' u [] v g w go once e = refl
put_walk H H' u (s ∷ p) null g w go once e = absurd go
put_walk H H' u (s ∷ p) (object sh dat kid) g w go once e =
    let l = land H g w in
    let i = s.element in
    let j = s.pointer_number in
    let q = l.pos + slot sh i j in
    let k = kid i j in
    rw (
      step_land H H' sh dat kid g w i j go.0.1 go.0.2 (rest H l.seg q k p) (walk H l.seg q k p).0 (walk H l.seg q k p).1 once
          (λ x y. omega (arith, split H p k l.seg q go.1 x y))
          (slot_counted H p k l.seg q go.1)
          e,
      change_here kid i j (put k p u),
    )
    (put_walk H H' u p k l.seg q go.1 (once_kid H sh dat kid g w i j go.0.1 go.0.2 once) (around_kid H H' u s p sh dat kid g w go e))
