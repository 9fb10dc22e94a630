-- Going through pairs in order.
use Rattle.std.proofs.Common.{◌≡◌, ℕ, ◌+◌, ◌<◌, ◌≤◌, true, false, cond, ◌⊎◌, sym, refl, ap, ◌∙◌, inl, inr, ⊎_elim, arith}
use Rattle.std.proofs.lemmas.Bool.{cases_lt, cases_eq, eq-eqb, ne_eqb, lt-ltb, le-ltb}
use Rattle.tree.specs.Value.{change}
use Rattle.tree.specs.Shows.{totals}
use Rattle.tree.specs.Loops.{before, pick}
use Rattle.tree.proofs.Count.{totals_ext}
use Rattle.tree.proofs.Context.{change_here, change_else, totals_changed}

pub before_row : (i j a b : ℕ) → a < i → before i j a b ≡ true
before_row i j a b h = rw (lt-ltb a i h)

pub before_place : (i j a b : ℕ) → a ≡ i → b < j → before i j a b ≡ true
before_place i j a b e h = rw (le-ltb a i (omega arith), eq-eqb a i e, lt-ltb b j h)

pub not_before_row : (i j a b : ℕ) → i < a → before i j a b ≡ false
not_before_row i j a b h = rw (le-ltb a i (omega arith), ne_eqb a i (omega arith))

pub not_before_place : (i j a b : ℕ) → a ≡ i → j ≤ b → before i j a b ≡ false
not_before_place i j a b e h = rw (le-ltb a i (omega arith), eq-eqb a i e, le-ltb b j h)

-- the two cases
pub before_cases : (i j a b : ℕ) →
    ((before i j a b ≡ true) × ((a < i) ⊎ ((a ≡ i) × (b < j)))) ⊎ ((before i j a b ≡ false) × ((i < a) ⊎ ((a ≡ i) × (j ≤ b))))
before_cases i j a b =
    ⊎_elim
    (λ (h : a < i). inl (before_row i j a b h, inl h))
    (λ (h : i ≤ a).
    ⊎_elim
    (λ (e : a ≡ i).
    ⊎_elim
    (λ (k : b < j). inl (before_place i j a b e k, inr (e, k)))
    (λ (k : j ≤ b). inr (not_before_place i j a b e k, inr (e, k)))
    (cases_lt b j))
    (λ (n : a ≡ i → ⊥). let k : i < a = omega arith in inr (not_before_row i j a b k, inl k))
    (cases_eq a i))
    (cases_lt a i)

module _ {A : Type 0} (f h : ℕ → ℕ → A) where
  pub pick_done : (i j a b : ℕ) → before i j a b ≡ true → pick i j f h a b ≡ f a b
  unfolding pick
  pick_done i j a b e = rw e

  pub pick_left : (i j a b : ℕ) → before i j a b ≡ false → pick i j f h a b ≡ h a b
  unfolding pick
  pick_left i j a b e = rw e

  pub pick_here : (i j : ℕ) → pick i j f h i j ≡ h i j
  unfolding pick
  pick_here i j = rw (not_before_place i j i j refl (omega arith))

  pub pick_next : (i j a b : ℕ) → pick i (j + 1) f h a b ≡ change (pick i j f h) i j (f i j) a b
  unfolding pick
  pick_next i j a b =
      ⊎_elim
      (λ (e : a ≡ i).
      ⊎_elim
      (λ (k : b ≡ j).
      rw (e, k, before_place i (j + 1) i j refl (omega arith)) (sym (change_here (pick i j f h) i j (f i j))))
      (λ (n : b ≡ j → ⊥).
      same a b (λ _ q. n q)
      (⊎_elim
      (λ (l : b < j). before_place i (j + 1) a b e (omega arith) ∙ sym (before_place i j a b e l))
      (λ (l : j ≤ b). not_before_place i (j + 1) a b e (omega arith) ∙ sym (not_before_place i j a b e l))
      (cases_lt b j)))
      (cases_eq b j))
      (λ (n : a ≡ i → ⊥).
      same a b (λ q _. n q)
      (⊎_elim
      (λ (l : a < i). before_row i (j + 1) a b l ∙ sym (before_row i j a b l))
      (λ (l : i ≤ a). not_before_row i (j + 1) a b (omega arith) ∙ sym (not_before_row i j a b (omega arith)))
      (cases_lt a i)))
      (cases_eq a i)
    where
      same : (a b : ℕ) → (a ≡ i → b ≡ j → ⊥) → before i (j + 1) a b ≡ before i j a b →
          cond (before i (j + 1) a b) (f a b) (h a b) ≡ change (λ a b. cond (before i j a b) (f a b) (h a b)) i j (f i j) a b
      same a b n e =
          ap (λ t. cond t (f a b) (h a b)) e ∙ sym (change_else (λ a b. cond (before i j a b) (f a b) (h a b)) i j (f i j) a b n)

  pub pick_row : (i p a b : ℕ) → b < p → pick i p f h a b ≡ pick (i + 1) 0 f h a b
  unfolding pick
  pick_row i p a b hb =
      ⊎_elim
      (λ (l : a < i). rw (before_row i p a b l, before_row (i + 1) 0 a b (omega arith)))
      (λ (l : i ≤ a).
      ⊎_elim
      (λ (e : a ≡ i). rw (before_place i p a b e hb, before_row (i + 1) 0 a b (omega arith)))
      (λ (n : a ≡ i → ⊥).
      ⊎_elim
      (λ (e : a ≡ i + 1). rw (not_before_row i p a b (omega arith), not_before_place (i + 1) 0 a b e (omega arith)))
      (λ (m : a ≡ i + 1 → ⊥). rw (not_before_row i p a b (omega arith), not_before_row (i + 1) 0 a b (omega arith)))
      (cases_eq a (i + 1)))
      (cases_eq a i))
      (cases_lt a i)

  pub pick_start : (a b : ℕ) → pick 0 0 f h a b ≡ h a b
  unfolding pick
  pick_start a b =
      ⊎_elim
      (λ (e : a ≡ 0). rw (not_before_place 0 0 a b e (omega arith)))
      (λ (n : a ≡ 0 → ⊥). rw (not_before_row 0 0 a b (omega arith)))
      (cases_eq a 0)

  pub pick_end : (r a b : ℕ) → a < r → pick r 0 f h a b ≡ f a b
  unfolding pick
  pick_end r a b l = rw (before_row r 0 a b l)

-- what is left of a sum
pub left_next : (r p : ℕ) (f : ℕ → ℕ → ℕ) (i j : ℕ) → i < r → j < p →
    totals r p (pick i j (λ a b. 0) f) ≡ f i j + totals r p (pick i (j + 1) (λ a b. 0) f)
left_next r p f i j hi hj =
    omega (
      arith,
      totals_changed r p (pick i j (λ a b. 0) f) i j 0 hi hj,
      pick_here (λ a b. 0) f i j,
      totals_ext r p (pick i (j + 1) (λ a b. 0) f) (change (pick i j (λ a b. 0) f) i j 0) (λ a b _ _. pick_next (λ a b. 0) f i j a b),
    )

pub left_row : (r p : ℕ) (f : ℕ → ℕ → ℕ) (i : ℕ) → totals r p (pick i p (λ a b. 0) f) ≡ totals r p (pick (i + 1) 0 (λ a b. 0) f)
left_row r p f i = totals_ext r p (pick i p (λ a b. 0) f) (pick (i + 1) 0 (λ a b. 0) f) (λ a b _ hb. pick_row (λ a b. 0) f i p a b hb)
