-- The objects on a cursor, as those that are still to be zeroed.
use Rattle.std.proofs.Common.{◌≡◌, ℕ, zero, suc, ◌+◌, ◌-◌, ◌<◌, ◌≤◌, Bool, true, false, eqb, ltb, ◌≢◌, ◌⊎◌, List, [], ◌∷◌, length, sym, refl, ap, ◌∙◌, subst, inl, inr, ⊎_elim, add-one, arith}
use Rattle.std.proofs.lemmas.Bool.{cond-true, cond-false, ltb-true, ltb-false, eq-eqb, ne_eqb, cases_lt, cases_eq}
use Rattle.tree.specs.Value.{Shape, Value, object, rows, pointers}
use Rattle.tree.specs.Shows.{Memory, land, Shows}
use Rattle.tree.specs.Decode.{Deep}
use Rattle.tree.specs.Loops.{Pending, left_of}
use Rattle.tree.proofs.Wipe.{left_turn}
use Rattle.cursor.specs.Begun.{Begun, passed, first_row}

-- what a cursor has of it
abbrev pub begun_by : Memory → Pending → Begun
begun_by H p = record { place = land H p.g p.w; shape = p.sh; row = p.i; pointer = p.j }

-- it stands in H with n others below it: its slot shows it, what it holds is deep by as much less, and a pointer comes next or none
pub record Stands (H : Memory) (a : ℕ → ℕ) (n : ℕ) (p : Pending) : Type 0 where
  pub numbers : ℕ → ℕ → ℕ
  pub shown : Shows H a p.g p.w (object p.sh numbers p.kid)
  pub deep : (i j : ℕ) → Deep (63 - n) (p.kid i j)
  pub next : ((p.i < rows p.sh) × (p.j < pointers p.sh)) ⊎ ((p.i ≡ rows p.sh) × (p.j ≡ 0))

abbrev pub Standing : Memory → (ℕ → ℕ) → List Pending → Type 0
Standing H a [] = Unit {0}
Standing H a (p ∷ ps) = Stands H a (length ps) p × Standing H a ps

-- ## A pointer further

abbrev pub on_by : Bool → Pending → Pending
on_by true p = record { g = p.g; w = p.w; sh = p.sh; kid = p.kid; i = p.i; j = p.j + 1 }
on_by false p = record { g = p.g; w = p.w; sh = p.sh; kid = p.kid; i = p.i + 1; j = 0 }

abbrev pub left_by : Memory → Pending → ℕ → ℕ → ℕ
left_by H p = left_of H p.g p.w p.sh p.kid p.i p.j

on_begun : (H : Memory) (p : Pending) (b : Bool) → ltb (p.j + 1) (pointers p.sh) ≡ b → begun_by H (on_by b p) ≡ passed (begun_by H p)
on_begun H p true e = sym (cond-true (ltb (p.j + 1) (pointers p.sh)) (begun_by H (on_by true p)) (begun_by H (on_by false p)) e)
on_begun H p false e = sym (cond-false (ltb (p.j + 1) (pointers p.sh)) (begun_by H (on_by true p)) (begun_by H (on_by false p)) e)

on_left : (H : Memory) (p : Pending) (b : Bool) → ltb (p.j + 1) (pointers p.sh) ≡ b → p.j < pointers p.sh → (x y : ℕ) →
    left_by H (on_by b p) x y ≡ left_by H (on_by true p) x y
on_left H p true e h x y = refl
on_left H p false e h x y =
    let l = ltb-false (p.j + 1) (pointers p.sh) e in
    let q : p.j + 1 ≡ pointers p.sh = omega arith in
    sym (ap (λ (k : ℕ). left_of H p.g p.w p.sh p.kid p.i k x y) q ∙ left_turn H p.g p.w p.sh p.kid p.i x y)

on_stands : (H : Memory) (a : ℕ → ℕ) (n : ℕ) (p : Pending) (b : Bool) → ltb (p.j + 1) (pointers p.sh) ≡ b → p.i < rows p.sh → p.j < pointers p.sh →
    Stands H a n p → Stands H a n (on_by b p)
on_stands H a n p true e hi hj s =
    record { numbers = s.numbers; shown = s.shown; deep = s.deep; next = inl (hi, ltb-true (p.j + 1) (pointers p.sh) e) }
on_stands H a n p false e hi hj s = record {
  numbers = s.numbers;
  shown = s.shown;
  deep = s.deep;
  next = ⊎_elim
      (λ (l : p.i + 1 < rows p.sh). inl (l, omega arith))
      (λ (l : rows p.sh ≤ p.i + 1). inr (omega arith, refl))
      (cases_lt (p.i + 1) (rows p.sh));
}

pub further : Pending → Pending
further p = on_by (ltb (p.j + 1) (pointers p.sh)) p

pub further_begun : (H : Memory) (p : Pending) → begun_by H (further p) ≡ passed (begun_by H p)
unfolding further
further_begun H p = on_begun H p (ltb (p.j + 1) (pointers p.sh)) refl

pub further_left : (H : Memory) (p : Pending) → p.j < pointers p.sh → (x y : ℕ) → left_by H (further p) x y ≡ left_by H (on_by true p) x y
unfolding further
further_left H p h x y = on_left H p (ltb (p.j + 1) (pointers p.sh)) refl h x y

pub further_stands : (H : Memory) (a : ℕ → ℕ) (n : ℕ) (p : Pending) → p.i < rows p.sh → p.j < pointers p.sh → Stands H a n p → Stands H a n (further p)
unfolding further
further_stands H a n p hi hj s = on_stands H a n p (ltb (p.j + 1) (pointers p.sh)) refl hi hj s

-- ## An object that begins

-- without pointers, any row is as good as the first
no_pointers : (H : Memory) (g w : ℕ) (sh : Shape) (kid : ℕ → ℕ → Value) → pointers sh ≡ 0 → (n x y : ℕ) →
    left_of H g w sh kid n 0 x y ≡ left_of H g w sh kid 0 0 x y
no_pointers H g w sh kid z zero x y = refl
no_pointers H g w sh kid z (suc n) x y =
    ap (λ (k : ℕ). left_of H g w sh kid k 0 x y) (sym (add-one n)) ∙
    (sym (left_turn H g w sh kid n x y) ∙ (ap (λ (k : ℕ). left_of H g w sh kid n k x y) z ∙ no_pointers H g w sh kid z n x y))

abbrev pub first_of : (g w : ℕ) → Shape → (ℕ → ℕ → Value) → Pending
first_of g w sh kid = record { g = g; w = w; sh = sh; kid = kid; i = first_row sh; j = 0 }

pub first_left : (H : Memory) (g w : ℕ) (sh : Shape) (kid : ℕ → ℕ → Value) (x y : ℕ) →
    left_by H (first_of g w sh kid) x y ≡ left_of H g w sh kid 0 0 x y
first_left H g w sh kid x y =
    ⊎_elim
    (λ (z : pointers sh ≡ 0).
    ap (λ (k : ℕ). left_of H g w sh kid k 0 x y) (cond-true (eqb (pointers sh) 0) (rows sh) 0 (eq-eqb (pointers sh) 0 z)) ∙ no_pointers H g w sh kid z (rows sh) x y)
    (λ (z : pointers sh ≢ 0). ap (λ (k : ℕ). left_of H g w sh kid k 0 x y) (cond-false (eqb (pointers sh) 0) (rows sh) 0 (ne_eqb (pointers sh) 0 z)))
    (cases_eq (pointers sh) 0)

pub first_stands : (H : Memory) (a : ℕ → ℕ) (n g w : ℕ) (sh : Shape) (dat : ℕ → ℕ → ℕ) (kid : ℕ → ℕ → Value) → n < 64 →
    Shows H a g w (object sh dat kid) → Deep (64 - n) (object sh dat kid) → Stands H a n (first_of g w sh kid)
first_stands H a n g w sh dat kid l s d = record {
  numbers = dat;
  shown = s;
  deep = let e : 64 - n ≡ suc (63 - n) = omega arith in subst (λ (k : ℕ). Deep k (object sh dat kid)) e d;
  next = ⊎_elim
      (λ (z : pointers sh ≡ 0). inr (cond-true (eqb (pointers sh) 0) (rows sh) 0 (eq-eqb (pointers sh) 0 z), refl))
      (λ (z : pointers sh ≢ 0).
      let e : first_row sh ≡ 0 = cond-false (eqb (pointers sh) 0) (rows sh) 0 (ne_eqb (pointers sh) 0 z) in
      ⊎_elim
      (λ (h : 0 < rows sh). inl (rw e h, omega arith))
      (λ (h : rows sh ≤ 0). inr (omega arith, refl))
      (cases_lt 0 (rows sh)))
      (cases_eq (pointers sh) 0);
}
