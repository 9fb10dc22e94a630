-- Zeroing a value: the steps of a loop with a stack.
use Rattle.std.proofs.Common.{◌≡◌, ℕ, ◌+◌, ◌<◌, ◌≤◌, List, [], ◌∷◌, refl, ap, ◌∙◌, ⊎_elim, arith}
use Rattle.std.proofs.lemmas.Bool.{cases_lt}
use Rattle.tree.specs.Value.{Shape, Value, null, object, rows, pointers, slot}
use Rattle.tree.specs.Shows.{Memory, land, Shows, within, reach}
use Rattle.tree.specs.Edits.{Cleared, pads, words}
use Rattle.tree.specs.Loops.{pick, left_of, Pending, left_in, Wiping}
use Rattle.tree.proofs.Count.{within_in, totals_ext, totals_zero}
use Rattle.tree.proofs.Frame.{frame, slot_within}
use Rattle.tree.proofs.Context.{kids}
use Rattle.tree.proofs.Index.{left_next, left_row, pick_start, pick_end}

pub wipe_start : (H : Memory) (g w : ℕ) (u : Value) → Wiping H g w u H (reach H g w u)
wipe_start H g w u = record {
  part = λ x y. omega arith;
  stands = λ x y _. refl;
  gone = λ x y h k. absurd (omega arith);
  others = λ x y _. refl;
}

-- the same count, said in another way: nothing is zeroed when the loop goes on to the next pointer, or down into a child
pub wipe_recount : (H₀ : Memory) (g w : ℕ) (u : Value) (H : Memory) (left left' : ℕ → ℕ → ℕ) → ((x y : ℕ) → left' x y ≡ left x y) →
    Wiping H₀ g w u H left → Wiping H₀ g w u H left'
wipe_recount H₀ g w u H left left' e ok = record {
  part = λ x y. omega (arith, e x y, ok.part x y);
  stands = λ x y h. ok.stands x y (omega (arith, e x y));
  gone = λ x y h k. ok.gone x y (omega (arith, e x y)) k;
  others = ok.others;
}

-- what is left is still shown
pub wipe_shows : (H₀ : Memory) (g w : ℕ) (u : Value) (H : Memory) (left : ℕ → ℕ → ℕ) → Wiping H₀ g w u H left →
    (a : ℕ → ℕ) (b c : ℕ) (v : Value) → 1 ≤ left b c → ((x y : ℕ) → reach H₀ b c v x y ≤ left x y) → Shows H₀ a b c v → Shows H a b c v
wipe_shows H₀ g w u H left ok a b c v h k s =
    frame H₀ H a a (λ x. omega arith) v b c (ok.stands b c h, λ x y m. ok.stands x y (omega (arith, k x y))) s

-- words are zeroed
pub wipe_words : (H₀ : Memory) (g w : ℕ) (u : Value) (H H' : Memory) (left part left' : ℕ → ℕ → ℕ) → Wiping H₀ g w u H left →
    ((x y : ℕ) → left x y ≡ part x y + left' x y) → ((x y : ℕ) → left x y ≤ 1) →
    ((x y : ℕ) → 1 ≤ part x y → H' x y ≡ 0) → ((x y : ℕ) → part x y ≡ 0 → H' x y ≡ H x y) →
    Wiping H₀ g w u H' left'
wipe_words H₀ g w u H H' left part left' ok e one zero' same = record {
  part = λ x y. omega (arith, e x y, ok.part x y);
  stands = λ x y h. same x y (omega (arith, e x y, one x y)) ∙ ok.stands x y (omega (arith, e x y));
  gone = λ x y h k.
      ⊎_elim
      (λ (d : 0 < part x y). zero' x y d)
      (λ (d : part x y ≤ 0). same x y (omega arith) ∙ ok.gone x y (omega (arith, e x y)) k)
      (cases_lt 0 (part x y));
  others = λ x y h. same x y (omega (arith, e x y, ok.part x y)) ∙ ok.others x y h;
}

-- ## The counts at the loop's steps

pub left_begin : (H : Memory) (g w : ℕ) (sh : Shape) (dat : ℕ → ℕ → ℕ) (kid : ℕ → ℕ → Value) (x y : ℕ) →
    left_of H g w sh kid 0 0 x y ≡ reach H g w (object sh dat kid) x y
left_begin H g w sh dat kid x y =
    omega (
      arith,
      totals_ext (rows sh) (pointers sh) (pick 0 0 (λ a b. 0) (kids H g w sh kid x y)) (kids H g w sh kid x y)
          (λ i j _ _. pick_start (λ a b. 0) (kids H g w sh kid x y) i j),
    )

pub left_step : (H : Memory) (g w : ℕ) (sh : Shape) (kid : ℕ → ℕ → Value) (i j : ℕ) → i < rows sh → j < pointers sh → (x y : ℕ) →
    left_of H g w sh kid i j x y ≡ left_of H g w sh kid i (j + 1) x y + kids H g w sh kid x y i j
left_step H g w sh kid i j hi hj x y = omega (arith, left_next (rows sh) (pointers sh) (kids H g w sh kid x y) i j hi hj)

pub left_turn : (H : Memory) (g w : ℕ) (sh : Shape) (kid : ℕ → ℕ → Value) (i x y : ℕ) →
    left_of H g w sh kid i (pointers sh) x y ≡ left_of H g w sh kid (i + 1) 0 x y
left_turn H g w sh kid i x y = omega (arith, left_row (rows sh) (pointers sh) (kids H g w sh kid x y) i)

pub left_end : (H : Memory) (g w : ℕ) (sh : Shape) (kid : ℕ → ℕ → Value) (x y : ℕ) →
    left_of H g w sh kid (rows sh) 0 x y ≡ pads H g w x y + words H g w sh x y
left_end H g w sh kid x y =
    omega (
      arith,
      totals_zero (rows sh) (pointers sh) (pick (rows sh) 0 (λ a b. 0) (kids H g w sh kid x y))
          (λ i j hi _. pick_end (λ a b. 0) (kids H g w sh kid x y) (rows sh) i j hi),
    )

-- all is zeroed, then the slot
pub wipe_cleared : (H₀ : Memory) (g w : ℕ) (u : Value) (H H' : Memory) → Wiping H₀ g w u H (λ x y. 0) →
    ((x y : ℕ) → within g w 1 x y + reach H₀ g w u x y ≤ 1) →
    H' g w ≡ 0 → ((x y : ℕ) → (x ≡ g → y ≡ w → ⊥) → H' x y ≡ H x y) → Cleared H₀ H' g w u
wipe_cleared H₀ g w u H H' ok once z same = record {
  slot_zero = z;
  zeroed = λ x y h.
      same x y (λ e f. omega (arith, once x y, h, within_in g w 1 x y e (omega arith) (omega arith))) ∙ ok.gone x y refl h;
  kept = λ x y h n. same x y n ∙ ok.others x y h;
}

-- ## The loop, with a stack of objects begun

module _ (H₀ : Memory) (g w : ℕ) (u : Value) (H : Memory) where
  -- the first object
  pub stack_first : (sh : Shape) (dat : ℕ → ℕ → ℕ) (kid : ℕ → ℕ → Value) → u ≡ object sh dat kid → Wiping H₀ g w u H (reach H₀ g w u) →
      Wiping H₀ g w u H (left_in H₀ (record { g = g; w = w; sh = sh; kid = kid; i = 0; j = 0 } ∷ []))
  stack_first sh dat kid e ok =
      wipe_recount H₀ g w u H (reach H₀ g w u) (left_in H₀ (record { g = g; w = w; sh = sh; kid = kid; i = 0; j = 0 } ∷ []))
      (λ x y. omega (arith, left_begin H₀ g w sh dat kid x y, ap (λ z. reach H₀ g w z x y) e))
      ok

  module _ (b c : ℕ) (sh : Shape) (kid : ℕ → ℕ → Value) (i : ℕ) (fs : List Pending) where
    -- a child that is null
    pub stack_null : (j : ℕ) → i < rows sh → j < pointers sh → kid i j ≡ null →
        Wiping H₀ g w u H (left_in H₀ (record { g = b; w = c; sh = sh; kid = kid; i = i; j = j } ∷ fs)) →
        Wiping H₀ g w u H (left_in H₀ (record { g = b; w = c; sh = sh; kid = kid; i = i; j = j + 1 } ∷ fs))
    stack_null j hi hj e =
        wipe_recount H₀ g w u H (left_in H₀ (record { g = b; w = c; sh = sh; kid = kid; i = i; j = j } ∷ fs))
        (left_in H₀ (record { g = b; w = c; sh = sh; kid = kid; i = i; j = j + 1 } ∷ fs))
        (λ x y. omega (arith, left_step H₀ b c sh kid i j hi hj x y, ap (λ z. reach H₀ (land H₀ b c).seg ((land H₀ b c).pos + slot sh i j) z x y) e))

    -- a child that is an object is put on the stack
    pub stack_down : (j : ℕ) (sh' : Shape) (dat' : ℕ → ℕ → ℕ) (kid' : ℕ → ℕ → Value) → i < rows sh → j < pointers sh → kid i j ≡ object sh' dat' kid' →
        Wiping H₀ g w u H (left_in H₀ (record { g = b; w = c; sh = sh; kid = kid; i = i; j = j } ∷ fs)) →
        Wiping H₀ g w u H
        (left_in H₀
        (record { g = (land H₀ b c).seg; w = (land H₀ b c).pos + slot sh i j; sh = sh'; kid = kid'; i = 0; j = 0 } ∷
        (record { g = b; w = c; sh = sh; kid = kid; i = i; j = j + 1 } ∷ fs)))
    stack_down j sh' dat' kid' hi hj e =
        wipe_recount H₀ g w u H (left_in H₀ (record { g = b; w = c; sh = sh; kid = kid; i = i; j = j } ∷ fs))
        (left_in H₀
        (record { g = (land H₀ b c).seg; w = (land H₀ b c).pos + slot sh i j; sh = sh'; kid = kid'; i = 0; j = 0 } ∷
        (record { g = b; w = c; sh = sh; kid = kid; i = i; j = j + 1 } ∷ fs)))
        (λ x y.
        omega (
          arith,
          left_step H₀ b c sh kid i j hi hj x y,
          left_begin H₀ (land H₀ b c).seg ((land H₀ b c).pos + slot sh i j) sh' dat' kid' x y,
          ap (λ z. reach H₀ (land H₀ b c).seg ((land H₀ b c).pos + slot sh i j) z x y) e,
        ))

    -- the next row
    pub stack_row : Wiping H₀ g w u H (left_in H₀ (record { g = b; w = c; sh = sh; kid = kid; i = i; j = pointers sh } ∷ fs)) →
        Wiping H₀ g w u H (left_in H₀ (record { g = b; w = c; sh = sh; kid = kid; i = i + 1; j = 0 } ∷ fs))
    stack_row =
        wipe_recount H₀ g w u H (left_in H₀ (record { g = b; w = c; sh = sh; kid = kid; i = i; j = pointers sh } ∷ fs))
        (left_in H₀ (record { g = b; w = c; sh = sh; kid = kid; i = i + 1; j = 0 } ∷ fs))
        (λ x y. omega (arith, left_turn H₀ b c sh kid i x y))

    -- the object is done: it and its pads are zeroed
    pub stack_up : (H' : Memory) → ((x y : ℕ) → reach H₀ g w u x y ≤ 1) →
        ((x y : ℕ) → 1 ≤ pads H₀ b c x y + words H₀ b c sh x y → H' x y ≡ 0) →
        ((x y : ℕ) → pads H₀ b c x y + words H₀ b c sh x y ≡ 0 → H' x y ≡ H x y) →
        Wiping H₀ g w u H (left_in H₀ (record { g = b; w = c; sh = sh; kid = kid; i = rows sh; j = 0 } ∷ fs)) →
        Wiping H₀ g w u H' (left_in H₀ fs)
    stack_up H' once zero' same ok =
        wipe_words H₀ g w u H H' (left_in H₀ (record { g = b; w = c; sh = sh; kid = kid; i = rows sh; j = 0 } ∷ fs))
        (λ x y. pads H₀ b c x y + words H₀ b c sh x y)
        (left_in H₀ fs)
        ok
        (λ x y. omega (arith, left_end H₀ b c sh kid x y))
        (λ x y. omega (arith, ok.part x y, once x y))
        zero'
        same

    -- the child that comes next is still shown, so its words can be read
    pub stack_shows : (a : ℕ → ℕ) (j : ℕ) → i < rows sh → j < pointers sh →
        Wiping H₀ g w u H (left_in H₀ (record { g = b; w = c; sh = sh; kid = kid; i = i; j = j } ∷ fs)) →
        Shows H₀ a (land H₀ b c).seg ((land H₀ b c).pos + slot sh i j) (kid i j) →
        Shows H a (land H₀ b c).seg ((land H₀ b c).pos + slot sh i j) (kid i j)
    stack_shows a j hi hj ok s =
        wipe_shows H₀ g w u H (left_in H₀ (record { g = b; w = c; sh = sh; kid = kid; i = i; j = j } ∷ fs)) ok a (land H₀ b c).seg ((land H₀ b c).pos + slot sh i j) (kid i j)
        (omega (arith, slot_within (land H₀ b c).seg (land H₀ b c).pos (land H₀ b c).said sh i j hi hj))
        (λ x y. omega (arith, left_step H₀ b c sh kid i j hi hj x y))
        s
