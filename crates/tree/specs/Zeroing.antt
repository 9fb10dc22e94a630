-- Zeroing as a walk: a stack of objects begun, each with the pointer that comes next. `left_in` counts what is still to be zeroed.
use Rattle.std.specs.Prelude.{◌≡◌, ℕ, ◌+◌, ◌<◌, ◌≤◌, List, [], ◌∷◌, ◌≢◌}
use Rattle.tree.specs.Value.{Shape, Value, null, object, rows, pointers, slot}
use Rattle.tree.specs.Shows.{Memory, land, Shows, within, reach}
use Rattle.tree.specs.Edits.{pads, words, Cleared}
use Rattle.tree.specs.Loops.{Pending, left_in, Wiping}

-- the object of the slot (b, c), whose pointer (i, j) comes next
abbrev pub pending : (b c : ℕ) → Shape → (ℕ → ℕ → Value) → (i j : ℕ) → Pending
pending b c sh kid i j = record { g = b; w = c; sh = sh; kid = kid; i = i; j = j }

-- the value u of the slot (g, w) of H₀ is zeroed, and H is the memory by now
pub record ZeroingWalks : Type 0 where
  pub starts : (H₀ : Memory) (g w : ℕ) (sh : Shape) (dat : ℕ → ℕ → ℕ) (kid : ℕ → ℕ → Value) →
      Wiping H₀ g w (object sh dat kid) H₀ (left_in H₀ (pending g w sh kid 0 0 ∷ []))
  -- a null child
  pub passes : (H₀ : Memory) (g w : ℕ) (u : Value) (H : Memory) (b c : ℕ) (sh : Shape) (kid : ℕ → ℕ → Value) (i j : ℕ) (fs : List Pending) →
      i < rows sh → j < pointers sh → kid i j ≡ null →
      Wiping H₀ g w u H (left_in H₀ (pending b c sh kid i j ∷ fs)) → Wiping H₀ g w u H (left_in H₀ (pending b c sh kid i (j + 1) ∷ fs))
  -- a child that is an object goes onto the stack
  pub descends : (H₀ : Memory) (g w : ℕ) (u : Value) (H : Memory) (b c : ℕ) (sh : Shape) (kid : ℕ → ℕ → Value) (i j : ℕ) (fs : List Pending)
      (sh' : Shape) (dat' : ℕ → ℕ → ℕ) (kid' : ℕ → ℕ → Value) → i < rows sh → j < pointers sh → kid i j ≡ object sh' dat' kid' →
      Wiping H₀ g w u H (left_in H₀ (pending b c sh kid i j ∷ fs)) →
      Wiping H₀ g w u H (left_in H₀ (pending (land H₀ b c).seg ((land H₀ b c).pos + slot sh i j) sh' kid' 0 0 ∷ (pending b c sh kid i (j + 1) ∷ fs)))
  -- and its words can still be read
  pub still_shows : (H₀ : Memory) (g w : ℕ) (u : Value) (H : Memory) (b c : ℕ) (sh : Shape) (kid : ℕ → ℕ → Value) (i j : ℕ) (fs : List Pending) (a : ℕ → ℕ) →
      i < rows sh → j < pointers sh → Wiping H₀ g w u H (left_in H₀ (pending b c sh kid i j ∷ fs)) →
      Shows H₀ a (land H₀ b c).seg ((land H₀ b c).pos + slot sh i j) (kid i j) → Shows H a (land H₀ b c).seg ((land H₀ b c).pos + slot sh i j) (kid i j)
  -- the next row
  pub turns : (H₀ : Memory) (g w : ℕ) (u : Value) (H : Memory) (b c : ℕ) (sh : Shape) (kid : ℕ → ℕ → Value) (i : ℕ) (fs : List Pending) →
      Wiping H₀ g w u H (left_in H₀ (pending b c sh kid i (pointers sh) ∷ fs)) → Wiping H₀ g w u H (left_in H₀ (pending b c sh kid (i + 1) 0 ∷ fs))
  -- an object that is done leaves the stack, and its words and pads are zeroed
  pub ascends : (H₀ : Memory) (g w : ℕ) (u : Value) (H H' : Memory) (b c : ℕ) (sh : Shape) (kid : ℕ → ℕ → Value) (fs : List Pending) →
      ((x y : ℕ) → reach H₀ g w u x y ≤ 1) → ((x y : ℕ) → 1 ≤ pads H₀ b c x y + words H₀ b c sh x y → H' x y ≡ 0) →
      ((x y : ℕ) → pads H₀ b c x y + words H₀ b c sh x y ≡ 0 → H' x y ≡ H x y) →
      Wiping H₀ g w u H (left_in H₀ (pending b c sh kid (rows sh) 0 ∷ fs)) → Wiping H₀ g w u H' (left_in H₀ fs)
  -- when nothing is left, the slot is zeroed too
  pub ends : (H H₁ H' : Memory) (g w : ℕ) (u : Value) → Wiping H g w u H₁ (λ x y. 0) → ((x y : ℕ) → within g w 1 x y + reach H g w u x y ≤ 1) →
      H' g w ≡ 0 → ((x y : ℕ) → (x ≡ g → y ≢ w) → H' x y ≡ H₁ x y) → Cleared H H' g w u
