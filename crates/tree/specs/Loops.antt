-- What is kept while a loop goes through the pointers of an object, row by row.
use Rattle.std.specs.Prelude.{◌≡◌, ℕ, ◌+◌, ◌≤◌, Bool, cond, ◌&&◌, ◌||◌, List, [], ◌∷◌, ◌==◌, nat_lt}
use Rattle.tree.specs.Value.{Shape, Value, rows, pointers, slot}
use Rattle.tree.specs.Shows.{Memory, land, totals, reach}
use Rattle.tree.specs.Edits.{pads, words}

-- (a, b) comes before (i, j)
abbrev pub before : ℕ → ℕ → ℕ → ℕ → Bool
before i j a b = nat_lt a i || (a == i && nat_lt b j)

-- f for the pairs before (i, j), and h for it and those after
unfoldable pub pick : {A : Type 0} → ℕ → ℕ → (ℕ → ℕ → A) → (ℕ → ℕ → A) → ℕ → ℕ → A
pick i j f h a b = cond (before i j a b) (f a b) (h a b)

-- what is left of an object of which the pointers before (i, j) are done
abbrev pub left_of : Memory → ℕ → ℕ → Shape → (ℕ → ℕ → Value) → ℕ → ℕ → ℕ → ℕ → ℕ
left_of H g w sh kid i j x y = pads H g w x y + words H g w sh x y + totals (rows sh) (pointers sh) (pick i j (λ a b. 0) (λ a b. reach H (land H g w).seg ((land H g w).pos + slot sh a b) (kid a b) x y))

-- an object on the stack: its slot, what it is, and the pointer that comes next
pub record Pending : Type 0 where
  pub g : ℕ
  pub w : ℕ
  pub sh : Shape
  pub kid : ℕ → ℕ → Value
  pub i : ℕ
  pub j : ℕ

-- what is left of all that are on the stack
abbrev pub left_in : Memory → List Pending → ℕ → ℕ → ℕ
left_in H [] x y = 0
left_in H (f ∷ fs) x y = left_of H f.g f.w f.sh f.kid f.i f.j x y + left_in H fs x y

-- The value u of the slot (g, w) in H₀ is being zeroed, and H is the memory by now: `left` counts the words still to be zeroed.
pub record Wiping (H₀ : Memory) (g w : ℕ) (u : Value) (H : Memory) (left : ℕ → ℕ → ℕ) : Type 0 where
  pub part : (x y : ℕ) → left x y ≤ reach H₀ g w u x y
  pub stands : (x y : ℕ) → 1 ≤ left x y → H x y ≡ H₀ x y
  pub gone : (x y : ℕ) → left x y ≡ 0 → 1 ≤ reach H₀ g w u x y → H x y ≡ 0
  pub others : (x y : ℕ) → reach H₀ g w u x y ≡ 0 → H x y ≡ H₀ x y
