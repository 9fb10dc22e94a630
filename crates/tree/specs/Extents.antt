-- The extents that a slot reaches, as a list, and what it means that they do not overlap.
use Rattle.std.specs.Prelude.{◌≡◌, ℕ, zero, suc, ◌+◌, ◌<◌, ◌≤◌, List, [], ◌∷◌, ◌++◌}
use Rattle.tree.specs.Value.{Value, null, object, rows, pointers, slot}
use Rattle.tree.specs.Shows.{Memory, land, span, Shows}

pub record Extent : Type 0 where
  pub seg : ℕ
  pub start : ℕ
  pub len : ℕ

-- the extent has the word y of segment x
abbrev pub Has : Extent → ℕ → ℕ → Type 0
Has e x y = (x ≡ e.seg) × (e.start ≤ y) × (y < e.start + e.len)

abbrev pub Every : (Extent → Type 0) → List Extent → Type 0
Every P [] = Unit {0}
Every P (e ∷ es) = P e × Every P es

-- no two extents have a word in common
abbrev pub Disjoint : List Extent → Type 0
Disjoint [] = Unit {0}
Disjoint (e ∷ es) = Every (λ f. (x y : ℕ) → Has e x y → Has f x y → ⊥) es × Disjoint es

unfoldable pub gather : ℕ → (ℕ → List Extent) → List Extent
gather zero f = []
gather (suc n) f = gather n f ++ f n

-- the pads, the object (a tag counted in), and the same of every child
unfoldable pub extents : Memory → ℕ → ℕ → Value → List Extent
extents H g w null = []
extents H g w (object sh dat kid) =
    record { seg = (land H g w).pad_seg; start = (land H g w).pad_pos; len = (land H g w).pad_len } ∷
    (record { seg = (land H g w).seg; start = (land H g w).pos; len = span (land H g w).said sh } ∷
    gather (rows sh) (λ i. gather (pointers sh) (λ j. extents H (land H g w).seg ((land H g w).pos + slot sh i j) (kid i j))))

-- the root word and all that is reached from it
abbrev pub parts : Memory → Value → List Extent
parts H v = record { seg = 0; start = 0; len = 1 } ∷ extents H 0 0 v

-- `Sound`, said with extents
pub record WellLaid (H : Memory) (a : ℕ → ℕ) (v : Value) : Type 0 where
  pub shown : Shows H a 0 0 v
  pub inside : Every (λ e. e.start + e.len ≤ a e.seg) (parts H v)
  pub apart : Disjoint (parts H v)
  pub clean : (x y : ℕ) → Every (λ e. Has e x y → ⊥) (parts H v) → H x y ≡ 0
