-- What an edit does to the words, and what is kept while an object's children move.
use Rattle.std.specs.Prelude.{◌≡◌, ℕ, ◌+◌, ◌^◌, ◌<◌, ◌≤◌, ◌≢◌, ◌⊎◌, List}
use Rattle.wire.specs.Pointers.{pointer_kind, pointer_target, single_far}
use Rattle.tree.specs.Value.{Shape, Value, rows, pointers, slot, head, Step}
use Rattle.tree.specs.Shows.{Memory, Landing, land, span, Paved, Describes, Body, Shows, within, totals, reach, walk, rest}

-- the pads to which the slot (g, w) leads
abbrev pub pads : Memory → ℕ → ℕ → ℕ → ℕ → ℕ
pads H g w x y = within (land H g w).pad_seg (land H g w).pad_pos (land H g w).pad_len x y

-- the words of the object to which it leads
abbrev pub words : Memory → ℕ → ℕ → Shape → ℕ → ℕ → ℕ
words H g w sh x y = within (land H g w).seg (land H g w).pos (span (land H g w).said sh) x y

-- how often a word is counted apart from what the slot at the path's end reaches
abbrev pub outer : Memory → Value → List Step → ℕ → ℕ → ℕ
outer H v p x y = within 0 0 1 x y + rest H 0 0 v p x y

-- ## Clear

-- the slot and everything that it reached are zero, and all else is the same
pub record Cleared (H H' : Memory) (g w : ℕ) (u : Value) : Type 0 where
  pub slot_zero : H' g w ≡ 0
  pub zeroed : (x y : ℕ) → 1 ≤ reach H g w u x y → H' x y ≡ 0
  pub kept : (x y : ℕ) → reach H g w u x y ≡ 0 → (x ≡ g → y ≢ w) → H' x y ≡ H x y

-- ## Fill a null slot

-- the slot now shows u on words that were not allocated, and all else is the same
pub record Filled (H H' : Memory) (a a' : ℕ → ℕ) (g w : ℕ) (u : Value) : Type 0 where
  pub grown : (x : ℕ) → a x ≤ a' x
  pub shown : Shows H' a' g w u
  pub fresh : (x y : ℕ) → 1 ≤ reach H' g w u x y → a x ≤ y
  pub single : (x y : ℕ) → reach H' g w u x y ≤ 1
  pub kept : (x y : ℕ) → reach H' g w u x y ≡ 0 → (x ≡ g → y ≢ w) → H' x y ≡ H x y

-- a slot that leads to zero words of the shape
pub record Placed (H : Memory) (a : ℕ → ℕ) (g w : ℕ) (l : Landing) (sh : Shape) : Type 0 where
  pub leads : land H g w ≡ l
  pub paved : Paved H g w
  pub described : Describes l.said (H l.seg l.pos) sh
  pub inside : l.pos + span l.said sh ≤ a l.seg
  pub pads_inside : l.pad_pos + l.pad_len ≤ a l.pad_seg
  pub zeros : (n : ℕ) → head sh ≤ n → n < span l.said sh → H l.seg (l.pos + n) ≡ 0

-- the new object, and a pad before it, stand on words that were not allocated
pub record New (H H' : Memory) (a a' : ℕ → ℕ) (g w : ℕ) (l : Landing) (sh : Shape) : Type 0 where
  pub grown : (x : ℕ) → a x ≤ a' x
  pub placed : Placed H' a' g w l sh
  pub new_pads : 1 ≤ l.pad_len → a l.pad_seg ≤ l.pad_pos
  pub new_words : 1 ≤ span l.said sh → a l.seg ≤ l.pos
  pub apart : (x y : ℕ) → within l.pad_seg l.pad_pos l.pad_len x y + within l.seg l.pos (span l.said sh) x y ≤ 1
  pub kept : (x y : ℕ) → within l.pad_seg l.pad_pos l.pad_len x y + within l.seg l.pos (span l.said sh) x y ≡ 0 →
      (x ≡ g → y ≢ w) → H' x y ≡ H x y

-- ## A new object in the slot's segment

-- the pointer x in the slot leads to t
pub record Beside (H H' : Memory) (a a' : ℕ → ℕ) (g w t x : ℕ) (sh : Shape) : Type 0 where
  pub grown : (b : ℕ) → a b ≤ a' b
  pub pointer_is : H' g w ≡ x
  pub no_far : pointer_kind x ≢ 2
  pub live : x ≢ 0
  pub aims : pointer_target w x ≡ t
  pub slot_inside : w < a g
  pub described : Describes x (H' g t) sh
  pub inside : t + span x sh ≤ a' g
  pub zeros : (n : ℕ) → head sh ≤ n → n < span x sh → H' g (t + n) ≡ 0
  pub new : 1 ≤ span x sh → a g ≤ t
  pub kept : (b y : ℕ) → within g t (span x sh) b y ≡ 0 → (b ≡ g → y ≢ w) → H' b y ≡ H b y

-- ## A new object behind a pad, which stands in word q of segment s, right before the object

pub record Behind (H H' : Memory) (a a' : ℕ → ℕ) (g w s q x : ℕ) (sh : Shape) : Type 0 where
  pub grown : (b : ℕ) → a b ≤ a' b
  pub low_enough : q < 2 ^ 29
  pub far_is : H' g w ≡ single_far s q
  pub pad_is : H' s q ≡ x
  pub live : x ≢ 0
  pub aims : pointer_target q x ≡ q + 1
  pub described : Describes x (H' s (q + 1)) sh
  pub inside : q + 1 + span x sh ≤ a' s
  pub zeros : (n : ℕ) → head sh ≤ n → n < span x sh → H' s (q + 1 + n) ≡ 0
  pub new : a s ≤ q
  pub kept : (b y : ℕ) → within s q (1 + span x sh) b y ≡ 0 → (b ≡ g → y ≢ w) → H' b y ≡ H b y

-- ## A change of an object's own words

-- the numbers become `dat'`, by words of the object that are no slots; all else is the same
pub record Renumbered (H H' : Memory) (a : ℕ → ℕ) (g w : ℕ) (sh : Shape) (dat' : ℕ → ℕ → ℕ) : Type 0 where
  pub now : Body H' a (land H g w) sh dat'
  pub slots : (i j : ℕ) → i < rows sh → j < pointers sh →
      H' (land H g w).seg ((land H g w).pos + slot sh i j) ≡ H (land H g w).seg ((land H g w).pos + slot sh i j)
  pub kept : (x y : ℕ) → words H g w sh x y ≡ 0 → H' x y ≡ H x y

-- ## Children that move one after another

-- r rows of p slots, `at i j`, show the values `kid i j`. `base` counts the words besides (the slots among them), whose contents
-- do not matter; every other word is reached from one of the slots or is zero.
pub record Laid (H : Memory) (a : ℕ → ℕ) (base : ℕ → ℕ → ℕ) (r p : ℕ) (at : ℕ → ℕ → ℕ × ℕ) (kid : ℕ → ℕ → Value) : Type 0 where
  pub shown : (i j : ℕ) → i < r → j < p → Shows H a (at i j).0 (at i j).1 (kid i j)
  pub slots : (i j : ℕ) → i < r → j < p → 1 ≤ base (at i j).0 (at i j).1
  pub inside : (x y : ℕ) → 1 ≤ base x y → y < a x
  pub once : (x y : ℕ) → base x y + totals r p (λ i j. reach H (at i j).0 (at i j).1 (kid i j) x y) ≤ 1
  pub clean : (x y : ℕ) → base x y + totals r p (λ i j. reach H (at i j).0 (at i j).1 (kid i j) x y) ≡ 0 → H x y ≡ 0

-- The value of slot (i, j) is shown by the slot (G, W) too, over n new words from word q of segment s on; nothing else changes.
pub record Transferred (H H' : Memory) (a a' : ℕ → ℕ) (g w G W : ℕ) (s q n : ℕ) (u : Value) : Type 0 where
  pub grown : (x : ℕ) → a x ≤ a' x
  pub shown : Shows H' a' G W u
  pub reaches : (x y : ℕ) → reach H' G W u x y ≡ reach H g w u x y + within s q n x y
  pub new : 1 ≤ n → a s ≤ q
  pub kept : (x y : ℕ) → within s q n x y ≡ 0 → (x ≡ G → y ≢ W) → H' x y ≡ H x y

-- What every way has in common: the value is shown by (g, w), does not reach the new slot, and only that slot and new words change.
pub record Steady (H H' : Memory) (a a' : ℕ → ℕ) (g w G W s q n : ℕ) (u : Value) : Type 0 where
  pub grown : (x : ℕ) → a x ≤ a' x
  pub before : Shows H a g w u
  pub free : reach H g w u G W ≡ 0
  pub slot_inside : W < a G
  pub new : 1 ≤ n → a s ≤ q
  pub kept : (x y : ℕ) → within s q n x y ≡ 0 → (x ≡ G → y ≢ W) → H' x y ≡ H x y

-- ## An object is rebuilt in a larger shape

-- the words that a landing and a shape take
abbrev pub taken : Landing → Shape → ℕ → ℕ → ℕ
taken l sh x y = within l.pad_seg l.pad_pos l.pad_len x y + within l.seg l.pos (span l.said sh) x y

-- what is fixed while children move: all around, the old object and its pads, the new object and its pad
abbrev pub fixed : Memory → Value → List Step → Shape → Landing → Shape → ℕ → ℕ → ℕ
fixed H v p sh l sh' x y =
    outer H v p x y + taken (land H (walk H 0 0 v p).0 (walk H 0 0 v p).1) sh x y + taken l sh' x y

-- pointer (i, j) of an object
abbrev pub slot_at : Landing → Shape → ℕ → ℕ → ℕ × ℕ
slot_at l sh i j = (l.seg, l.pos + slot sh i j)

-- the new object (with its pad) is on words that were not allocated, and nothing else changes
pub record Opened (H H' : Memory) (a a' : ℕ → ℕ) (l : Landing) (sh : Shape) : Type 0 where
  pub grown : (x : ℕ) → a x ≤ a' x
  pub single : (x y : ℕ) → taken l sh x y ≤ 1
  pub new : (x y : ℕ) → 1 ≤ taken l sh x y → a x ≤ y
  pub inside : (x y : ℕ) → 1 ≤ taken l sh x y → y < a' x
  pub kept : (x y : ℕ) → taken l sh x y ≡ 0 → H' x y ≡ H x y

-- The slot now leads to the new object, which has the numbers; what it has more of slots is null, and the old object and its
-- pads are zero. H₁ is the memory with the children moved.
pub record Closed (H : Memory) (a : ℕ → ℕ) (v : Value) (p : List Step) (sh : Shape) (dat : ℕ → ℕ → ℕ) (l : Landing) (sh' : Shape) (H₁ H' : Memory) (a' : ℕ → ℕ) : Type 0 where
  pub grown : (x : ℕ) → a x ≤ a' x
  pub more_rows : rows sh ≤ rows sh'
  pub more_pointers : pointers sh ≤ pointers sh'
  pub leads : land H' (walk H 0 0 v p).0 (walk H 0 0 v p).1 ≡ l
  pub paved : Paved H' (walk H 0 0 v p).0 (walk H 0 0 v p).1
  pub body : Body H' a' l sh' dat
  pub nulls : (i j : ℕ) → i < rows sh' → j < pointers sh' → (rows sh ≤ i) ⊎ (pointers sh ≤ j) → H' l.seg (l.pos + slot sh' i j) ≡ 0
  pub wiped : (x y : ℕ) → 1 ≤ taken (land H (walk H 0 0 v p).0 (walk H 0 0 v p).1) sh x y → H' x y ≡ 0
  pub kept : (x y : ℕ) → taken (land H (walk H 0 0 v p).0 (walk H 0 0 v p).1) sh x y ≡ 0 →
      (x ≡ (walk H 0 0 v p).0 → y ≢ (walk H 0 0 v p).1) → H' x y ≡ H₁ x y
  pub around : (x y : ℕ) → 1 ≤ outer H v p x y → (x ≡ (walk H 0 0 v p).0 → y ≢ (walk H 0 0 v p).1) → H₁ x y ≡ H x y
