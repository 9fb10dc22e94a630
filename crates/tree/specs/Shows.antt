-- When a slot of memory shows a value, and which words that takes.
use Rattle.std.specs.Prelude.{◌≡◌, ℕ, zero, suc, ◌+◌, ◌-◌, ◌*◌, ◌<◌, ◌≤◌, cond, ◌&&◌, ◌≢◌, ◌⊎◌, List, [], ◌∷◌, ◌==◌, nat_le, nat_lt}
use Rattle.wire.specs.Pointers.{pointer_kind, offset_field, pointer_target, data_words, pointer_words, list_code, list_count, far_segment, far_word, far_mark}
use Rattle.tree.specs.Value.{Shape, structure, plain, composite, Value, null, object, rows, pointers, places, size, slot, number, element_code, Step, change}

-- the word w of segment g, 0 where there is none
abbrev pub Memory : Type 0
Memory = ℕ → ℕ → ℕ

-- ## Where a slot leads

-- how: by itself, by a far pointer over one pad word, by a double far pointer over two
pub data Way : Type 0 where
  direct single double : Way

abbrev pub far_way : ℕ → Way
far_way zero = single
far_way (suc n) = double

abbrev pub way : ℕ → Way
way x = cond (pointer_kind x == 2) (far_way (far_mark x)) direct

-- Where it leads: the word that describes the object, the object's segment and first word, and the pads' segment, first word
-- and number.
pub record Landing : Type 0 where
  pub said : ℕ
  pub seg : ℕ
  pub pos : ℕ
  pub pad_seg : ℕ
  pub pad_pos : ℕ
  pub pad_len : ℕ

-- for a slot in word w of segment g that holds x
abbrev pub landing : Memory → ℕ → ℕ → ℕ → Way → Landing
landing H g w x direct = record { said = x; seg = g; pos = pointer_target w x; pad_seg = g; pad_pos = w; pad_len = 0 }
landing H g w x single = record {
  said = H (far_segment x) (far_word x);
  seg = far_segment x;
  pos = pointer_target (far_word x) (H (far_segment x) (far_word x));
  pad_seg = far_segment x;
  pad_pos = far_word x;
  pad_len = 1;
}
landing H g w x double = record {
  said = H (far_segment x) (far_word x + 1);
  seg = far_segment (H (far_segment x) (far_word x));
  pos = far_word (H (far_segment x) (far_word x));
  pad_seg = far_segment x;
  pad_pos = far_word x;
  pad_len = 2;
}

unfoldable pub land : Memory → ℕ → ℕ → Landing
land H g w = landing H g w (H g w) (way (H g w))

-- a pad is as it should be
abbrev pub Road : Memory → ℕ → ℕ → ℕ → Way → Type 0
Road H g w x direct = x ≢ 0
Road H g w x single = H (far_segment x) (far_word x) ≢ 0
Road H g w x double =
    (way (H (far_segment x) (far_word x)) ≡ single) × (offset_field (H (far_segment x) (far_word x + 1)) ≡ 0)

unfoldable pub Paved : Memory → ℕ → ℕ → Type 0
Paved H g w = Road H g w (H g w) (way (H g w))

-- ## What a word says of an object

-- x describes an object of the shape, whose first word is t
unfoldable pub Describes : ℕ → ℕ → Shape → Type 0
Describes x t (structure dw pw) = (pointer_kind x ≡ 0) × (data_words x ≡ dw) × (pointer_words x ≡ pw)
Describes x t (plain c n) = (pointer_kind x ≡ 1) × (list_code x ≡ element_code c) × (list_count x ≡ n)
Describes x t (composite n dw pw) =
    (pointer_kind x ≡ 1) × (list_code x ≡ 7) × (n * (dw + pw) ≤ list_count x) × (pointer_kind t ≡ 0) × (offset_field t ≡ n) × (data_words t ≡ dw) × (pointer_words t ≡ pw)

-- the words that x gives to an object of the shape beyond those that the shape needs: a struct list may have some after its rows
abbrev pub spare : ℕ → Shape → ℕ
spare x (structure dw pw) = 0
spare x (plain c n) = 0
spare x (composite n dw pw) = list_count x - n * (dw + pw)

-- all words of an object of the shape that x describes
abbrev pub span : ℕ → Shape → ℕ
span x sh = size sh + spare x sh

-- ## The object, but for its children

-- `a` has the allocated words of each segment
pub record Body (H : Memory) (a : ℕ → ℕ) (l : Landing) (sh : Shape) (dat : ℕ → ℕ → ℕ) : Type 0 where
  pub described : Describes l.said (H l.seg l.pos) sh
  pub inside : l.pos + span l.said sh ≤ a l.seg
  pub pads_inside : l.pad_pos + l.pad_len ≤ a l.pad_seg
  pub numbers : (i k : ℕ) → i < rows sh → k < places sh → dat i k ≡ number sh (λ n. H l.seg (l.pos + n)) i k
  pub no_more : (i k : ℕ) → (rows sh ≤ i) ⊎ (places sh ≤ k) → dat i k ≡ 0

-- the slot in word w of segment g shows the value
abbrev pub Shows : Memory → (ℕ → ℕ) → ℕ → ℕ → Value → Type 0
Shows H a g w null = H g w ≡ 0
Shows H a g w (object sh dat kid) =
    Paved H g w ×
    Body H a (land H g w) sh dat ×
    ((i j : ℕ) → i < rows sh → j < pointers sh → Shows H a (land H g w).seg ((land H g w).pos + slot sh i j) (kid i j)) ×
    ((i j : ℕ) → (rows sh ≤ i) ⊎ (pointers sh ≤ j) → kid i j ≡ null)

-- ## How often a word is reached

-- 1 if (x, y) is one of the n words from word s of segment g on, else 0
unfoldable pub within : ℕ → ℕ → ℕ → ℕ → ℕ → ℕ
within g s n x y = cond (x == g && (nat_le s y && nat_lt y (s + n))) 1 0

-- f 0 + .. + f (n - 1)
unfoldable pub total : ℕ → (ℕ → ℕ) → ℕ
total zero f = 0
total (suc n) f = total n f + f n

-- the same over rows and pointers
abbrev pub totals : ℕ → ℕ → (ℕ → ℕ → ℕ) → ℕ
totals r p f = total r (λ i. total p (f i))

-- how many ways lead from the slot (g, w) to the word (x, y), where the slot shows the value: through pads, the object (a tag
-- counted in), and the children
abbrev pub reach : Memory → ℕ → ℕ → Value → ℕ → ℕ → ℕ
reach H g w null x y = 0
reach H g w (object sh dat kid) x y =
    within (land H g w).pad_seg (land H g w).pad_pos (land H g w).pad_len x y +
    within (land H g w).seg (land H g w).pos (span (land H g w).said sh) x y +
    totals (rows sh) (pointers sh) (λ i j. reach H (land H g w).seg ((land H g w).pos + slot sh i j) (kid i j) x y)

-- ## Along a path

-- the slot to which the path leads from the slot (g, w), which shows v
abbrev pub walk : Memory → ℕ → ℕ → Value → List Step → ℕ × ℕ
walk H g w v [] = (g, w)
walk H g w null (s ∷ p) = (g, w)
walk H g w (object sh dat kid) (s ∷ p) =
    walk H (land H g w).seg ((land H g w).pos + slot sh s.element s.pointer_number) (kid s.element s.pointer_number) p

-- how often (x, y) is reached otherwise than through the slot at the path's end
abbrev pub rest : Memory → ℕ → ℕ → Value → List Step → ℕ → ℕ → ℕ
rest H g w v [] x y = 0
rest H g w null (s ∷ p) x y = 0
rest H g w (object sh dat kid) (s ∷ p) x y =
    within (land H g w).pad_seg (land H g w).pad_pos (land H g w).pad_len x y +
    within (land H g w).seg (land H g w).pos (span (land H g w).said sh) x y +
    totals (rows sh) (pointers sh)
    (change (λ i j. reach H (land H g w).seg ((land H g w).pos + slot sh i j) (kid i j) x y)
    s.element
    s.pointer_number
    (rest H (land H g w).seg ((land H g w).pos + slot sh s.element s.pointer_number) (kid s.element s.pointer_number) p x y))

-- ## A well-laid-out message

-- the root word, word 0 of segment 0, with the tree below it
pub record Sound (H : Memory) (a : ℕ → ℕ) (v : Value) : Type 0 where
  pub rooted : 0 < a 0
  pub shown : Shows H a 0 0 v
  pub once : (x y : ℕ) → within 0 0 1 x y + reach H 0 0 v x y ≤ 1
  pub clean : (x y : ℕ) → within 0 0 1 x y + reach H 0 0 v x y ≡ 0 → H x y ≡ 0
