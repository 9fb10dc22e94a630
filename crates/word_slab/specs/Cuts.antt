-- Segments that are cut one after another from a list of words, and what a slab offers.
use Rattle.std.specs.Prelude.{◌≡◌, ℕ, ◌+◌, ◌-◌, ◌^◌, ◌<◌, ◌≤◌, min, max, cond, ◌&&◌, List, [], ◌∷◌, length, take, drop, Some, None, Option, nat_le, nat_lt, slice_index, slice_set}
use Rattle.segments.specs.Memory.{segment, length_at, word_at, put}

-- Segments from a place on with these ends: each ends where it begins or behind that, and within n words.
abbrev pub Rises : ℕ → List ℕ → ℕ → Type 0
Rises from ends n = (g : ℕ) → g < length ends → (slice_index (from ∷ ends) g ≤ slice_index ends g) × (slice_index ends g ≤ n)

-- where segment g begins: the first at 0, and each other where the one before it ends
abbrev pub begin : List ℕ → ℕ → ℕ
begin ends g = slice_index (0 ∷ ends) g

-- how many words are cut: where the next segment would begin
abbrev pub used : List ℕ → ℕ
used ends = begin ends (length ends)

-- the segments that lie from a place up to each of some ends
abbrev pub cuts_from : List ℕ → ℕ → List ℕ → List (List ℕ)
cuts_from words from [] = []
cuts_from words from (end ∷ ends) = take (end - from) (drop from words) ∷ cuts_from words end ends

-- the segments with these ends
abbrev pub cuts : List ℕ → List ℕ → List (List ℕ)
cuts words ends = cuts_from words 0 ends

-- at most 2^29 - 1 words are used, of which `used` are cut
abbrev pub slab_left : ℕ → ℕ → ℕ
slab_left words used = min words (2 ^ 29 - 1) - used

-- the smaller of the words left and the larger of m and the step, of which 0 counts as 1; nothing where m is 0, m passes what is left, or 64 segments are cut
abbrev pub slab_offers : (words step used cut m : ℕ) → Option ℕ
slab_offers words step used cut m =
    cond (nat_le 1 m && (nat_le m (slab_left words used) && nat_lt cut 64)) (Some (min (slab_left words used) (max m (max step 1)))) None

-- Word w of segment g lies at the place `at` of the words, for reading and for writing.
pub record Lies (words ends : List ℕ) (g w at : ℕ) : Type 0 where
  pub there : at < length words
  pub within : w < length (segment (cuts words ends) g)
  pub shows : Some (slice_index words at) ≡ word_at (cuts words ends) g w
  pub replaces : (v : ℕ) → cuts (slice_set words at v) ends ≡ put (cuts words ends) g w v

-- There is no word w in segment g.
pub record Lacks (words ends : List ℕ) (g w : ℕ) : Type 0 where
  pub beyond : length (segment (cuts words ends) g) ≤ w
  pub shows : None ≡ word_at (cuts words ends) g w

abbrev pub Found : Option ℕ → (words ends : List ℕ) (g w : ℕ) → Type 0
Found (Some at) words ends g w = Lies words ends g w at
Found None words ends g w = Lacks words ends g w

-- Segment g begins at the place `from` of the words and has `size` of them.
pub record Spans (words ends : List ℕ) (g from size : ℕ) : Type 0 where
  pub shows : Some size ≡ length_at (cuts words ends) g
  pub counts : from + size < 2 ^ 64
  pub words_there : (w : ℕ) → w < size → Lies words ends g w (from + w)
  pub no_more : (w : ℕ) → size ≤ w → Lacks words ends g w

-- There is no segment g.
pub record Missing (words ends : List ℕ) (g : ℕ) : Type 0 where
  pub shows : None ≡ length_at (cuts words ends) g
  pub no_words : (w : ℕ) → Lacks words ends g w

abbrev pub Spanned : Option (ℕ × ℕ) → (words ends : List ℕ) (g : ℕ) → Type 0
Spanned (Some p) words ends g = Spans words ends g p.0 p.1
Spanned None words ends g = Missing words ends g
