-- What the page source offers, and what is known of a page that is granted and of one that is not.
use Rattle.std.specs.Prelude.{◌≡◌, ℕ, ◌<◌, ◌≤◌, Bool, true, false, cond, ◌&&◌, List, [], length, take, Some, None, Option, nat_le, nat_lt, slice_index, slice_index_or, slice_set}
use Rattle.segments.specs.Memory.{segment, length_at, word_at, put}

-- a page of 256 words for up to 256, while one of the eight is left
abbrev pub page_offers : ℕ → ℕ → Option ℕ
page_offers used m = cond (nat_lt used 8 && (nat_le 1 m && nat_le m 256)) (Some 256) None

-- Of the pages p the first n are granted, page g among them.
pub record Page (p : List (List ℕ)) (n g : ℕ) : Type 0 where
  pub inside : g < 8
  pub size : length (segment (take n p) g) ≡ 256
  pub shows : Some 256 ≡ length_at (take n p) g
  pub reads : (w : ℕ) → w < 256 → Some (slice_index (slice_index_or p g []) w) ≡ word_at (take n p) g w
  pub no_more : (w : ℕ) → 256 ≤ w → None ≡ word_at (take n p) g w
  pub replaces : (w v : ℕ) → take n (slice_set p g (slice_set (slice_index_or p g []) w v)) ≡ put (take n p) g w v

-- Page g is not among them.
pub record NoPage (p : List (List ℕ)) (n g : ℕ) : Type 0 where
  pub size : length (segment (take n p) g) ≡ 0
  pub shows : None ≡ length_at (take n p) g
  pub reads : (w : ℕ) → None ≡ word_at (take n p) g w

abbrev pub Paged : Bool → List (List ℕ) → ℕ → ℕ → Type 0
Paged true p n g = Page p n g
Paged false p n g = NoPage p n g
