-- Some words of a segment become zero.
use Rattle.std.specs.Prelude.{◌≡◌, ℕ, zero, suc, ◌+◌, ◌-◌, ◌<◌, ◌≤◌, List, length}
use Rattle.segments.specs.Memory.{segment, word, put}
use Rattle.table.specs.Segments.{Table, allocated_in}

-- the n words from word `from` of segment g on, as far as there are such words
abbrev pub zeroed_words : List (List ℕ) → (g from n : ℕ) → List (List ℕ)
zeroed_words m g from zero = m
zeroed_words m g from (suc n) = put (zeroed_words m g from n) g (from + n) 0

-- word by word
pub record Zeroed (m n : List (List ℕ)) (g from count : ℕ) : Type 0 where
  pub inside : (w : ℕ) → from ≤ w → w < from + count → word n g w ≡ 0
  pub elsewhere : (x w : ℕ) → (x ≡ g → from ≤ w → w < from + count → ⊥) → word n x w ≡ word m x w
  pub lengths : (x : ℕ) → length (segment n x) ≡ length (segment m x)

-- ## Back to a mark

-- in each of the first k segments, the words that t allocates and the mark does not become zero
abbrev pub rewound_words : List (List ℕ) → (t mark : Table) → (k : ℕ) → List (List ℕ)
rewound_words m t mark zero = m
rewound_words m t mark (suc k) =
    zeroed_words (rewound_words m t mark k) k (allocated_in mark k) (allocated_in t k - allocated_in mark k)

-- word by word
pub record Rewound (m n : List (List ℕ)) (t mark : Table) : Type 0 where
  pub since : (x w : ℕ) → allocated_in mark x ≤ w → w < allocated_in t x → word n x w ≡ 0
  pub elsewhere : (x w : ℕ) → (allocated_in mark x ≤ w → w < allocated_in t x → ⊥) → word n x w ≡ word m x w
  pub lengths : (x : ℕ) → length (segment n x) ≡ length (segment m x)
