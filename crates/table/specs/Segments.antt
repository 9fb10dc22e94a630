-- The table of a draft: for each segment its allocated words and its capacity.
use Rattle.std.specs.Prelude.{ℕ, zero, suc, ◌+◌, ◌-◌, ◌^◌, ◌<◌, ◌≤◌, cond, List, [], ◌∷◌, nat_le}

pub record Segment : Type 0 where
  pub allocated : ℕ
  pub capacity : ℕ

-- Entries are made in two ways only: of a segment just granted, and by allocating n more words.
abbrev pub fresh : (capacity : ℕ) → Segment
fresh c = record { allocated = 0; capacity = c }

abbrev pub more : Segment → (n : ℕ) → Segment
more s n = record { allocated = s.allocated + n; capacity = s.capacity }

abbrev pub Table : Type 0
Table = List Segment

-- allocated words, and words left, of segment g (0 where there is none)
abbrev pub allocated_in : Table → ℕ → ℕ
allocated_in [] g = 0
allocated_in (s ∷ t) zero = s.allocated
allocated_in (s ∷ t) (suc g) = allocated_in t g

abbrev pub left_in : Table → ℕ → ℕ
left_in [] g = 0
left_in (s ∷ t) zero = s.capacity - s.allocated
left_in (s ∷ t) (suc g) = left_in t g

abbrev pub capacities : Table → List ℕ
capacities [] = []
capacities (s ∷ t) = s.capacity ∷ capacities t

-- n more words of segment g are allocated
abbrev pub take : Table → (g n : ℕ) → Table
take [] g n = []
take (s ∷ t) zero n = more s n ∷ t
take (s ∷ t) (suc g) n = s ∷ take t g n

-- the first segment with n words left (the number of segments if there is none)
abbrev pub first_fit : Table → (n : ℕ) → ℕ
first_fit [] n = 0
first_fit (s ∷ t) n = cond (nat_le n (s.capacity - s.allocated)) 0 (suc (first_fit t n))

-- segments that were granted and hold nothing
abbrev pub all_fresh : List ℕ → Table
all_fresh [] = []
all_fresh (c ∷ cs) = fresh c ∷ all_fresh cs

-- every segment has a word and fewer than 2 ^ 29, and none is allocated beyond its capacity
abbrev pub Bounded : Table → Type 0
Bounded [] = Unit {0}
Bounded (s ∷ t) = (s.allocated ≤ s.capacity) × (0 < s.capacity) × (s.capacity < 2 ^ 29) × Bounded t
