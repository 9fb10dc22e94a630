-- Memory as a list of segments, each the list of its words: what is read in it, and what a write and a grant make of it.
use Rattle.std.specs.Prelude.{◌≡◌, ℕ, ◌-◌, ◌^◌, ◌<◌, ◌≤◌, min, cond, List, [], ◌∷◌, ◌++◌, length, replicate, Some, None, Option, nat_lt, slice_index, slice_index_or, slice_set}

-- the words of segment g; no words where there is no such segment
abbrev pub segment : List (List ℕ) → ℕ → List ℕ
segment m g = slice_index_or m g []

-- word w of segment g; 0 where there is no such word
abbrev pub word : List (List ℕ) → ℕ → ℕ → ℕ
word m g w = slice_index (segment m g) w

-- how many segments there are, as far as 64 bits count
abbrev pub counted : List (List ℕ) → ℕ
counted m = min (length m) (2 ^ 64 - 1)

-- how many words segment g has, if there is one
abbrev pub length_at : List (List ℕ) → ℕ → Option ℕ
length_at m g = cond (nat_lt g (length m)) (Some (length (segment m g))) None

-- word w of segment g, if there is one
abbrev pub word_at : List (List ℕ) → ℕ → ℕ → Option ℕ
word_at m g w = cond (nat_lt w (length (segment m g))) (Some (word m g w)) None

-- v in place of word w of segment g
abbrev pub put : List (List ℕ) → ℕ → ℕ → ℕ → List (List ℕ)
put m g w v = slice_set m g (slice_set (segment m g) w v)

-- one more segment, of c zero words
abbrev pub with_zeros : List (List ℕ) → ℕ → List (List ℕ)
with_zeros m c = m ++ (replicate c 0 ∷ [])

-- the law of offers: a capacity offered for m is at least m and below 2^29, and nothing is offered for 0
abbrev pub Bounded : (ℕ → Option ℕ) → Type 0
Bounded offers = (m c : ℕ) → offers m ≡ Some c → (1 ≤ m) × (m ≤ c) × (c < 2 ^ 29)
