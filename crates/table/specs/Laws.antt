-- What holds of allocations.
use Rattle.std.specs.Prelude.{◌≡◌, ℕ, ◌+◌, ◌≤◌, ◌⊎◌, List, ◌++◌, ◌≢◌}
use Rattle.table.specs.Segments.{allocated_in, capacities}
use Rattle.table.specs.Placing.{Room, extend, Outcome, got, no_space, anywhere, place, pad, root}

-- r' comes of r by allocations: old capacities stay, new ones are those that were to come, and counts never fall
pub record Later (r r' : Room) : Type 0 where
  pub capacities_same : capacities r'.table ++ r'.coming ≡ capacities r.table ++ r.coming
  pub grown : (x : ℕ) → allocated_in r.table x ≤ allocated_in r'.table x

-- the room, wherever it ends
unfoldable pub After : {A : Type 0} → Room → Outcome A → Type 0
After r (got r' a) = Later r r'
After r (no_space r' m) = Later r r'

-- what holds if it is got
unfoldable pub Got : {A : Type 0} → (Room → A → Type 0) → Outcome A → Type 0
Got P (got r a) = P r a
Got P (no_space r m) = Unit {0}

-- the n words from word w of segment g on were not allocated before and are now
pub record Fresh (r r' : Room) (g w n : ℕ) : Type 0 where
  pub later : Later r r'
  pub unused : allocated_in r.table g ≤ w
  pub inside : w + n ≤ allocated_in r'.table g

-- an object of n words for a slot in segment g: there, or in another segment with a pad in word q before it
abbrev pub Placed : Room → (g n : ℕ) → Room → ℕ × ℕ → Type 0
Placed r g n r' p =
    ((p.0 ≡ g) × Fresh r r' g p.1 n) ⊎
    ((p.0 ≢ g) × ((q : ℕ) × (p.1 ≡ q + 1) × Fresh r r' p.0 q (1 + n)))

-- a pad for a child in segment g: a word there, or two words in another
abbrev pub Padded : Room → (g : ℕ) → Room → ℕ × ℕ → Type 0
Padded r g r' p = ((p.0 ≡ g) × Fresh r r' g p.1 1) ⊎ ((p.0 ≢ g) × Fresh r r' p.0 p.1 2)

pub record AllocationsStand : Type 0 where
  pub anywhere_later : (r : Room) (n : ℕ) → After r (anywhere r n)
  pub place_later : (r : Room) (g n : ℕ) → After r (place r g n)
  pub pad_later : (r : Room) (g : ℕ) → After r (pad r g)
  pub root_later : (r : Room) → After r (root r)
  -- new words, where the slot's segment has an allocated word
  pub anywhere_fresh : (r : Room) (n : ℕ) → Got (λ r' p. Fresh r r' p.0 p.1 n) (anywhere r n)
  pub place_fresh : (r : Room) (g n : ℕ) → 1 ≤ allocated_in r.table g → Got (Placed r g n) (place r g n)
  pub pad_fresh : (r : Room) (g : ℕ) → 1 ≤ allocated_in r.table g → Got (Padded r g) (pad r g)
  -- what is got stays got where more segments are to come
  pub anywhere_extends : (r r' : Room) (n : ℕ) (p : ℕ × ℕ) (more_coming : List ℕ) → anywhere r n ≡ got r' p →
      anywhere (extend r more_coming) n ≡ got (extend r' more_coming) p
  pub place_extends : (r r' : Room) (g n : ℕ) (p : ℕ × ℕ) (more_coming : List ℕ) → place r g n ≡ got r' p →
      place (extend r more_coming) g n ≡ got (extend r' more_coming) p
  pub pad_extends : (r r' : Room) (g : ℕ) (p : ℕ × ℕ) (more_coming : List ℕ) → pad r g ≡ got r' p →
      pad (extend r more_coming) g ≡ got (extend r' more_coming) p
  pub root_extends : (r r' : Room) (p : ℕ × ℕ) (more_coming : List ℕ) → root r ≡ got r' p →
      root (extend r more_coming) ≡ got (extend r' more_coming) p
