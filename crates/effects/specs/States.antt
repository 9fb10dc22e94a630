-- An arena as a state of the law of calls.
use Rattle.std.specs.Prelude.{◌≡◌, ℕ, ◌<◌, ◌≤◌, List, ◌++◌, Option}
use Rattle.table.specs.Segments.{allocated_in, capacities, all_fresh}
use Rattle.table.specs.Meaning.{table_of}
use Rattle.segments.specs.Meaning.{Meaning}
use Rattle.arena.specs.declared.BuilderArena.{BuilderArena}
use Rattle.law.specs.Law.{Source, State, memory, lengths, zero_segments}

-- a type of sources, by what its values mean
abbrev pub meant : {X : Type 0} → (X → List (List ℕ)) → (X → ℕ → Option ℕ) → (X → ℕ → Option ℕ) → Source X
meant segments offers first x = record { segments = segments x; offers = offers x; first_offers = first x }

abbrev pub state_of : {X : Type 0} → Source X → BuilderArena X → State
state_of S a = record { source = S a.source; table = table_of a.table }

-- the same by what a type of sources means: of S it is `S.Source`
abbrev pub source_of : {X F : Type 0} → Meaning X F → Source X
source_of M = meant M.segments M.offers M.first

abbrev pub state : {X F : Type 0} → Meaning X F → BuilderArena X → State
state M = state_of (source_of M)

-- table and source have segments of the same sizes
abbrev pub Sized : State → Type 0
Sized s = lengths s.source ≡ capacities s.table

-- words were written, and nothing else changed
pub record Rewritten (s s' : State) : Type 0 where
  pub same_lengths : lengths s'.source ≡ lengths s.source
  pub same_offers : s'.source.offers ≡ s.source.offers
  pub same_first : s'.source.first_offers ≡ s.source.first_offers
  pub same_table : s'.table ≡ s.table

-- While a call prepares new words: what was allocated at the mark is as it was then, and what is not allocated is zero.
pub record Prepared (mark s : State) : Type 0 where
  pub kept : (x y : ℕ) → y < allocated_in mark.table x → memory s x y ≡ memory mark x y
  pub clean : (x y : ℕ) → allocated_in s.table x ≤ y → memory s x y ≡ 0
  pub grown : (x : ℕ) → allocated_in mark.table x ≤ allocated_in s.table x
  pub sized : Sized s

-- what is not allocated is zero
abbrev pub Clean : State → Type 0
Clean s = (x y : ℕ) → allocated_in s.table x ≤ y → memory s x y ≡ 0

-- From s back to the mark: the segments granted since, of the capacities `met`, stay and are empty.
pub record Back (mark : State) (met : List ℕ) (s s' : State) : Type 0 where
  pub table_is : s'.table ≡ mark.table ++ all_fresh met
  pub segments_are : s'.source.segments ≡ mark.source.segments ++ zero_segments met
  pub same_offers : s'.source.offers ≡ s.source.offers
  pub same_first : s'.source.first_offers ≡ s.source.first_offers
