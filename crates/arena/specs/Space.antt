-- What an arena means, and what an allocation answers and leaves.
use Rattle.std.specs.Prelude.{◌≡◌, ℕ, ◌+◌, ◌<◌, ◌≤◌, min, true, false, ◌⊎◌, List, [], ◌∷◌, ◌++◌, length, Some, None, Ok, Err, Option, Result}
use Rattle.segments.specs.Memory.{with_zeros}
use Rattle.segments.specs.Meaning.{Meaning}
use Rattle.table.specs.Segments.{fresh, more, Table, allocated_in, take}
use Rattle.table.specs.Meaning.{table_of, has_room, first_words, with_first_words}
use Rattle.arena.specs.declared.BuilderArena.{BuilderArena}
use Rattle.arena.specs.declared.NoSpace.{NoSpace}
use Rattle.arena.specs.declared.SpaceFault.TheVariants as why

-- the source's segments, its offers and first offers, and the table
pub record Space : Type 0 where
  pub segments : List (List ℕ)
  pub offers : ℕ → Option ℕ
  pub first_offers : ℕ → Option ℕ
  pub table : Table

-- by the meaning of its source
abbrev pub space_of : {X F : Type 0} → Meaning X F → BuilderArena X → Space
space_of M a = record {
  segments = M.segments a.source;
  offers = M.offers a.source;
  first_offers = M.first a.source;
  table = table_of a.table;
}

abbrev pub with_table : Space → Table → Space
with_table s t = record { segments = s.segments; offers = s.offers; first_offers = s.first_offers; table = t }

-- ## Anywhere

-- n words of the first segment that has as many left
pub record Found (n : ℕ) (s : Space) (p : ℕ × ℕ) (s' : Space) : Type 0 where
  pub pair_is : first_words s.table n ≡ Some p
  pub space_is : s' ≡ with_table s (with_first_words s.table n)

-- the first n words of a segment granted for them, of the capacity that was offered
pub record Granted (n : ℕ) (s : Space) (p : ℕ × ℕ) (s' : Space) : Type 0 where
  pub none_left : first_words s.table n ≡ None
  pub few : length s.table < 64
  pub capacity : ℕ
  pub offered : s.offers n ≡ Some capacity
  pub pair_is : p ≡ (length s.table, 0)
  pub table_is : s'.table ≡ s.table ++ (more (fresh capacity) n ∷ [])
  pub segments_are : s'.segments ≡ with_zeros s.segments capacity
  pub first_kept : s'.first_offers ≡ s.first_offers

-- no segment has n words left, and there are 64, or none is offered; nothing changes
pub record Denied {F : Type 0} (n : ℕ) (fault : ℕ → F) (s : Space) (y : NoSpace F) (s' : Space) : Type 0 where
  pub none_left : first_words s.table n ≡ None
  pub minimum_is : y.minimum ≡ n
  pub cause : ((64 ≤ length s.table) × (y.fault ≡ why.Table)) ⊎ ((length s.table < 64) × (s.offers n ≡ None) × (y.fault ≡ why.Source (fault n)))
  pub same : s' ≡ s

abbrev pub Anywhere : {F : Type 0} → (n : ℕ) → (ℕ → F) → Space → Result (ℕ × ℕ) (NoSpace F) → Space → Type 0
Anywhere n fault s (Ok p) s' = Found n s p s' ⊎ Granted n s p s'
Anywhere n fault s (Err y) s' = Denied n fault s y s'

-- ## For a slot

-- the next n words of segment g, which has as many left
pub record Near (g n : ℕ) (s : Space) (p : ℕ × ℕ) (s' : Space) : Type 0 where
  pub fits : has_room s.table g n ≡ true
  pub pair_is : p ≡ (g, allocated_in s.table g)
  pub space_is : s' ≡ with_table s (take s.table g n)

-- the words that an object of n words takes behind a landing pad, as far as 32 bits count
abbrev pub with_pad : ℕ → ℕ
with_pad n = min (n + 1) 4294967295

-- An object of n words for a slot in segment g: there, or anywhere with a landing pad in front. The pair is the object's.
abbrev pub Placed : {F : Type 0} → (g n : ℕ) → (ℕ → F) → Space → Result (ℕ × ℕ) (NoSpace F) → Space → Type 0
Placed g n fault s (Ok p) s' =
    Near g n s p s' ⊎ ((has_room s.table g n ≡ false) × ((w : ℕ) × (p.1 ≡ w + 1) × (Found (with_pad n) s (p.0, w) s' ⊎ Granted (with_pad n) s (p.0, w) s')))
Placed g n fault s (Err y) s' = (has_room s.table g n ≡ false) × Denied (with_pad n) fault s y s'

-- a landing pad for a child in segment g: a word there, or two words anywhere
abbrev pub Padded : {F : Type 0} → (g : ℕ) → (ℕ → F) → Space → Result (ℕ × ℕ) (NoSpace F) → Space → Type 0
Padded g fault s (Ok p) s' = Near g 1 s p s' ⊎ ((has_room s.table g 1 ≡ false) × (Found 2 s p s' ⊎ Granted 2 s p s'))
Padded g fault s (Err y) s' = (has_room s.table g 1 ≡ false) × Denied 2 fault s y s'
