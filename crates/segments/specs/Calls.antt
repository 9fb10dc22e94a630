-- What the calls of a source do, accepted or refused.
use Rattle.std.specs.Prelude.{◌≡◌, ℕ, ◌<◌, ◌≤◌, List, length, Some, None, Ok, Err, Option, Result}
use Rattle.segments.specs.declared.refusal.Outside.{Outside}
use Rattle.segments.specs.declared.refusal.Refusal.{Refusal}
use Rattle.segments.specs.Memory.{segment, put, with_zeros}

-- An accepted write of v to word w of segment g: of the memory m it replaces that word, and n is the memory after.
pub record Replaced (m n : List (List ℕ)) (g w v : ℕ) : Type 0 where
  pub within : w < length (segment m g)
  pub memory : n ≡ put m g w v

-- A refused write: there is no such word, and nothing changes.
pub record Missed (y : Outside) (m n : List (List ℕ)) (g w : ℕ) : Type 0 where
  pub beyond : length (segment m g) ≤ w
  pub memory : n ≡ m
  pub segment_met : y.segment ≡ g
  pub word_met : y.word ≡ w

abbrev pub Written : {X : Type 0} → Result X Outside → (m n : List (List ℕ)) (g w v : ℕ) → Type 0
Written (Ok x) m n g w v = Replaced m n g w v
Written (Err y) m n g w v = Missed y m n g w

-- An accepted grant of k words: the capacity c is what was offered, and the memory m gains a zero segment of it. The offers and the faults after it are free.
pub record Added (c k : ℕ) (m n : List (List ℕ)) (offers : ℕ → Option ℕ) : Type 0 where
  pub offered : offers k ≡ Some c
  pub memory : n ≡ with_zeros m c

-- A refused grant of k words: nothing was offered, and memory, offers and faults stay; the refusal has the minimum and the fault.
pub record Denied {F : Type 0} (y : Refusal F) (k : ℕ) (m n : List (List ℕ)) (offers offers' : ℕ → Option ℕ) (fault fault' : ℕ → F) : Type 0 where
  pub offered : offers k ≡ None
  pub memory : n ≡ m
  pub offers_kept : offers' ≡ offers
  pub fault_kept : fault' ≡ fault
  pub minimum_met : y.minimum ≡ k
  pub fault_met : y.fault ≡ fault k

abbrev pub Granted : {F : Type 0} → Result ℕ (Refusal F) → (k : ℕ) (m n : List (List ℕ)) (offers offers' : ℕ → Option ℕ) (fault fault' : ℕ → F) → Type 0
Granted (Ok c) k m n offers offers' fault fault' = Added c k m n offers
Granted (Err y) k m n offers offers' fault fault' = Denied y k m n offers offers' fault fault'
