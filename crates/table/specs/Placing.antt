-- Where new words go, as functions of the table and of the capacities met. A new segment comes by a grant, whose capacity the source
-- decides; given the capacities of the segments that a call is granted, in order, all else is decided here.
use Rattle.std.specs.Prelude.{ℕ, zero, suc, ◌+◌, cond, List, [], ◌∷◌, ◌++◌, length, ◌==◌, nat_le, nat_lt}
use Rattle.table.specs.Segments.{fresh, more, Table, allocated_in, left_in, take, first_fit}

-- ## Rooms and outcomes

-- the table by now, the capacities of the segments still to be granted, and the minima of the grants so far
pub record Room : Type 0 where
  pub table : Table
  pub coming : List ℕ
  pub asked : List ℕ

abbrev pub room : Table → (met : List ℕ) → Room
room t met = record { table = t; coming = met; asked = [] }

-- with more segments to come
abbrev pub extend : Room → List ℕ → Room
extend r more_coming = record { table = r.table; coming = r.coming ++ more_coming; asked = r.asked }

-- What comes of something that allocates: the room after it with a result, or that nothing is granted for the minimum.
pub data Outcome (A : Type 0) : Type 0 where
  got : Room → A → Outcome A
  no_space : Room → (minimum : ℕ) → Outcome A

abbrev pub then : {A B : Type 0} → Outcome A → (Room → A → Outcome B) → Outcome B
then (got r a) f = f r a
then (no_space r m) f = no_space r m

-- f for the numbers below n, in rising order
abbrev pub each : {A : Type 0} → (n : ℕ) → (ℕ → Room → A → Outcome A) → Room → A → Outcome A
each zero f r a = got r a
each (suc n) f r a = then (each n f r a) (f n)

-- ## Allocations answer a pair of segment and word

-- the next n words of segment g
abbrev pub in_segment : Room → (g n : ℕ) → Outcome (ℕ × ℕ)
in_segment r g n =
    got (record { table = take r.table g n; coming = r.coming; asked = r.asked }) (g, allocated_in r.table g)

-- a new segment, of which n words are taken
abbrev pub grant : Room → (n : ℕ) → List ℕ → Outcome (ℕ × ℕ)
grant r n [] = no_space r n
grant r n (c ∷ cs) =
    got (record { table = r.table ++ (more (fresh c) n ∷ []); coming = cs; asked = r.asked ++ (n ∷ []) }) (length r.table, 0)

-- the first segment with n words left, then a grant of n, of which there are at most 64
unfoldable pub anywhere : Room → (n : ℕ) → Outcome (ℕ × ℕ)
anywhere r n =
    cond (nat_lt (first_fit r.table n) (length r.table))
    (in_segment r (first_fit r.table n) n)
    (cond (nat_lt (length r.table) 64) (grant r n r.coming) (no_space r n))

-- an object of n words for a slot in segment g: there, or anywhere with a landing pad in front
unfoldable pub place : Room → (g n : ℕ) → Outcome (ℕ × ℕ)
place r g n =
    cond (nat_le n (left_in r.table g)) (in_segment r g n) (then (anywhere r (n + 1)) (λ r' p. got r' (p.0, p.1 + 1)))

-- a landing pad for a child in segment g: a word there, or two words anywhere
unfoldable pub pad : Room → (g : ℕ) → Outcome (ℕ × ℕ)
pad r g = cond (nat_le 1 (left_in r.table g)) (in_segment r g 1) (anywhere r 2)

-- the root word, if there is none
unfoldable pub root : Room → Outcome (ℕ × ℕ)
root r = cond (allocated_in r.table 0 == 0) (anywhere r 1) (got r (0, 0))
