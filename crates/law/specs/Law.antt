-- The law of a call: what it does between the state before it and the state after it.
use Rattle.std.specs.Prelude.{◌≡◌, ℕ, ◌^◌, ◌<◌, ◌≤◌, Bool, cond, ◌⊎◌, List, [], ◌∷◌, ◌++◌, map, length, drop, replicate, Some, None, Option, ◌==◌}
use Rattle.tree.specs.Value.{Value, null}
use Rattle.tree.specs.Shows.{Memory, land, walk}
use Rattle.tree.specs.Words.{word}
use Rattle.tree.specs.Extents.{WellLaid}
use Rattle.tree.specs.Decode.{Deep}
use Rattle.table.specs.Segments.{Table, allocated_in, capacities, all_fresh, Bounded}
use Rattle.table.specs.Placing.{Room, room, Outcome, got, no_space}
use Rattle.law.specs.Calls.{Call, Typed, Answer, refused, nowhere, sizes, no_sizes, done, value}
use Rattle.law.specs.Machine.{Verdict, fine, wrong, judge, step}
use Rattle.law.specs.Exact.{Written, call_outcome}

-- ## States

-- for each minimum the capacity that is offered, if any
abbrev pub Offers : Type 0
Offers = ℕ → Option ℕ

-- What a source means: its segments as lists of words, its offers, and those that it has again when its segments are taken back.
pub record Meaning : Type 0 where
  pub segments : List (List ℕ)
  pub offers : Offers
  pub first_offers : Offers

-- the one law of sources
abbrev pub Offered : Offers → Type 0
Offered o = (m c : ℕ) → o m ≡ Some c → (0 < m) × (m ≤ c) × (c < 2 ^ 29)

-- A type of sources: what its values mean.
abbrev pub Source : Type 0 → Type 0
Source X = X → Meaning

-- a draft: its source and its table
pub record State : Type 0 where
  pub source : Meaning
  pub table : Table

abbrev pub memory : State → Memory
memory s = word s.source.segments

abbrev pub lengths : Meaning → List ℕ
lengths m = map length m.segments

-- table and source fit together
pub record Stands {X : Type 0} (S : Source X) (s : State) : Type 0 where
  pub valued : (x : X) × (S x ≡ s.source)
  pub sizes_match : lengths s.source ≡ capacities s.table
  pub at_most : length s.table ≤ 64
  pub bounded : Bounded s.table
  pub offered : Offered s.source.offers
  pub first_offered : Offered s.source.first_offers

-- before there is a root word nothing is allocated and all is zero
pub record Bare (H : Memory) (a : ℕ → ℕ) (v : Value) : Type 0 where
  pub no_tree : v ≡ null
  pub none : (g : ℕ) → a g ≡ 0
  pub zeros : (g w : ℕ) → H g w ≡ 0

-- The state is sound, and its words are the tree v.
pub record Holds {X : Type 0} (S : Source X) (s : State) (v : Value) : Type 0 where
  pub stands : Stands S s
  pub laid : WellLaid (memory s) (allocated_in s.table) v ⊎ Bare (memory s) (allocated_in s.table) v
  pub nested : Deep 64 v

-- the capacities of the segments that s' has and s has not
abbrev pub met_in : (s s' : State) → List ℕ
met_in s s' = drop (length s.table) (capacities s'.table)

-- ## Replies

pub record Reply : Type 0 where
  pub says : Answer
  -- the minimum, for ruling 11
  pub minimum : ℕ
  -- the segment and the word of the object, for sizes
  pub pair : ℕ × ℕ

-- rulings that the tree does not decide
abbrev pub unforeseen : ℕ → Bool
unforeseen n = n == 11

-- what the machine is told of an answer
abbrev pub told : Answer → ℕ
told (refused n) = cond (unforeseen n) n 0
told (nowhere k) = 0
told (sizes sh) = 0
told no_sizes = 0
told done = 0
told (value x) = 0

-- the tree after the call
abbrev pub next : Value → Call → Reply → Value
next v c y = (step v c (told y.says)).1

-- ## Grants

-- From the source `from`, grants of the minima were answered by the capacities, one after the other, and the offers in the end are
-- those of `to`. Each capacity is what a source of the type offers that has the segments granted so far and the same first offers.
abbrev pub Granted : {X : Type 0} → Source X → (from : Meaning) → (minima capacities : List ℕ) → (to : Meaning) → Type 0
Granted {X} S from [] [] to = (lengths to ≡ lengths from) × (to.offers ≡ from.offers) × (to.first_offers ≡ from.first_offers)
Granted {X} S from [] (c ∷ cs) to = ⊥
Granted {X} S from (m ∷ ms) [] to = ⊥
Granted {X} S from (m ∷ ms) (c ∷ cs) to =
    (from.offers m ≡ Some c) ×
    ((on : X) × (lengths (S on) ≡ lengths from ++ (c ∷ [])) × Offered (S on).offers × ((S on).first_offers ≡ from.first_offers) × Granted S (S on) ms cs to)

abbrev pub zero_segments : List ℕ → List (List ℕ)
zero_segments [] = []
zero_segments (c ∷ cs) = replicate c 0 ∷ zero_segments cs

-- ## The law

-- the pair is where the object was placed, and where the slot now leads
abbrev pub Leads : Answer → (pair placed : ℕ × ℕ) → Memory → (slot : ℕ × ℕ) → Type 0
Leads (refused n) y p H k = Unit {0}
Leads (nowhere i) y p H k = Unit {0}
Leads (sizes sh) y p H k = (y ≡ p) × (y ≡ ((land H k.0 k.1).seg, (land H k.0 k.1).pos))
Leads no_sizes y p H k = y ≡ (0, 0)
Leads done y p H k = Unit {0}
Leads (value x) y p H k = Unit {0}

-- rulings 1 to 10: all is as before
pub record TurnedDown (s : State) (met : List ℕ) (s' : State) : Type 0 where
  pub no_grant : met ≡ []
  pub same : s' ≡ s

-- accepted: room was found, and r is what it left; the words are exactly those of the definition
pub record Accepted {X : Type 0} (S : Source X) (s : State) (v : Value) (c : Call) (met : List ℕ) (y : Reply) (s' : State) (r : Room) (written : Written) : Type 0 where
  pub untold : told y.says ≡ 0
  pub all_used : r.coming ≡ []
  pub granted : Granted S s.source r.asked met s'.source
  pub table_is : s'.table ≡ r.table
  pub words_are : memory s' ≡ written.words
  pub leads : Leads y.says y.pair written.pair (memory s') (walk (memory s') 0 0 (next v c y) c.path)

-- refused on the way with the number n: all words are as before, and segments granted on the way stay, empty
pub record TurnedBack {X : Type 0} (S : Source X) (s : State) (met : List ℕ) (y : Reply) (s' : State) (r : Room) (n : ℕ) : Type 0 where
  pub number_is : told y.says ≡ n
  pub all_used : r.coming ≡ []
  pub granted : Granted S s.source r.asked met s'.source
  pub table_is : s'.table ≡ s.table ++ all_fresh met
  pub segments_are : s'.source.segments ≡ s.source.segments ++ zero_segments met

-- ruling 11: a segment for the minimum was needed, and there was none
pub record Crowded {X : Type 0} (S : Source X) (s : State) (met : List ℕ) (y : Reply) (s' : State) (r : Room) (minimum : ℕ) : Type 0 where
  pub back : TurnedBack S s met y s' r 11
  pub minimum_is : y.minimum ≡ minimum
  pub no_more : (length s'.table ≡ 64) ⊎ (s'.source.offers minimum ≡ None)

abbrev pub Placing : {X : Type 0} → Source X → State → Value → Call → List ℕ → Reply → State → Verdict → Outcome Written → Type 0
Placing S s v c met y s' (wrong a) o = TurnedDown s met s'
Placing S s v c met y s' fine (got r w) = Accepted S s v c met y s' r w
Placing S s v c met y s' fine (no_space r m) = Crowded S s met y s' r m

-- From the state s, which holds v, the call c was granted segments of the capacities `met`, answered y and left s'.
pub record Lawful {X : Type 0} (S : Source X) (s : State) (v : Value) (c : Call) (met : List ℕ) (y : Reply) (s' : State) : Type 0 where
  pub typed : Typed c.edit
  pub before : Holds S s v
  pub after : Holds S s' (next v c y)
  pub answer : y.says ≡ (step v c (told y.says)).0
  pub placing : Placing S s v c met y s' (judge v c) (call_outcome (memory s) v (room s.table met) c)

-- ## A new draft

-- its source has no segments, and its offers are the first ones
pub record Begun {X : Type 0} (S : Source X) (s : State) : Type 0 where
  pub valued : (x : X) × (S x ≡ s.source)
  pub no_segments : s.source.segments ≡ []
  pub no_table : s.table ≡ []
  pub offers_first : s.source.offers ≡ s.source.first_offers
  pub offered : Offered s.source.first_offers
