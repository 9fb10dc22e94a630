-- What is enough for a call to be lawful. Code has to show only these.
use Rattle.std.specs.Prelude.{◌≡◌, ℕ, ◌⊎◌, List, [], ◌++◌, length, None}
use Rattle.tree.specs.Value.{Value, value_at}
use Rattle.table.specs.Segments.{all_fresh}
use Rattle.table.specs.Placing.{Room, room, got, no_space}
use Rattle.law.specs.Calls.{Call, Typed, Answer, refused, nowhere, sizes, no_sizes, done, value}
use Rattle.law.specs.Machine.{fine, wrong, judge, reply, effect}
use Rattle.law.specs.Exact.{Written, call_outcome}
use Rattle.law.specs.Law.{Source, Meaning, State, memory, Holds, Granted, zero_segments, Reply, Lawful}

-- the pair of an answer: where the object was placed, and (0, 0) for a null place
abbrev pub PairIs : Answer → (pair placed : ℕ × ℕ) → Type 0
PairIs (refused n) y p = Unit {0}
PairIs (nowhere i) y p = Unit {0}
PairIs (sizes sh) y p = y ≡ p
PairIs no_sizes y p = y ≡ (0, 0)
PairIs done y p = Unit {0}
PairIs (value x) y p = Unit {0}

-- room was found for an accepted call, which left the words of the definition and answered as the machine does
pub record Accepts {X : Type 0} (S : Source X) (s : State) (v : Value) (c : Call) (met : List ℕ) (y : Reply) (s' : State) (r : Room) (written : Written) : Type 0 where
  pub typed : Typed c.edit
  pub before : Holds S s v
  pub judged_fine : judge v c ≡ fine
  pub outcome : call_outcome (memory s) v (room s.table met) c ≡ got r written
  pub all_used : r.coming ≡ []
  pub granted : Granted S s.source r.asked met s'.source
  pub table_is : s'.table ≡ r.table
  pub valued : (x : X) × (S x ≡ s'.source)
  pub words_are : memory s' ≡ written.words
  pub says_is : y.says ≡ reply c.edit (effect c.edit (value_at v c.path))
  pub pair_is : PairIs y.says y.pair written.pair

-- a segment was needed and there was none; all words are as before, and segments granted on the way are empty
pub record Crowds {X : Type 0} (S : Source X) (s : State) (v : Value) (c : Call) (met : List ℕ) (y : Reply) (s' : State) (r : Room) : Type 0 where
  pub typed : Typed c.edit
  pub before : Holds S s v
  pub judged_fine : judge v c ≡ fine
  pub outcome : call_outcome (memory s) v (room s.table met) c ≡ no_space r y.minimum
  pub all_used : r.coming ≡ []
  pub granted : Granted S s.source r.asked met s'.source
  pub no_more : (length s'.table ≡ 64) ⊎ (s'.source.offers y.minimum ≡ None)
  pub segments_are : s'.source.segments ≡ s.source.segments ++ zero_segments met
  pub table_is : s'.table ≡ s.table ++ all_fresh met
  pub valued : (x : X) × (S x ≡ s'.source)
  pub says_is : y.says ≡ refused 11

-- over every type X of sources
pub record ExactWordsKeepTheLaw (X : Type 0) : Type 0 where
  pub rejects : (S : Source X) (s : State) (v : Value) (c : Call) (y : Reply) → Typed c.edit → Holds S s v → judge v c ≡ wrong y.says → Lawful S s v c [] y s
  pub crowds : (S : Source X) (s : State) (v : Value) (c : Call) (met : List ℕ) (y : Reply) (s' : State) (r : Room) →
      Crowds S s v c met y s' r → Lawful S s v c met y s'
  -- whatever the edit is
  pub accepts : (S : Source X) (s : State) (v : Value) (c : Call) (met : List ℕ) (y : Reply) (s' : State) (r : Room) (written : Written) →
      Accepts S s v c met y s' r written → Lawful S s v c met y s'
  -- grants of two parts of a call, one after the other, are grants of the whole
  pub grants_join : (S : Source X) (a b c : Meaning) (ms ns cs ds : List ℕ) → Granted S a ms cs b → Granted S b ns ds c →
      Granted S a (ms ++ ns) (cs ++ ds) c
