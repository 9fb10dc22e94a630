-- Lists of calls on a draft, edits and reads together, and what holds of every one of them.
use Rattle.std.specs.Prelude.{◌≡◌, List, ℕ}
use Rattle.tree.specs.Value.{Value, null, Step}
use Rattle.tree.specs.Decode.{decode, Deep}
use Rattle.law.specs.Calls.{Call, Answer}
use Rattle.law.specs.Machine.{step}
use Rattle.law.specs.Reads.{Query, look}
use Rattle.law.specs.Law.{Source, State, memory, Holds, Reply, told, met_in, Lawful, Begun}
use Rattle.law.specs.Runs.{Machine, Play, Event, Run, last, Fed, feed, tree, calls, answers, replies, Untold}

-- an edit, or a question at a place
pub data Deed : Type 0 where
  edit : Call → Deed
  ask : (path : List Step) → Query → Deed

abbrev pub deed_step : Value → Deed → (told : ℕ) → Answer × Value
deed_step v (edit c) told = step v c told
deed_step v (ask p q) told = (look v p q, v)

-- the plain machine, which answers questions from its tree
abbrev pub whole_machine : Machine
whole_machine = record { Tree = Value; Call = Deed; Answer = Answer; step = deed_step }

-- a question is answered from the tree, and changes nothing
pub record Looked {X : Type 0} (S : Source X) (s : State) (v : Value) (p : List Step) (q : Query) (y : Reply) (s' : State) : Type 0 where
  pub before : Holds S s v
  pub answer : y.says ≡ look v p q
  pub same : s' ≡ s

abbrev pub ByLaw : {X : Type 0} → Source X → State → Value → Deed → Reply → State → Type 0
ByLaw S s v (edit c) y s' = Lawful S s v c (met_in s s') y s'
ByLaw S s v (ask p q) y s' = Looked S s v p q y s'

abbrev pub sessions : {X : Type 0} → Source X → Play whole_machine
sessions S = record { State = State; Reply = Reply; says = λ y. y.says; told = λ y. told y.says; law = ByLaw S }

-- the tree of the machine after a list of calls on a new draft, and the words in the end, decoded
abbrev pub tree_after : {X : Type 0} (S : Source X) → List (Event (sessions S)) → Value
tree_after S es = tree whole_machine null (feed (sessions S) es)

abbrev pub decoded : {X : Type 0} (S : Source X) → State → List (Event (sessions S)) → Value
decoded S s es = decode 64 (memory (last (sessions S) s es)) 0 0

-- over every two types X and Y of sources
pub record SessionsStand (X Y : Type 0) : Type 0 where
  -- the words in the end are well laid out and decode to the machine's tree, and the answers were the machine's
  pub ends : (S : Source X) (s : State) (es : List (Event (sessions S))) → Begun S s → Run (sessions S) s null es →
      Holds S (last (sessions S) s es) (tree_after S es) ×
      (decoded S s es ≡ tree_after S es) ×
      (replies (sessions S) es ≡ answers whole_machine null (feed (sessions S) es))
  -- over two types of sources, where no call got "no space", answers and trees are the same
  pub agree : (S : Source X) (T : Source Y) (s t : State) (es : List (Event (sessions S))) (fs : List (Event (sessions T))) → Begun S s → Begun T t →
      Run (sessions S) s null es → Run (sessions T) t null fs → calls (sessions S) es ≡ calls (sessions T) fs →
      Untold (sessions S) es → Untold (sessions T) fs →
      (replies (sessions S) es ≡ replies (sessions T) fs) × (decoded S s es ≡ decoded T t fs)
  -- whatever the machine is fed, no tree of it is nested more than 64 deep
  pub nesting : (fs : List (Fed whole_machine)) → Deep 64 (tree whole_machine null fs)
  -- the first offers stay
  pub first_offers_stay : (S : Source X) (s : State) (v : Value) (es : List (Event (sessions S))) → Run (sessions S) s v es →
      (last (sessions S) s es).source.first_offers ≡ s.source.first_offers
