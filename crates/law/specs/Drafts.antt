-- Runs of calls on a draft.
use Rattle.std.specs.Prelude.{◌≡◌, ℕ, ◌≤◌, List, ◌++◌}
use Rattle.tree.specs.Value.{Value, null}
use Rattle.tree.specs.Decode.{decode, Deep}
use Rattle.table.specs.Segments.{allocated_in, capacities}
use Rattle.law.specs.Calls.{Call, Answer, Refusal}
use Rattle.law.specs.Machine.{step}
use Rattle.law.specs.Law.{Source, State, memory, Holds, Reply, told, met_in, Lawful, Begun}
use Rattle.law.specs.Runs.{Machine, Play, Event, Run, last, Fed, feed, tree, calls, answers, replies, Untold}

-- the plain machine
abbrev pub plain_machine : Machine
plain_machine = record { Tree = Value; Call = Call; Answer = Answer; step = step }

-- the calls of a draft over sources of a type
abbrev pub drafting : {X : Type 0} → Source X → Play plain_machine
drafting S = record {
  State = State;
  Reply = Reply;
  says = λ y. y.says;
  told = λ y. told y.says;
  law = λ s v c y s'. Lawful S s v c (met_in s s') y s';
}

-- the tree of the machine after a run from a new draft
abbrev pub tree_after : {X : Type 0} (S : Source X) → List (Event (drafting S)) → Value
tree_after S es = tree plain_machine null (feed (drafting S) es)

-- the words in the end, decoded
abbrev pub decoded : {X : Type 0} (S : Source X) → State → List (Event (drafting S)) → Value
decoded S s es = decode 64 (memory (last (drafting S) s es)) 0 0

-- ## What holds of every run from a new draft

-- over every two types X and Y of sources
pub record RunsStand (X Y : Type 0) : Type 0 where
  -- the words in the end are well laid out and decode to the machine's tree, and the answers were the machine's
  pub ends : (S : Source X) (s : State) (es : List (Event (drafting S))) → Begun S s → Run (drafting S) s null es →
      Holds S (last (drafting S) s es) (tree_after S es) ×
      (decoded S s es ≡ tree_after S es) ×
      (replies (drafting S) es ≡ answers plain_machine null (feed (drafting S) es))
  -- over two types of sources, where no call got "no space", answers and trees are the same
  pub agree : (S : Source X) (T : Source Y) (s t : State) (es : List (Event (drafting S))) (fs : List (Event (drafting T))) → Begun S s → Begun T t →
      Run (drafting S) s null es → Run (drafting T) t null fs → calls (drafting S) es ≡ calls (drafting T) fs →
      Untold (drafting S) es → Untold (drafting T) fs →
      (replies (drafting S) es ≡ replies (drafting T) fs) × (decoded S s es ≡ decoded T t fs)
  -- whatever the machine is fed, no tree of it is nested more than 64 deep
  pub nesting : (fs : List (Fed plain_machine)) → Deep 64 (tree plain_machine null fs)
  -- the first offers stay
  pub first_offers_stay : (S : Source X) (s : State) (v : Value) (es : List (Event (drafting S))) → Run (drafting S) s v es →
      (last (drafting S) s es).source.first_offers ≡ s.source.first_offers

-- ## What holds of every call by the law

pub record TablesStand (X : Type 0) : Type 0 where
  -- there is one choice of the capacities met
  pub met_is : (S : Source X) (s : State) (v : Value) (c : Call) (met : List ℕ) (y : Reply) (s' : State) → Lawful S s v c met y s' →
      met ≡ met_in s s'
  -- old segments keep their capacities, and the new ones are those met
  pub capacities_kept : (S : Source X) (s : State) (v : Value) (c : Call) (met : List ℕ) (y : Reply) (s' : State) → Lawful S s v c met y s' →
      capacities s'.table ≡ capacities s.table ++ met
  pub counts_grow : (S : Source X) (s : State) (v : Value) (c : Call) (met : List ℕ) (y : Reply) (s' : State) → Lawful S s v c met y s' →
      (g : ℕ) → allocated_in s.table g ≤ allocated_in s'.table g
  -- a refusal changes no word and no count
  pub refusals_change_nothing : (S : Source X) (s : State) (v : Value) (c : Call) (met : List ℕ) (y : Reply) (s' : State) → Lawful S s v c met y s' →
      Refusal y.says → (memory s' ≡ memory s) × ((g : ℕ) → allocated_in s'.table g ≡ allocated_in s.table g)
