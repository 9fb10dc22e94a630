-- Drafts as states of the law, and what each call on one promises.
use Rattle.std.specs.Prelude.{◌≡◌, ℕ, List, Result}
use Rattle.tree.specs.Value.{Value}
use Rattle.law.specs.Calls.{Call, Answer}
use Rattle.law.specs.Reads.{Query, look}
use Rattle.judging.specs.declared.ruling.Ruling.{Ruling}
use Rattle.judging.specs.Replies.{reply}
use Rattle.law.specs.Law.{Source, State, Holds, Reply, met_in, Lawful}
use Rattle.path.specs.declared.step.Step.{Step}
use Rattle.walk.specs.Slots.{steps_of}
use Rattle.deciding.specs.declared.edit.Edit.{Edit}
use Rattle.deciding.specs.Edits.{edit_of}
use Rattle.segments.specs.Meaning.{Meaning}
use Rattle.effects.specs.States.{state_of, source_of}
use Rattle.message.specs.declared.draft.Draft.{Draft}

abbrev pub draft_state : {X : Type 0} → Source X → Draft X → State
draft_state S d = state_of S d.arena

-- the same by what a type of sources means: of S it is `S.Source`
abbrev pub drafted : {X F : Type 0} → Meaning X F → Draft X → State
drafted M = draft_state (source_of M)

abbrev pub call_of : List Step → Edit → (bytes : List ℕ) → Call
call_of ss e bs = record { path = steps_of ss; edit = edit_of e bs }

-- The call keeps the law on every sound state, whatever its tree is.
abbrev pub KeepsTheLaw : {X : Type 0} → Source X → State → Call → Reply → State → Type 0
KeepsTheLaw S s c y s' = (v : Value) → Holds S s v → Lawful S s v c (met_in s s') y s'

-- A read answers the query from the tree that the state holds, where f tells the answer of a success.
abbrev pub Tells : {X A : Type 0} → Source X → State → (A → Answer) → List Step → Query → Result A Ruling → Type 0
Tells S s f ss q r = (v : Value) → Holds S s v → reply f r ≡ look v (steps_of ss) q
