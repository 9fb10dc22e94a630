-- What a list of calls does.
use Rattle.std.specs.Prelude.{◌≡◌, List, [], ◌∷◌, map}
use Rattle.tree.specs.Value.{Value, null}
use Rattle.tree.specs.Decode.{decode}
use Rattle.law.specs.Law.{Source, State, memory, Reply, told, Holds, Begun}
use Rattle.law.specs.Runs.{Event, Run, last, Fed, tree, calls, answers}
use Rattle.sessions.specs.Sessions.{Deed, ByLaw, whole_machine, sessions}

-- one call by the law, on whatever tree the state holds
abbrev pub Plays : {X : Type 0} → Source X → State → Deed → Reply → State → Type 0
Plays S s d y s' = (v : Value) → Holds S s v → ByLaw S s v d y s'

-- From the state s, which holds v, the calls were answered so, one after another, and s' is left: there is a run by the law.
pub record Replayed {X : Type 0} (S : Source X) (s : State) (v : Value) (ds : List Deed) (ys : List Reply) (s' : State) : Type 0 where
  pub events : List (Event (sessions S))
  pub run : Run (sessions S) s v events
  pub calls_are : calls (sessions S) events ≡ ds
  pub replies_are : map (λ e. e.reply) events ≡ ys
  pub ends : last (sessions S) s events ≡ s'

-- ## From a new draft

-- what the plain machine is fed: each call, and of its answer only whether it was "no space"
abbrev pub fed : List Deed → List Reply → List (Fed whole_machine)
fed [] ys = []
fed (d ∷ ds) [] = []
fed (d ∷ ds) (y ∷ ys) = record { call = d; ruling = told y.says } ∷ fed ds ys

-- The calls were made on a new draft, and s is left: the answers are the machine's, the state holds the machine's tree (so what is reached lies
-- inside allocated words, overlaps nowhere, and all else is zero), and its words decode to that tree.
pub record Built {X : Type 0} (S : Source X) (ds : List Deed) (ys : List Reply) (s : State) : Type 0 where
  pub start : State
  pub begun : Begun S start
  pub replayed : Replayed S start null ds ys s
  pub holds : Holds S s (tree whole_machine null (fed ds ys))
  pub decodes : decode 64 (memory s) 0 0 ≡ tree whole_machine null (fed ds ys)
  pub answers_are : map (λ y. y.says) ys ≡ answers whole_machine null (fed ds ys)

-- ## Over two sources

-- no call got "no space"
abbrev pub Uncrowded : List Reply → Type 0
Uncrowded [] = Unit {0}
Uncrowded (y ∷ ys) = (told y.says ≡ 0) × Uncrowded ys

-- the same answers and the same tree
pub record Agreed {X Y : Type 0} (S : Source X) (T : Source Y) (ys zs : List Reply) (s t : State) : Type 0 where
  pub same_answers : map (λ y. y.says) ys ≡ map (λ z. z.says) zs
  pub common : Value
  pub first_holds : Holds S s common
  pub second_holds : Holds T t common
  pub same_words : decode 64 (memory s) 0 0 ≡ decode 64 (memory t) 0 0
