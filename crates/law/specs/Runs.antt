-- Runs of calls, whatever the calls are: lists of calls with their replies and the states after them.
use Rattle.std.specs.Prelude.{◌≡◌, ℕ, List, [], ◌∷◌}

-- A machine that follows calls on trees. Of each reply it is told one number: the refusal, if it is one that the machine cannot judge
-- itself, else 0.
pub record Machine : Type 1 where
  pub Tree : Type 0
  pub Call : Type 0
  pub Answer : Type 0
  pub step : Tree → Call → (told : ℕ) → Answer × Tree

-- states that calls change by a law, beside a machine
pub record Play (m : Machine) : Type 1 where
  pub State : Type 0
  pub Reply : Type 0
  pub says : Reply → m.Answer
  pub told : Reply → ℕ
  pub law : State → m.Tree → m.Call → Reply → State → Type 0

-- ## The machine

-- what it is fed
pub record Fed (m : Machine) : Type 0 where
  pub call : m.Call
  pub ruling : ℕ

-- its tree in the end, and its answers
abbrev pub tree : (m : Machine) → m.Tree → List (Fed m) → m.Tree
tree m v [] = v
tree m v (f ∷ fs) = tree m (m.step v f.call f.ruling).1 fs

abbrev pub answers : (m : Machine) → m.Tree → List (Fed m) → List m.Answer
answers m v [] = []
answers m v (f ∷ fs) = (m.step v f.call f.ruling).0 ∷ answers m (m.step v f.call f.ruling).1 fs

-- ## Runs

-- a call as it went
pub record Event {m : Machine} (p : Play m) : Type 0 where
  pub call : m.Call
  pub reply : p.Reply
  pub after : p.State

-- each call went by the law
abbrev pub Run : {m : Machine} (p : Play m) → p.State → m.Tree → List (Event p) → Type 0
Run {m} p s v [] = Unit {0}
Run {m} p s v (e ∷ es) =
    p.law s v e.call e.reply e.after × Run p e.after (m.step v e.call (p.told e.reply)).1 es

abbrev pub last : {m : Machine} (p : Play m) → p.State → List (Event p) → p.State
last p s [] = s
last p s (e ∷ es) = last p e.after es

abbrev pub feed : {m : Machine} (p : Play m) → List (Event p) → List (Fed m)
feed p [] = []
feed p (e ∷ es) = record { call = e.call; ruling = p.told e.reply } ∷ feed p es

abbrev pub calls : {m : Machine} (p : Play m) → List (Event p) → List m.Call
calls p [] = []
calls p (e ∷ es) = e.call ∷ calls p es

abbrev pub replies : {m : Machine} (p : Play m) → List (Event p) → List m.Answer
replies p [] = []
replies p (e ∷ es) = p.says e.reply ∷ replies p es

-- the machine was told of no refusal
abbrev pub Untold : {m : Machine} (p : Play m) → List (Event p) → Type 0
Untold p [] = Unit {0}
Untold p (e ∷ es) = (p.told e.reply ≡ 0) × Untold p es

-- ## What is asked of the law, and what follows for every run

pub record Follows {m : Machine} (p : Play m) (Holds : p.State → m.Tree → Type 0) : Type 0 where
  pub answer_is : (s : p.State) (v : m.Tree) (c : m.Call) (y : p.Reply) (s' : p.State) → p.law s v c y s' →
      p.says y ≡ (m.step v c (p.told y)).0
  pub holds_after : (s : p.State) (v : m.Tree) (c : m.Call) (y : p.Reply) (s' : p.State) → p.law s v c y s' →
      Holds s' (m.step v c (p.told y)).1

pub record FollowsAlong {m : Machine} (p : Play m) (Holds : p.State → m.Tree → Type 0) : Type 0 where
  -- the state in the end holds the machine's tree
  pub ends : (s : p.State) (v : m.Tree) (es : List (Event p)) → Holds s v → Run p s v es → Holds (last p s es) (tree m v (feed p es))
  -- the answers were the machine's
  pub told_so : (s : p.State) (v : m.Tree) (es : List (Event p)) → Run p s v es → replies p es ≡ answers m v (feed p es)

-- two runs of one list of calls, in which the machine was told of no refusal, feed it the same
abbrev pub FedAlike : {m : Machine} (p q : Play m) → Type 0
FedAlike p q = (es : List (Event p)) (fs : List (Event q)) → calls p es ≡ calls q fs → Untold p es → Untold q fs → feed p es ≡ feed q fs
