-- A part of a call: F says for each room what comes of it. It went, or it found no space.
use Rattle.std.specs.Prelude.{◌≡◌, ℕ, ◌⊎◌, List, [], ◌++◌, length, None, Ok, Err, Result}
use Rattle.table.specs.Segments.{Table, capacities}
use Rattle.table.specs.Placing.{Room, Outcome, got, no_space}
use Rattle.arena.specs.declared.NoSpace.{NoSpace}
use Rattle.law.specs.Law.{Source, State, memory, Granted}

-- From the state s the part came to the state s' with a: `met` are the capacities of the segments that it was granted, `asked` the
-- minima for which it asked. Segments still to come and minima asked for before do not matter.
pub record Went {X A : Type 0} (S : Source X) (F : Room → Outcome A) (s : State) (a : A) (s' : State) : Type 0 where
  pub met : List ℕ
  pub asked : List ℕ
  pub rule : (later before : List ℕ) →
      F (record { table = s.table; coming = met ++ later; asked = before }) ≡ got (record { table = s'.table; coming = later; asked = before ++ asked }) a
  pub granted : Granted S s.source asked met s'.source
  pub capacities_are : capacities s'.table ≡ capacities s.table ++ met

-- From the state s the part came to the state s', and there was no segment of the minimum.
pub record Failed {X A : Type 0} (S : Source X) (F : Room → Outcome A) (s : State) (minimum : ℕ) (s' : State) : Type 0 where
  pub met : List ℕ
  pub asked : List ℕ
  -- the table of the rule, which may have more allocated
  pub reached : Table
  pub rule : (before : List ℕ) →
      F (record { table = s.table; coming = met; asked = before }) ≡ no_space (record { table = reached; coming = []; asked = before ++ asked }) minimum
  pub granted : Granted S s.source asked met s'.source
  pub capacities_are : capacities s'.table ≡ capacities s.table ++ met
  pub no_more : (length s'.table ≡ 64) ⊎ (s'.source.offers minimum ≡ None)

-- An allocation by the rule: it went and changed no word, or there was no segment of the minimum and nothing changed.
abbrev pub Allocates : {X E A : Type 0} → Source X → (Room → Outcome (ℕ × ℕ)) → (minimum : ℕ) → State → Result A (NoSpace E) → (A → ℕ × ℕ) → State → Type 0
Allocates S rule n s (Ok p) pair s' = Went S rule s (pair p) s' × (memory s' ≡ memory s)
Allocates S rule n s (Err y) pair s' = Failed S rule s n s' × (y.minimum ≡ n) × (s' ≡ s)
