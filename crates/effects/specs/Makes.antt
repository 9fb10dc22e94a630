-- What an edit makes of a slot, as a part of a call.
use Rattle.std.specs.Prelude.{◌≡◌, ℕ, ◌+◌, ◌^◌, ◌<◌, ◌≤◌, ◌++◌, Ok, Err, Result}
use Rattle.tree.specs.Value.{Value}
use Rattle.tree.specs.Shows.{Shows, within, reach}
use Rattle.tree.specs.Decode.{Deep}
use Rattle.table.specs.Segments.{allocated_in, all_fresh}
use Rattle.arena.specs.declared.NoSpace.{NoSpace}
use Rattle.walk.specs.declared.spot.Spot.{Spot}
use Rattle.walk.specs.Spots.{spot_of}
use Rattle.law.specs.Calls.{Call}
use Rattle.law.specs.Machine.{Making}
use Rattle.law.specs.Exact.{makes, call_outcome}
use Rattle.law.specs.Law.{Source, State, memory, zero_segments}
use Rattle.effects.specs.States.{Sized, Clean, Prepared}
use Rattle.effects.specs.Parts.{Went, Failed}

-- The slot (g, w) shows the value u, of at most 64 objects one below the other, and reaches no word twice.
pub record Slot (s : State) (g w : ℕ) (u : Value) : Type 0 where
  pub sized : Sized s
  pub clean : Clean s
  pub small : (x : ℕ) → allocated_in s.table x ≤ 2 ^ 29
  pub inside : w < allocated_in s.table g
  pub shown : Shows (memory s) (allocated_in s.table) g w u
  pub once : (x y : ℕ) → within g w 1 x y + reach (memory s) g w u x y ≤ 1
  pub nested : Deep 64 u

-- An edit makes m of the slot: words and object are those of the definition, or there was no space, and only new words were prepared.
abbrev pub Makes : {X E : Type 0} → Source X → State → (g w : ℕ) → Value → Making → Result Spot (NoSpace E) → State → Type 0
Makes S s g w u m (Ok p) s' = Went S (makes (memory s) g w u m) s (record { words = memory s'; pair = spot_of p }) s'
Makes S s g w u m (Err y) s' = Failed S (makes (memory s) g w u m) s y.minimum s' × Prepared s s'

-- A whole call that no ruling refuses: as the definition has it, or there was no space, and words and counts are as they were.
abbrev pub Performs : {X E : Type 0} → Source X → State → Value → Call → Result Spot (NoSpace E) → State → Type 0
Performs S s v c (Ok p) s' = Went S (λ r. call_outcome (memory s) v r c) s (record { words = memory s'; pair = spot_of p }) s'
Performs S s v c (Err y) s' =
    (f : Failed S (λ r. call_outcome (memory s) v r c) s y.minimum s') ×
    (s'.table ≡ s.table ++ all_fresh f.met) ×
    (s'.source.segments ≡ s.source.segments ++ zero_segments f.met)
