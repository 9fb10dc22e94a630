-- Whole calls that went as the definition says keep the law.
use Rattle.std.specs.Prelude.{◌≡◌, Ok, Err}
use Rattle.tree.specs.Value.{Value, value_at}
use Rattle.arena.specs.declared.NoSpace.{NoSpace}
use Rattle.walk.specs.declared.spot.Spot.{Spot}
use Rattle.walk.specs.Spots.{spot_of}
use Rattle.law.specs.Calls.{Call, Typed, refused}
use Rattle.law.specs.Machine.{fine, wrong, judge, reply, effect}
use Rattle.law.specs.Law.{Source, State, Holds, Reply, met_in, Lawful}
use Rattle.law.specs.Enough.{PairIs}
use Rattle.effects.specs.Makes.{Performs}

-- over every type X of sources and E of their faults
pub record WholeCallsKeepTheLaw (X E : Type 0) : Type 0 where
  pub rejected : (S : Source X) (s : State) (v : Value) (c : Call) (y : Reply) → Typed c.edit → Holds S s v → judge v c ≡ wrong y.says → Lawful S s v c (met_in s s) y s
  pub accepted : (S : Source X) (s : State) (v : Value) (c : Call) (y : Reply) (s' : State) (p : Spot) → Typed c.edit → Holds S s v → judge v c ≡ fine →
      Performs {E = E} S s v c (Ok p) s' → (x : X) × (S x ≡ s'.source) →
      y.says ≡ reply c.edit (effect c.edit (value_at v c.path)) → PairIs y.says y.pair (spot_of p) → Lawful S s v c (met_in s s') y s'
  pub crowded : (S : Source X) (s : State) (v : Value) (c : Call) (y : Reply) (s' : State) (e : NoSpace E) → Typed c.edit → Holds S s v → judge v c ≡ fine →
      Performs S s v c (Err e) s' → (x : X) × (S x ≡ s'.source) → y.says ≡ refused 11 → y.minimum ≡ e.minimum → Lawful S s v c (met_in s s') y s'
