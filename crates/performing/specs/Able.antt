-- When an edit can be made, and when a call is ready to be made.
use Rattle.std.specs.Prelude.{◌≡◌, ℕ, ◌+◌, ◌^◌, ◌<◌, false, List, length, Ok, Err, Result}
use Rattle.tree.specs.Value.{Value, value_at}
use Rattle.tree.specs.Shows.{Memory, walk}
use Rattle.arena.specs.declared.BuilderArena.{BuilderArena}
use Rattle.arena.specs.declared.NoSpace.{NoSpace}
use Rattle.segments.specs.Meaning.{Meaning}
use Rattle.law.specs.Calls.{Home, write, Call, Typed}
use Rattle.law.specs.Machine as machine
use Rattle.law.specs.Machine.{fine, judge, too_large}
use Rattle.law.specs.Exact.{call_outcome}
use Rattle.law.specs.Law.{Source, State, memory}
use Rattle.walk.specs.Shapes.{shape_meant}
use Rattle.walk.specs.declared.spot.Spot.{Spot}
use Rattle.walk.specs.Spots.{spot_of}
use Rattle.walk.specs.declared.held.Held.{Held}
use Rattle.judging.specs.declared.site.Site.{Site}
use Rattle.walk.specs.Holding.{Leads}
use Rattle.deciding.specs.declared.edit.Making.{Making}
use Rattle.deciding.specs.declared.edit.Making.TheVariants.{Keep, Wipe, New, Spell, Rebuild}
use Rattle.deciding.specs.Edits.{making_of}
use Rattle.deciding.specs.Deciding.{Rebuilds}
use Rattle.effects.specs.States.{source_of, state, Prepared}
use Rattle.effects.specs.Parts.{Went, Failed}
use Rattle.effects.specs.Makes.{Slot, Makes}
use Rattle.rebuilding.specs.Growth.{Larger}

-- the slot (g, w) of H shows u, and this can be made of it
abbrev pub Able : Memory → (g w : ℕ) → Value → Making → (bytes : List ℕ) → Type 0
Able H g w u Keep bs = Unit {0}
Able H g w u Wipe bs = Unit {0}
Able H g w u (New sh) bs = too_large (shape_meant sh) ≡ false
Able H g w u Spell bs = length bs + 1 < 2 ^ 29
Able H g w u (Rebuild h sh) bs = Leads H g w h × Larger (shape_meant h.shape) (shape_meant sh) × (too_large (shape_meant sh) ≡ false)

-- No ruling refuses the call c on the tree v, and this is what it makes where.
pub record Ready (H : Memory) (v : Value) (c : Call) (site : Site) (m : Making) (bytes : List ℕ) : Type 0 where
  pub typed : Typed c.edit
  pub judged : judge v c ≡ fine
  pub slot : spot_of site.slot ≡ walk H 0 0 v c.path
  pub making_is : making_of m bytes ≡ machine.making c.edit (value_at v c.path)
  pub rebuilds : Rebuilds H site.slot.segment site.slot.word m

-- The same for the write of a number into the object held.
pub record ReadyNumber (H : Memory) (v : Value) (c : Call) (held : Held) (home : Home) (code i x : ℕ) : Type 0 where
  pub typed : Typed c.edit
  pub judged : judge v c ≡ fine
  pub edit_is : c.edit ≡ write home code i x
  pub leads : Leads H (walk H 0 0 v c.path).0 (walk H 0 0 v c.path).1 held

-- A call made, or no space for it, and only new words were prepared.
abbrev pub Prepares : {X E : Type 0} → Source X → State → Value → Call → Result Spot (NoSpace E) → State → Type 0
Prepares S s v c (Ok p) s' = Went S (λ r. call_outcome (memory s) v r c) s (record { words = memory s'; pair = spot_of p }) s'
Prepares S s v c (Err y) s' = Failed S (λ r. call_outcome (memory s) v r c) s y.minimum s' × Prepared s s'

-- From every state that has the words H, the root word among them, an edit that leaves b of a makes of the slot at the end of the call's path
-- what the call makes of it.
abbrev pub Edits : {X F : Type 0} → Meaning X F → Memory → Value → Call → (BuilderArena X → Result Spot (NoSpace F) → BuilderArena X → Type 0) → Type 0
Edits {X} {F} M H v c edit =
    (a b : BuilderArena X) (r : Result Spot (NoSpace F)) → memory (state M a) ≡ H →
    Slot (state M a) (walk H 0 0 v c.path).0 (walk H 0 0 v c.path).1 (value_at v c.path) → edit a r b →
    Makes (source_of M) (state M a) (walk H 0 0 v c.path).0 (walk H 0 0 v c.path).1 (value_at v c.path) (machine.making c.edit (value_at v c.path)) r (state M b)
