-- Allocated words for a new object.
use Rattle.std.specs.Prelude.{ℕ, ◌+◌, ◌≤◌, Ok, Err, Result, ◌≢◌}
use Rattle.tree.specs.Value.{Shape, size}
use Rattle.table.specs.Segments.{Table, allocated_in}
use Rattle.law.specs.Law.{State}
use Rattle.walk.specs.Shapes.{shape_meant}
use Rattle.walk.specs.declared.spot.Spot.{Spot}
use Rattle.objects.specs.declared.object.NewObject.{NewObject}

-- the words of an object of the shape from word p of segment s on are allocated, and so is the word before them if its slot is in another
-- segment g
pub record RoomThere (t : Table) (g s p : ℕ) (sh : Shape) : Type 0 where
  pub object_inside : p + size sh ≤ allocated_in t s
  pub pad_inside : (s ≢ g) → 1 ≤ p

-- where an object was placed there is room for it
abbrev pub Roomy : {E : Type 0} → Result Spot E → Table → (g : ℕ) → Shape → Type 0
Roomy (Ok p) t g sh = RoomThere t g p.segment p.word sh
Roomy (Err y) t g sh = Unit {0}

-- there is room for the object
abbrev pub There : State → NewObject → Type 0
There s o = RoomThere s.table o.slot.segment o.start.segment o.start.word (shape_meant o.shape)
