-- Where steps lead from slot to slot, on any words whatever.
use Rattle.std.specs.Prelude.{ℕ, ◌+◌, cond, List, [], ◌∷◌, length, Some, None, Ok, Err, Option, Result, ◌==◌, nat_lt}
use Rattle.tree.specs.Value as value
use Rattle.tree.specs.Value.{Shape, Value, slot}
use Rattle.tree.specs.Shows.{Memory, Landing, land, walk}
use Rattle.tree.specs.Decode.{shape_at}
use Rattle.law.specs.Machine.{meets, went}
use Rattle.path.specs.declared.step.Step.{Step}
use Rattle.walk.specs.declared.route.Nowhere.{Nowhere}
use Rattle.walk.specs.declared.spot.Spot.{Spot}
use Rattle.walk.specs.Spots.{spot_at, counted_word}

abbrev pub step_of : Step → value.Step
step_of s = record { kind = s.kind; element = s.element; pointer_number = s.pointer }

-- into the object of the shape that lies by l
abbrev pub slot_in : Landing → Shape → value.Step → Option Spot
slot_in l sh s = cond (meets sh s) (counted_word l.seg (l.pos + slot sh s.element s.pointer_number)) None

-- from the slot p: nowhere from a null slot
abbrev pub next_slot : Memory → Spot → value.Step → Option Spot
next_slot H p s =
    cond (H p.segment p.word == 0) None (slot_in (land H p.segment p.word) (shape_at H (land H p.segment p.word)) s)

-- ## Along a path

abbrev pub nowhere_at : (i : ℕ) → Result Spot Nowhere
nowhere_at i = Err (record { step = i })

-- from the slot p along the steps, the first of which has number i
abbrev pub slots_along : Memory → Spot → List Step → (i : ℕ) → Result Spot Nowhere
slots_along H p [] i = Ok p
slots_along H p (s ∷ ss) i =
    elim (next_slot H p (step_of s)) [ None ↦ nowhere_at i | Some q ↦ slots_along H q ss (i + 1) ]

abbrev pub steps_of : List Step → List value.Step
steps_of [] = []
steps_of (s ∷ ss) = step_of s ∷ steps_of ss

-- the slot at the end of the path, where the root shows v, or the first step that goes nowhere
abbrev pub place_in : Memory → Value → List value.Step → Result Spot Nowhere
place_in H v p =
    cond (nat_lt (went v p) (length p)) (nowhere_at (went v p)) (Ok (spot_at (walk H 0 0 v p).0 (walk H 0 0 v p).1))
