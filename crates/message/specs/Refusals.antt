-- Answers and refusals of calls, as the law has them.
use Rattle.std.specs.Prelude.{ℕ, Some, None, Ok, Err, Option, Result}
use Rattle.walk.specs.declared.shape.Shape.{Shape}
use Rattle.walk.specs.declared.spot.Spot.{Spot}
use Rattle.walk.specs.Spots.{spot_of}
use Rattle.judging.specs.declared.ruling.Ruling.{Ruling}
use Rattle.judging.specs.Rulings.{answer_of}
use Rattle.arena.specs.declared.NoSpace.{NoSpace}
use Rattle.law.specs.Calls.{refused, done}
use Rattle.law.specs.Law.{Reply}
use Rattle.deciding.specs.declared.edit.Edit.{Edit}
use Rattle.deciding.specs.Edits.{says_of}
use Rattle.message.specs.declared.refusal.Refused.{Refused}
use Rattle.message.specs.declared.refusal.Refused.TheVariants.{Ruled, Crowded}
use Rattle.message.specs.declared.refusal.Placed.{Placed}

abbrev pub ruled : {F : Type 0} → Ruling → Refused F
ruled y = Ruled y

abbrev pub no_space : {F : Type 0} → NoSpace F → Refused F
no_space y = Crowded y

-- the object of this shape, where a place's pointer leads; none for a null place
abbrev pub placed_as : Option Shape → Spot → Option Placed
placed_as (Some sh) p = Some (record { shape = sh; start = p })
placed_as None p = None

-- the sizes of the object of a place, and where it lies: nowhere for a null place
abbrev pub shape_placed : Option Placed → Option Shape
shape_placed (Some p) = Some p.shape
shape_placed None = None

abbrev pub pair_placed : Option Placed → ℕ × ℕ
pair_placed (Some p) = spot_of p.start
pair_placed None = (0, 0)

-- a refusal: its number, with the step for 2 and the minimum for 11
abbrev pub refusal_of : {F : Type 0} → Refused F → Reply
refusal_of (Ruled y) = record { says = answer_of y; minimum = 0; pair = (0, 0) }
refusal_of (Crowded y) = record { says = refused 11; minimum = y.minimum; pair = (0, 0) }

-- an answer with sizes, or that of an edit without
abbrev pub reply_of : {F : Type 0} → Edit → Result (Option Placed) (Refused F) → Reply
reply_of e (Ok o) = record { says = says_of e (shape_placed o); minimum = 0; pair = pair_placed o }
reply_of e (Err y) = refusal_of y

abbrev pub done_of : {X F : Type 0} → Result X (Refused F) → Reply
done_of (Ok x) = record { says = done; minimum = 0; pair = (0, 0) }
done_of (Err y) = refusal_of y
