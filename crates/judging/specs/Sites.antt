-- What a site says of the slot at a path's end: on any words, and on words that show a tree.
use Rattle.std.specs.Prelude.{◌≡◌, ℕ, Bool, true, false, List, Some, None, Ok, Err, Option, Result}
use Rattle.std.specs.Option.{option_map}
use Rattle.tree.specs.Value as value
use Rattle.tree.specs.Value.{Value, null, object, value_at}
use Rattle.tree.specs.Shows.{Memory, walk}
use Rattle.law.specs.Calls.{Home}
use Rattle.law.specs.Machine.{bad_step, bad_path, fine, wrong, no_number_in, judge_path}
use Rattle.path.specs.declared.step.Step.{Step}
use Rattle.walk.specs.declared.shape.Shape.{Shape}
use Rattle.walk.specs.declared.held.Held.{Held}
use Rattle.walk.specs.Spots.{spot_at, spot_of}
use Rattle.walk.specs.Shapes.{shape_meant}
use Rattle.walk.specs.Holding.{Holds}
use Rattle.walk.specs.Slots.{nowhere_at, slots_along, steps_of}
use Rattle.judging.specs.declared.ruling.Ruling.{Ruling}
use Rattle.judging.specs.declared.ruling.Ruling.TheVariants.{BadPath, Nowhere}
use Rattle.judging.specs.declared.site.Site.{Site}
use Rattle.judging.specs.Rulings.{number_of, answer_of}

-- the step is of no known kind, or has a number that its kind does not use
abbrev pub step_bad : Step → Bool
step_bad s = bad_step s.kind s.element s.pointer

-- ## On any words

-- the steps lead to this site
pub record Arrives (H : Memory) (ss : List Step) (s : Site) : Type 0 where
  pub good : bad_path (steps_of ss) ≡ false
  pub led : slots_along H (spot_at 0 0) ss 0 ≡ Ok s.slot
  pub held : Holds H s.slot.segment s.slot.word s.object

-- they lead nowhere from step k on
pub record Strays (H : Memory) (ss : List Step) (k : ℕ) : Type 0 where
  pub good : bad_path (steps_of ss) ≡ false
  pub led : slots_along H (spot_at 0 0) ss 0 ≡ nowhere_at k

-- a site, or the ruling 1 or 2
abbrev pub Met : Memory → List Step → Result Site Ruling → Type 0
Met H ss (Ok s) = Arrives H ss s
Met H ss (Err BadPath) = bad_path (steps_of ss) ≡ true
Met H ss (Err (Nowhere k)) = Strays H ss k
Met H ss (Err y) = ⊥

-- ## On words that show a tree

-- the shape of a value, if it is an object
abbrev pub shape_in : Value → Option value.Shape
shape_in null = None
shape_in (object sh dat kid) = Some sh

abbrev pub meant : Option Shape → Option value.Shape
meant o = option_map shape_meant o

abbrev pub shape_held : Option Held → Option value.Shape
shape_held o = option_map (λ (h : Held). shape_meant h.shape) o

-- what is held has the number, or the ruling on u
abbrev pub Hosts : Home → (code index : ℕ) → Option Held → Value → Result Held Ruling → Type 0
Hosts h code i o u (Ok k) = (o ≡ Some k) × (no_number_in h code i u ≡ 0)
Hosts h code i o u (Err y) = number_of y ≡ no_number_in h code i u

-- the site is that of the place p of the tree v, where no ruling is met on the way
pub record Stands (H : Memory) (v : Value) (p : List value.Step) (s : Site) : Type 0 where
  pub judged : judge_path v p 0 ≡ fine
  pub slot : spot_of s.slot ≡ walk H 0 0 v p
  pub held : Holds H s.slot.segment s.slot.word s.object
  pub shape : shape_held s.object ≡ shape_in (value_at v p)

abbrev pub Judged : Memory → Value → List value.Step → Result Site Ruling → Type 0
Judged H v p (Ok s) = Stands H v p s
Judged H v p (Err y) = judge_path v p 0 ≡ wrong (answer_of y)
