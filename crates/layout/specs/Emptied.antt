-- An object with its landing pads becomes zero.
use Rattle.std.specs.Prelude.{◌≡◌, ℕ, ◌+◌, ◌^◌, min, cond, List, nat_lt}
use Rattle.wire.specs.Pointers.{list_count}
use Rattle.wire.specs.Sizes.{list_words}
use Rattle.tree.specs.Value.{Shape, structure, plain, composite, element_code}
use Rattle.tree.specs.Shows.{Landing}
use Rattle.walk.specs.Landings.{landing_of}
use Rattle.walk.specs.Shapes.{shape_meant}
use Rattle.cursor.specs.declared.Event.{Event}
use Rattle.cursor.specs.declared.Event.TheVariants as events
use Rattle.arena.specs.Zeroed.{zeroed_words}

-- the words that x gives to an object of the shape: for a struct list the tag and as many as x counts
abbrev pub object_words : (x : ℕ) → Shape → ℕ
object_words x (structure dw pw) = dw + pw
object_words x (plain c n) = list_words (element_code c) n
object_words x (composite n dw pw) = list_count x + 1

-- n words of segment g from word s on, where 32 bits count that
abbrev pub span_emptied : List (List ℕ) → (g s n : ℕ) → List (List ℕ)
span_emptied m g s n = cond (nat_lt s (2 ^ 32)) (zeroed_words m g s n) m

-- the object, then its landing pads, of which there are at most two
abbrev pub emptied : List (List ℕ) → Landing → Shape → List (List ℕ)
emptied m l sh =
    span_emptied (span_emptied m l.seg l.pos (object_words l.said sh)) l.pad_seg l.pad_pos (min l.pad_len 2)

-- what zeroing makes of the words at an event
abbrev pub Handled : Event → (m n : List (List ℕ)) → Type 0
Handled events.Null m n = n ≡ m
Handled (events.Entered f) m n = n ≡ m
Handled events.TooDeep m n = n ≡ m
Handled (events.Left f) m n = n ≡ emptied m (landing_of f.held.landing) (shape_meant f.held.shape)
