-- Zeroing keeps the lengths of all segments.
use Rattle.std.proofs.Common.{◌≡◌, ℕ, ◌^◌, min, Bool, true, false, cond, ltb, List, map, length, refl, ap, ◌∙◌}
use Rattle.arena.specs.Zeroed.{zeroed_words}
use Rattle.arena.proofs.Zeros.{zeroed_sizes}
use Rattle.tree.specs.Value.{Shape}
use Rattle.tree.specs.Shows.{Landing}
use Rattle.walk.specs.Landings.{landing_of}
use Rattle.walk.specs.Shapes.{shape_meant}
use Rattle.cursor.specs.declared.Event.{Event}
use Rattle.cursor.specs.declared.Event.TheVariants as events
use Rattle.layout.specs.Emptied.{object_words, span_emptied, emptied, Handled}

cond_lengths : (b : Bool) (m n : List (List ℕ)) → map length n ≡ map length m → map length (cond b n m) ≡ map length m
cond_lengths true m n e = e
cond_lengths false m n e = refl

span_lengths : (m : List (List ℕ)) (g s n : ℕ) → map length (span_emptied m g s n) ≡ map length m
span_lengths m g s n = cond_lengths (ltb s (2 ^ 32)) m (zeroed_words m g s n) (zeroed_sizes m g s n)

emptied_lengths : (m : List (List ℕ)) (l : Landing) (sh : Shape) → map length (emptied m l sh) ≡ map length m
emptied_lengths m l sh =
    let n : ℕ = object_words l.said sh in
    span_lengths (span_emptied m l.seg l.pos n) l.pad_seg l.pad_pos (min l.pad_len 2) ∙
    span_lengths m l.seg l.pos n

pub lengths_by : (m n : List (List ℕ)) (l : Landing) (sh : Shape) → n ≡ emptied m l sh → map length n ≡ map length m
lengths_by m n l sh e = ap (map length) e ∙ emptied_lengths m l sh

pub handled_lengths : (e : Event) (m n : List (List ℕ)) → Handled e m n → map length n ≡ map length m
handled_lengths events.Null m n h = ap (map length) h
handled_lengths (events.Entered f) m n h = ap (map length) h
handled_lengths events.TooDeep m n h = ap (map length) h
handled_lengths (events.Left f) m n h = lengths_by m n (landing_of f.held.landing) (shape_meant f.held.shape) h
