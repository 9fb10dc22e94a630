-- A call only allocates: old capacities stay and counts never fall.
use Rattle.std.proofs.Common.{ℕ, ◌+◌, eqb}
use Rattle.wire.specs.Pointers.{pointer_kind}
use Rattle.tree.specs.Value.{Shape, Value, null, object, rows, pointers, size, slot, value_at}
use Rattle.tree.specs.Shows.{Memory, Landing, land, walk}
use Rattle.table.specs.Placing.{Room, pad, root}
use Rattle.table.specs.Laws.{After}
use Rattle.table.proofs.Allocations.{after_got, after_if, after_then, after_each, after_place, after_pad, after_root}
use Rattle.law.specs.Calls.{Call}
use Rattle.law.specs.Machine.{Making, keep, wipe, set, new, spell, rebuild, making, text_shape}
use Rattle.law.specs.Exact.{no_words, place_shape, moved, moves, rebuilds, makes, call_outcome}

pub after_shape : (r : Room) (g w : ℕ) (sh : Shape) → After r (place_shape r g w sh)
after_shape r g w sh = after_if r (no_words sh) _ _ (after_got r (g, w)) (after_place r g (size sh))

pub after_moved : (g w s q : ℕ) (r : Room) (H : Memory) → After r (moved g w s q r H)
unfolding moved
after_moved g w s q r H =
    after_if r (eqb (H g w) 0) _ _ (after_got r H)
    (after_if r (eqb (pointer_kind (H g w)) 2) _ _ (after_got r _)
    (after_if r (eqb s g) _ _ (after_got r _) (after_then r (pad r g) _ (after_pad r g) (λ r' p. after_got r' _))))

pub after_moves : (l : Landing) (sh : Shape) (s t : ℕ) (sh' : Shape) (r : Room) (H : Memory) → After r (moves l sh s t sh' r H)
after_moves l sh s t sh' r H =
    after_each (rows sh) _ r H
    (λ i r₁ H₁. after_each (pointers sh) _ r₁ H₁ (λ j r₂ H₂. after_moved l.seg (l.pos + slot sh i j) s (t + slot sh' i j) r₂ H₂))

after_rebuilds : (H : Memory) (g w : ℕ) (l : Landing) (u : Value) (sh' : Shape) (r : Room) → After r (rebuilds H g w l u sh' r)
after_rebuilds H g w l null sh' r = after_got r _
after_rebuilds H g w l (object sh dat kid) sh' r =
    after_then r (place_shape r g w sh') _ (after_shape r g w sh')
    (λ r₁ p.
    after_then r₁ _ _ (after_moves l sh p.0 p.1 sh' r₁ _) (λ r₂ N. after_got r₂ _))

after_makes : (H : Memory) (g w : ℕ) (u : Value) (m : Making) (r : Room) → After r (makes H g w u m r)
after_makes H g w u keep r = after_got r _
after_makes H g w u wipe r = after_got r _
after_makes H g w u (set i k x) r = after_got r _
after_makes H g w u (new sh) r = after_then r (place_shape r g w sh) _ (after_shape r g w sh) (λ r' p. after_got r' _)
after_makes H g w u (spell bytes) r =
    after_then r (place_shape r g w (text_shape bytes)) _ (after_shape r g w (text_shape bytes)) (λ r' p. after_got r' _)
after_makes H g w u (rebuild sh) r = after_rebuilds H g w (land H g w) u sh r

pub after_call : (H : Memory) (v : Value) (r : Room) (c : Call) → After r (call_outcome H v r c)
unfolding call_outcome
after_call H v r c = after_then r (root r) _ (after_root r)
    (λ r₁ _. after_makes H (walk H 0 0 v c.path).0 (walk H 0 0 v c.path).1 (value_at v c.path) (making c.edit (value_at v c.path)) r₁)
