-- The words that an accepted call leaves, as a function of the words before it, the table and the capacities met. One function, `makes`,
-- threads words and room; it looks only at what the edit makes of the place.
use Rattle.std.specs.Prelude.{ℕ, zero, suc, ◌+◌, ◌-◌, ◌*◌, ◌^◌, min, Bool, false, cond, ◌&&◌, ◌||◌, List, ◌==◌, nat_lt, slice_index}
use Rattle.wire.specs.Pointers.{pointer_kind, high_half, pointer_target, struct_pointer, list_pointer, struct_list_tag, single_far, double_far, empty_struct, re_aimed, unaimed}
use Rattle.tree.specs.Value.{Shape, structure, plain, composite, Value, null, object, rows, pointers, places, size, slot, place_word, number, element_code, value_at, change}
use Rattle.tree.specs.Shows.{Memory, Landing, land, walk, within, total, reach}
use Rattle.tree.specs.Edits.{taken}
use Rattle.tree.specs.Numbers.{place_put}
use Rattle.table.specs.Placing.{Room, Outcome, got, then, each, place, pad, root}
use Rattle.law.specs.Calls.{Call}
use Rattle.law.specs.Machine.{Making, keep, wipe, set, new, spell, rebuild, making, text_shape}

-- words that n counts become 0
abbrev pub zeroed : Memory → (n : ℕ → ℕ → ℕ) → Memory
zeroed H n x y = cond (nat_lt 0 (n x y)) 0 (H x y)

-- the slot (g, w), which shows u, and all that it reaches become 0
abbrev pub wiped : Memory → (g w : ℕ) → Value → Memory
wiped H g w u = zeroed H (λ x y. within g w 1 x y + reach H g w u x y)

-- ## A new object in word t of segment s, for the slot (g, w)

-- an empty struct takes no words: its slot stands for it
abbrev pub no_words : Shape → Bool
no_words (structure dw pw) = dw + pw == 0
no_words (plain c n) = false
no_words (composite n dw pw) = false

-- where it goes
abbrev pub place_shape : Room → (g w : ℕ) → Shape → Outcome (ℕ × ℕ)
place_shape r g w sh = cond (no_words sh) (got r (g, w)) (place r g (size sh))

-- the pointer in word p to an object of the shape in word t
abbrev pub pointer_word : Shape → (p t : ℕ) → ℕ
pointer_word (structure dw pw) p t = struct_pointer p t dw pw
pointer_word (plain c n) p t = list_pointer p t (element_code c) n
pointer_word (composite n dw pw) p t = list_pointer p t 7 (n * (dw + pw))

-- its landing pad, if it is in another segment
abbrev pub padded : Memory → (g s t : ℕ) → Shape → Memory
padded H g s t sh = cond (no_words sh || s == g) H (change H s (t - 1) (pointer_word sh (t - 1) t))

abbrev pub tagged : Memory → (s t : ℕ) → Shape → Memory
tagged H s t (structure dw pw) = H
tagged H s t (plain c n) = H
tagged H s t (composite n dw pw) = change H s t (struct_list_tag n dw pw)

-- the words of a new object of zeros and nulls, before its slot leads there
abbrev pub opened : Memory → (g s t : ℕ) → Shape → Memory
opened H g s t sh = tagged (padded H g s t sh) s t sh

-- the word of the slot that leads there
abbrev pub slot_word : (g w s t : ℕ) → Shape → ℕ
slot_word g w s t sh =
    cond (no_words sh) empty_struct (cond (s == g) (pointer_word sh w t) (single_far s (t - 1)))

-- ## Texts: byte i of the list is byte i of the text

abbrev pub text_word : List ℕ → (k : ℕ) → ℕ
text_word bytes k = total 8 (λ j. slice_index bytes (8 * k + j) * 256 ^ j)

abbrev pub spelled : Memory → (s t : ℕ) → List ℕ → Memory
spelled H s t bytes x y = cond (nat_lt 0 (within s t (size (text_shape bytes)) x y)) (text_word bytes (y - t)) (H x y)

-- ## A child moves from the slot (g, w) to the null slot (s, q)

-- to a slot in its own segment
abbrev pub near_pointer : (x w q : ℕ) → ℕ
near_pointer x w q =
    cond (pointer_kind x == 0 && high_half x == 0) empty_struct (re_aimed x q (pointer_target w x))

-- over a landing pad of one word in its own segment, or of two words in segment k
abbrev pub bridged : Memory → (g w x s q : ℕ) → (k p : ℕ) → Memory
bridged H g w x s q k p =
    cond (k == g)
    (change (change H k p (re_aimed x p (pointer_target w x))) s q (single_far k p))
    (change (change (change H k p (single_far g (pointer_target w x))) k (p + 1) (unaimed x)) s q (double_far k p))

-- by what x, the word of its slot, is: null and far pointers are copied
abbrev pub moved_word : (x g w s q : ℕ) → Room → Memory → Outcome Memory
moved_word x g w s q r H =
    cond (x == 0)
    (got r H)
    (cond (pointer_kind x == 2)
    (got r (change H s q x))
    (cond (s == g)
    (got r (change H s q (near_pointer x w q)))
    (then (pad r g) (λ r' p. got r' (bridged H g w x s q p.0 p.1)))))

unfoldable pub moved : (g w s q : ℕ) → Room → Memory → Outcome Memory
moved g w s q r H = moved_word (H g w) g w s q r H

-- ## An object that lay by l in the shape sh is rebuilt in word t of segment s in the shape sh'

-- f for the numbers below n, in rising order
abbrev pub loop : {A : Type 0} → (n : ℕ) → (ℕ → A → A) → A → A
loop zero f a = a
loop (suc n) f a = f n (loop n f a)

-- its numbers are written
abbrev pub copied : (H : Memory) → Landing → Shape → (s t : ℕ) → Shape → Memory → Memory
copied H l sh s t sh' =
    loop (rows sh)
    (λ i. loop (min (places sh) (places sh')) (λ k N. change N s (t + place_word sh' i k) (number sh (λ n. H l.seg (l.pos + n)) i k)))

-- its children move in rising order
abbrev pub moves : Landing → Shape → (s t : ℕ) → Shape → Room → Memory → Outcome Memory
moves l sh s t sh' =
    each (rows sh) (λ i. each (pointers sh) (λ j. moved l.seg (l.pos + slot sh i j) s (t + slot sh' i j)))

-- then its slot leads to the new words, and the old ones are zeroed
abbrev pub closed : Memory → (g w : ℕ) → Landing → Shape → (s t : ℕ) → Shape → Memory
closed H g w l sh s t sh' = change (zeroed H (taken l sh)) g w (slot_word g w s t sh')

-- ## Calls

-- the words after a call, and where the object of its place is
pub record Written : Type 0 where
  pub words : Memory
  pub pair : ℕ × ℕ

-- the slot (g, w) shows u, whose object lies by l
abbrev pub rebuilds : Memory → (g w : ℕ) → (l : Landing) → Value → Shape → Room → Outcome Written
rebuilds H g w l null sh' r = got r (record { words = H; pair = (0, 0) })
rebuilds H g w l (object sh dat kid) sh' r =
    then (place_shape r g w sh')
    (λ r₁ p.
    then (moves l sh p.0 p.1 sh' r₁ (copied H l sh p.0 p.1 sh' (opened H g p.0 p.1 sh')))
    (λ r₂ N. got r₂ (record { words = closed N g w l sh p.0 p.1 sh'; pair = p })))

abbrev pub sets : Memory → (g w : ℕ) → Value → (i k x : ℕ) → Memory
sets H g w null i k x = H
sets H g w (object sh dat kid) i k x =
    let m : ℕ = (land H g w).pos + place_word sh i k in change H (land H g w).seg m (place_put sh (H (land H g w).seg m) i x)

abbrev pub placed : Memory → (g w : ℕ) → Value → (s t : ℕ) → Shape → Memory
placed H g w u s t sh = change (opened (wiped H g w u) g s t sh) g w (slot_word g w s t sh)

abbrev pub makes : Memory → (g w : ℕ) → Value → Making → Room → Outcome Written
makes H g w u keep r = got r (record { words = H; pair = ((land H g w).seg, (land H g w).pos) })
makes H g w u wipe r = got r (record { words = wiped H g w u; pair = (0, 0) })
makes H g w u (set i k x) r = got r (record { words = sets H g w u i k x; pair = ((land H g w).seg, (land H g w).pos) })
makes H g w u (new sh) r =
    then (place_shape r g w sh) (λ r' p. got r' (record { words = placed H g w u p.0 p.1 sh; pair = p }))
makes H g w u (spell bytes) r =
    then (place_shape r g w (text_shape bytes))
    (λ r' p. got r' (record { words = spelled (placed H g w u p.0 p.1 (text_shape bytes)) p.0 p.1 bytes; pair = p }))
makes H g w u (rebuild sh) r = rebuilds H g w (land H g w) u sh r

-- What comes of a call that is not refused by the rulings 1 to 10, where the words H show the tree v: the root word is allocated if
-- there is none, and then the edit is made at its place.
unfoldable pub call_outcome : Memory → Value → Room → Call → Outcome Written
call_outcome H v r c =
    then (root r)
    (λ r₁ _.
    makes H (walk H 0 0 v c.path).0 (walk H 0 0 v c.path).1 (value_at v c.path) (making c.edit (value_at v c.path)) r₁)
