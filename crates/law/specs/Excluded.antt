-- Wrong behaviours that the law does not let through, and a run that it does.
use Rattle.std.specs.Prelude.{◌≡◌, ℕ, ◌+◌, ◌-◌, min, max, cond, ◌&&◌, List, [], ◌∷◌, length, replicate, Some, None, nat_le, nat_lt}
use Rattle.tree.specs.Value.{structure, plain, pointer, Value, null, blank}
use Rattle.tree.specs.Decode.{decode}
use Rattle.tree.specs.Words.{word}
use Rattle.table.specs.Segments.{Table}
use Rattle.law.specs.Calls.{init_struct, init_list, get_struct, text, clear, write, field, item, Call, Typed, Answer, refused, nowhere, sizes}
use Rattle.law.specs.Machine.{wrong, judge}
use Rattle.law.specs.Law.{Offers, Source, State, Holds, Reply, Lawful, Begun}
use Rattle.law.specs.Runs.{Event, Run}
use Rattle.law.specs.Drafts.{drafting}
use Rattle.law.specs.Cases.{seg, at_root, in_pointer}

-- ## A source that cuts its segments from some words: at least `step` words at a time, while there are enough

pub record Slab : Type 0 where
  pub words : ℕ
  pub step : ℕ
  pub cut : List (List ℕ)

abbrev pub used : List (List ℕ) → ℕ
used [] = 0
used (s ∷ m) = length s + used m

abbrev pub offer_of : (step left : ℕ) → Offers
offer_of step left m = cond (nat_lt 0 m && nat_le m left) (Some (min left (max m step))) None

abbrev pub slab : Source Slab
slab x = record { segments = x.cut; offers = offer_of x.step (x.words - used x.cut); first_offers = offer_of x.step x.words }

-- a draft over a slab
abbrev pub draft : (words step : ℕ) → List (List ℕ) → Table → State
draft n step m t = record { source = slab (record { words = n; step = step; cut = m }); table = t }

-- a state over any source
abbrev pub state : List (List ℕ) → Table → (offers first : Offers) → State
state m t o f = record { source = record { segments = m; offers = o; first_offers = f }; table = t }

abbrev pub says : Answer → (minimum : ℕ) → (pair : ℕ × ℕ) → Reply
says a m p = record { says = a; minimum = m; pair = p }

-- ## A run by the law: a struct is made, a list finds no space, a path leads nowhere

abbrev pub begun : State
begun = draft 16 16 [] []

abbrev pub with_struct : State
with_struct = draft 16 16 ((0x0002000100000000 ∷ replicate 15 0) ∷ []) (seg 4 16 ∷ [])

abbrev pub short_run : List (Event (drafting slab))
short_run =
    record { call = at_root (init_struct 1 2); reply = says (sizes (structure 1 2)) 0 (0, 1); after = with_struct } ∷
    (record { call = in_pointer 1 (init_list 5 20); reply = says (refused 11) 21 (0, 0); after = with_struct } ∷
    (record { call = in_pointer 2 clear; reply = says (nowhere 0) 0 (0, 0); after = with_struct } ∷ []))

-- ## Words of wrong calls

-- an empty text whose padding is not zero
abbrev pub dirty : List (List ℕ)
dirty = (0x0000000A00000001 ∷ 0xFF00 ∷ []) ∷ []

-- a struct with two empty children, in a full segment
abbrev pub two_children : List (List ℕ)
two_children = (0x0002000000000000 ∷ 0x00000000FFFFFFFC ∷ 0x00000000FFFFFFFC ∷ []) ∷ []

-- a struct with a child, in a full segment; then made larger, with the old word of the child's pointer used as its pad
abbrev pub one_child : List (List ℕ)
one_child = (0x0001000000000000 ∷ 0x0000000200000000 ∷ 0 ∷ 0 ∷ []) ∷ []

abbrev pub old_pad : List (List ℕ)
old_pad = (0x0000000100000002 ∷ 0x0000000200000000 ∷ 0 ∷ 0 ∷ []) ∷ (0x0001000100000000 ∷ 0 ∷ 0xA ∷ 0 ∷ []) ∷ (0 ∷ 0 ∷ 0 ∷ 0 ∷ []) ∷ []

-- a struct with two texts; then made larger, with its children swapped
abbrev pub two_texts : List (List ℕ)
two_texts = (0x0002000000000000 ∷ 0x0000000A00000005 ∷ 0x0000000A00000005 ∷ 0x61 ∷ 0x62 ∷ []) ∷ []

abbrev pub swapped_texts : List (List ℕ)
swapped_texts = (0x0002000100000010 ∷ 0 ∷ 0 ∷ 0x61 ∷ 0x62 ∷ 0 ∷ 0x0000000AFFFFFFF5 ∷ 0x0000000AFFFFFFED ∷ []) ∷ []

abbrev pub tree_of : List (List ℕ) → Value
tree_of m = decode 64 (word m) 0 0

-- over every type X of sources
pub record WrongBehavioursExcluded (X : Type 0) : Type 0 where
  -- words other than those of the definition
  pub dirty_padding : (S : Source X) (o f o' f' : Offers) (y : Reply) →
      Lawful S (state [] [] o f) null (at_root (text [])) (2 ∷ []) y (state dirty (seg 2 2 ∷ []) o' f') → ⊥
  pub other_pad : (S : Source X) (o f o' f' : Offers) (y : Reply) →
      Lawful S (state one_child (seg 4 4 ∷ []) o f) (tree_of one_child) (at_root (get_struct 1 1)) (4 ∷ 4 ∷ []) y
      (state old_pad (seg 4 4 ∷ seg 3 4 ∷ seg 2 4 ∷ []) o' f') → ⊥
  pub swapped_children : (S : Source X) (o f o' f' : Offers) (y : Reply) →
      Lawful S (state two_texts (seg 5 8 ∷ []) o f) (tree_of two_texts) (at_root (get_struct 1 2)) [] y (state swapped_texts (seg 8 8 ∷ []) o' f') → ⊥
  -- a grant that is not needed
  pub needless_grant : (S : Source X) (o f : Offers) (y : Reply) (s' : State) →
      Lawful S (state [] [] o f) null (at_root (init_struct 1 0)) (16 ∷ 2 ∷ []) y s' → ⊥
  -- "no space" where there is room, another refusal, and "done" by a call that did nothing
  pub needless_eleven : (S : Source X) (o f : Offers) (m : ℕ) (p : ℕ × ℕ) (s' : State) →
      Lawful S (state [] [] o f) null (at_root (init_struct 1 0)) (16 ∷ []) (says (refused 11) m p) s' → ⊥
  pub needless_refusal : (S : Source X) (o f : Offers) (met : List ℕ) (m : ℕ) (p : ℕ × ℕ) (s' : State) →
      Lawful S (state [] [] o f) null (at_root (init_struct 1 0)) met (says (refused 9) m p) s' → ⊥
  pub idle : (S : Source X) (o f o' f' : Offers) (y : Reply) →
      Lawful S (state ((0x0000000100000000 ∷ 5 ∷ []) ∷ []) (seg 2 2 ∷ []) o f) (tree_of ((0x0000000100000000 ∷ 5 ∷ []) ∷ [])) (at_root clear) [] y
      (state ((0x0000000100000000 ∷ 5 ∷ []) ∷ []) (seg 2 2 ∷ []) o' f') → ⊥
  -- a call after which the first offers are others
  pub other_first_offers : (S : Source X) (s : State) (v : Value) (c : Call) (met : List ℕ) (y : Reply) (s' : State) →
      s'.source.first_offers 1 ≡ None → s.source.first_offers 1 ≡ Some 1 → Lawful S s v c met y s' → ⊥
  -- a source that offers less than it is asked for
  pub short_offer : (S : Source X) (s : State) (v : Value) → s.source.offers 3 ≡ Some 2 → Holds S s v → ⊥

pub record Examples : Type 0 where
  pub begins : Begun slab begun
  pub lawful : Run (drafting slab) begun null short_run
  -- Over a slab with 8 words left the call finds its room by grants of 4, 2 and 2. It may not ask for 3 in place of the first 2 and then
  -- say that there is no space.
  pub greedy_grant : (s' : State) →
      Lawful slab (draft 11 1 two_children (seg 3 3 ∷ [])) (tree_of two_children) (at_root (get_struct 1 2)) (4 ∷ 3 ∷ []) (says (refused 11) 2 (0, 0)) s' → ⊥
  -- calls with arguments that no type has
  pub item_of_pointers : judge (blank (plain pointer 2)) (at_root (write item 6 0 5)) ≡ wrong (refused 9)
  pub pointer_code : Typed (write field 6 0 5) → ⊥
  pub wide_byte : Typed (write field 2 0 256) → ⊥
  pub wide_section : Typed (init_struct 65536 0) → ⊥
