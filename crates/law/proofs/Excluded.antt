-- Wrong behaviours are excluded, and the law is met by a run.
use Rattle.std.proofs.Common.{◌≡◌, ℕ, zero, suc, ◌+◌, ◌-◌, ◌^◌, ◌<◌, ◌≤◌, min, max, Bool, true, false, cond, ◌&&◌, ltb, leb, List, [], ◌∷◌, get_or, replicate, Some, None, Option, sym, refl, ap, ◌∙◌, subst, inr, arith, lit≤}
use mathlib.Core.Path.{fun_ext}
use Rattle.std.proofs.lemmas.Bool.{leb-true, ltb-true, and_parts}
use Rattle.tree.specs.Value.{change, structure, Value, null, blank}
use Rattle.tree.specs.Words.{word}
use Rattle.tree.specs.Shows.{land, within, total}
use Rattle.tree.specs.Decode.{shape_of, decode}
use Rattle.tree.proofs.Context.{change_else}
use Rattle.table.specs.Placing.{Room, room, got, no_space, anywhere, place, pad, root}
use Rattle.law.specs.Calls.{init_struct, init_list, get_struct, text, clear, Call, Answer, refused, nowhere, sizes}
use Rattle.law.specs.Machine.{fine, judge, effect}
use Rattle.law.specs.Exact.{Written, moved, call_outcome}
use Rattle.law.specs.Law.{Offered, Source, State, memory, Reply, Accepted, Crowded, Placing, Lawful, Begun}
use Rattle.law.specs.Cases.{seg, at_root, in_pointer}
use Rattle.law.specs.Excluded.{Slab, used, offer_of, slab, draft, state, says, begun, with_struct, dirty, two_children, one_child, old_pad, two_texts, swapped_texts, tree_of, WrongBehavioursExcluded, Examples}
use Rattle.law.proofs.Tables.{first_kept}
use Rattle.law.proofs.Drafts.{begun_holds}
use Rattle.law.proofs.Enough.{rejects, crowds, accepts}

-- ## What an accepted call owes

module _ {X : Type 0} (S : Source X) (s : State) (v : Value) (c : Call) (met : List ℕ) (y : Reply) (s' : State) where
  accepted_by : (r : Room) (x : Written) → judge v c ≡ fine → call_outcome (memory s) v (room s.table met) c ≡ got r x → Lawful S s v c met y s' →
      Accepted S s v c met y s' r x
  accepted_by r x e f h =
      subst (λ o. Placing S s v c met y s' fine o) f (subst (λ d. Placing S s v c met y s' d (call_outcome (memory s) v (room s.table met) c)) e h.placing)

  crowded_by : (r : Room) (m : ℕ) → judge v c ≡ fine → call_outcome (memory s) v (room s.table met) c ≡ no_space r m → Lawful S s v c met y s' →
      Crowded S s met y s' r m
  crowded_by r m e f h =
      subst (λ o. Placing S s v c met y s' fine o) f (subst (λ d. Placing S s v c met y s' d (call_outcome (memory s) v (room s.table met) c)) e h.placing)

pub excluded : (X : Type 0) → WrongBehavioursExcluded X
unfolding change word land within total shape_of decode anywhere place pad root judge effect moved call_outcome
excluded X = record {
  dirty_padding = λ S o f o' f' y h.
      let p = accepted_by S (state [] [] o f) null (at_root (text [])) (2 ∷ []) y (state dirty (seg 2 2 ∷ []) o' f') _ _ refl refl h in
      let z : ◌≡◌ {A = ℕ} 0xFF00 0 = ap (λ M. M 0 1) p.words_are in
      absurd (omega arith);
  other_pad = λ S o f o' f' y h.
      let p = accepted_by S (state one_child (seg 4 4 ∷ []) o f) (tree_of one_child) (at_root (get_struct 1 1)) (4 ∷ 4 ∷ []) y
      (state old_pad (seg 4 4 ∷ seg 3 4 ∷ seg 2 4 ∷ []) o' f') _ _ refl refl h in
      let z : ◌≡◌ {A = ℕ} 0x0000000200000000 0 = ap (λ M. M 0 1) p.words_are in
      absurd (omega arith);
  swapped_children = λ S o f o' f' y h.
      let p = accepted_by S (state two_texts (seg 5 8 ∷ []) o f) (tree_of two_texts) (at_root (get_struct 1 2)) [] y (state swapped_texts (seg 8 8 ∷ []) o' f') _ _ refl refl h in
      let z : ◌≡◌ {A = ℕ} 0x0000000AFFFFFFF5 0x0000000AFFFFFFF1 = ap (λ M. M 0 6) p.words_are in
      absurd (omega arith);
  needless_grant = λ S o f y s' h.
      let p = accepted_by S (state [] [] o f) null (at_root (init_struct 1 0)) (16 ∷ 2 ∷ []) y s' _ _ refl refl h in
      let z : ◌≡◌ {A = List ℕ} (2 ∷ []) [] = p.all_used in
      let k : ◌≡◌ {A = ℕ} 0 1 = cc in absurd (omega arith);
  needless_eleven = λ S o f m p s' h.
      let a = accepted_by S (state [] [] o f) null (at_root (init_struct 1 0)) (16 ∷ []) (says (refused 11) m p) s' _ _ refl refl h in
      let z : ◌≡◌ {A = ℕ} 11 0 = a.untold in absurd (omega arith);
  needless_refusal = λ S o f met m p s' h.
      let z : ◌≡◌ {A = Answer} (refused 9) (sizes (structure 1 0)) = h.answer in
      let k : ◌≡◌ {A = ℕ} 0 1 = cc in absurd (omega arith);
  idle = λ S o f o' f' y h.
      let p = accepted_by S (state ((0x0000000100000000 ∷ 5 ∷ []) ∷ []) (seg 2 2 ∷ []) o f) (tree_of ((0x0000000100000000 ∷ 5 ∷ []) ∷ [])) (at_root clear) [] y
      (state ((0x0000000100000000 ∷ 5 ∷ []) ∷ []) (seg 2 2 ∷ []) o' f') _ _ refl refl h in
      let z : ◌≡◌ {A = ℕ} 5 0 = ap (λ M. M 0 1) p.words_are in
      absurd (omega arith);
  other_first_offers = λ S s v c met y s' none some h.
      let e : ◌≡◌ {A = Option ℕ} None (Some 1) = sym none ∙ ap (λ o. o 1) (first_kept S s v c met y s' h) ∙ some in
      let k : ◌≡◌ {A = ℕ} 0 1 = cc in absurd (omega arith);
  short_offer = λ S s v e h. let k = h.stands.offered 3 2 e in absurd (omega arith);
}

-- ## Slabs

offer_is : (step left m c : ℕ) → offer_of step left m ≡ Some c → (0 < m) × (m ≤ left) × (c ≡ min left (max m step))
offer_is step left m c e = go (ltb 0 m && leb m left) refl e
  where
    go : (b : Bool) → (ltb 0 m && leb m left) ≡ b → ◌≡◌ {A = Option ℕ} (cond b (Some (min left (max m step))) None) (Some c) →
        (0 < m) × (m ≤ left) × (c ≡ min left (max m step))
    go true t e = let q = and_parts _ _ t in (ltb-true _ _ q.0, leb-true _ _ q.1, cc)
    go false t e = let z : ◌≡◌ {A = ℕ} 0 1 = cc in absurd (omega arith)

slab_offered : (step left : ℕ) → left < 2 ^ 29 → Offered (offer_of step left)
slab_offered step left h m c e = let q = offer_is step left m c e in (q.0, omega (arith, q.1, q.2), omega (arith, q.2))

greedy : (s' : State) →
    Lawful slab (draft 11 1 two_children (seg 3 3 ∷ [])) (tree_of two_children) (at_root (get_struct 1 2)) (4 ∷ 3 ∷ []) (says (refused 11) 2 (0, 0)) s' → ⊥
unfolding change word land within total shape_of decode anywhere place pad root judge effect moved call_outcome
greedy s' h =
    let p = crowded_by slab (draft 11 1 two_children (seg 3 3 ∷ [])) (tree_of two_children) (at_root (get_struct 1 2)) (4 ∷ 3 ∷ []) (says (refused 11) 2 (0, 0)) s' _ _ refl refl h in
    let (on, sized, lawful, first, rest) = p.back.granted.1 in
    let one : offer_of on.step on.words 1 ≡ Some 1 = ap (λ o. o 1) first in
    let all : offer_of on.step on.words 11 ≡ Some 11 = ap (λ o. o 11) first in
    let a = offer_is on.step on.words 1 1 one in
    let b = offer_is on.step on.words 11 11 all in
    let c = offer_is on.step (slab_left on) 2 3 rest.0 in
    omega (arith, a.2, b.1, c.2)
  where
    slab_left : Slab → ℕ
    slab_left x = x.words - used x.cut

-- ## The run

begins : Begun slab begun
begins = record {
  valued = (record { words = 16; step = 16; cut = [] }, refl);
  no_segments = refl;
  no_table = refl;
  offers_first = refl;
  offered = slab_offered 16 16 (lit≤ tt);
}

either_zero : (b : Bool) → ◌≡◌ {A = ℕ} (cond b 0 0) 0
either_zero true = refl
either_zero false = refl

zero_read : (n w : ℕ) → ◌≡◌ {A = ℕ} (get_or (replicate n 0) w 0) 0
zero_read zero w = refl
zero_read (suc n) zero = refl
zero_read (suc n) (suc w) = zero_read n w

first_call : Lawful slab begun null (at_root (init_struct 1 2)) (16 ∷ []) (says (sizes (structure 1 2)) 0 (0, 1)) with_struct
unfolding change word land total shape_of decode anywhere place pad root judge effect moved call_outcome
first_call =
    accepts slab begun null (at_root (init_struct 1 2)) (16 ∷ []) (says (sizes (structure 1 2)) 0 (0, 1)) with_struct _ _
    (record {
      typed = (lit≤ tt, lit≤ tt);
      before = begun_holds slab begun begins;
      judged_fine = refl;
      outcome = refl;
      all_used = refl;
      granted = (refl, (record { words = 16; step = 16; cut = replicate 16 0 ∷ [] }, refl, slab_offered 16 0 (lit≤ tt), refl, (refl, refl, refl)));
      table_is = refl;
      valued = (record { words = 16; step = 16; cut = (0x0002000100000000 ∷ replicate 15 0) ∷ [] }, refl);
      words_are = fun_ext (λ g. fun_ext (λ w. words g w));
      says_is = refl;
      pair_is = refl;
    })
  where
    words : (g w : ℕ) → memory with_struct g w ≡ change (λ x y. cond (ltb 0 (within 0 0 1 x y + 0)) 0 0) 0 0 0x0002000100000000 g w
    words zero zero = refl
    words zero (suc w) =
        zero_read 15 w ∙
        sym
        (change_else (λ x y. cond (ltb 0 (within 0 0 1 x y + 0)) 0 0) 0 0 0x0002000100000000 0 (suc w) (λ _ e. omega arith) ∙
        either_zero (ltb 0 (within 0 0 1 0 (suc w) + 0)))
    words (suc g) w =
        sym
        (change_else (λ x y. cond (ltb 0 (within 0 0 1 x y + 0)) 0 0) 0 0 0x0002000100000000 (suc g) w (λ e _. omega arith) ∙
        either_zero (ltb 0 (within 0 0 1 (suc g) w + 0)))

second_call : Lawful slab with_struct (blank (structure 1 2)) (in_pointer 1 (init_list 5 20)) [] (says (refused 11) 21 (0, 0)) with_struct
unfolding change word land within total shape_of decode anywhere place pad root judge effect moved call_outcome
second_call =
    crowds slab with_struct (blank (structure 1 2)) (in_pointer 1 (init_list 5 20)) [] (says (refused 11) 21 (0, 0)) with_struct _
    (record {
      typed = tt;
      before = first_call.after;
      judged_fine = refl;
      outcome = refl;
      all_used = refl;
      granted = (refl, refl, refl);
      no_more = inr refl;
      segments_are = refl;
      table_is = refl;
      valued = (record { words = 16; step = 16; cut = (0x0002000100000000 ∷ replicate 15 0) ∷ [] }, refl);
      says_is = refl;
    })

third_call : Lawful slab with_struct (blank (structure 1 2)) (in_pointer 2 clear) [] (says (nowhere 0) 0 (0, 0)) with_struct
unfolding judge effect
third_call = rejects slab with_struct (blank (structure 1 2)) (in_pointer 2 clear) (says (nowhere 0) 0 (0, 0)) tt first_call.after refl

pub examples : Examples
unfolding judge effect
examples = record {
  begins = begins;
  lawful = (first_call, (second_call, (third_call, tt)));
  greedy_grant = greedy;
  item_of_pointers = refl;
  pointer_code = λ t. omega (arith, t.0);
  wide_byte = λ t. omega (arith, t.1);
  wide_section = λ t. omega (arith, t.0);
}
