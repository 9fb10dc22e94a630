-- Allocations keep capacities, never lower counts, and give words that were not allocated.
use Rattle.std.proofs.Common.{◌≡◌, ℕ, zero, suc, ◌+◌, ◌<◌, ◌≤◌, Bool, true, false, cond, eqb, ltb, leb, List, [], ◌∷◌, ◌++◌, length, sym, refl, ap, ◌∙◌, subst, inl, inr, arith}
use Rattle.std.proofs.lemmas.Bool.{leb-true, leb-false, ltb-true}
use Rattle.table.specs.Segments.{fresh, more, allocated_in, left_in, capacities, first_fit}
use Rattle.table.specs.Placing.{Room, Outcome, got, no_space, then, each, in_segment, grant, anywhere, place, pad, root}
use Rattle.table.specs.Laws.{Later, After, Got, Fresh, Placed, Padded, AllocationsStand}
use Rattle.table.proofs.Extending.{extends_anywhere, extends_place, extends_pad, extends_root}
use Rattle.std.proofs.lemmas.List.{append_assoc}
use Rattle.table.proofs.Tables.{capacities_append, capacities_take, take_more, take_here, append_more, append_here, past_none, first_fits}

-- ## Rooms

pub later_same : (r : Room) → Later r r
later_same r = record { capacities_same = refl; grown = λ x. omega arith }

pub later_then : (r r' r'' : Room) → Later r r' → Later r' r'' → Later r r''
later_then r r' r'' p q = record { capacities_same = q.capacities_same ∙ p.capacities_same; grown = λ x. omega (arith, p.grown x, q.grown x) }

pub after_got : {A : Type 0} (r : Room) (a : A) → After r (got r a)
unfolding After
after_got r a = later_same r

after_none : (r : Room) (m : ℕ) → After {A = ℕ × ℕ} r (no_space r m)
unfolding After
after_none r m = later_same r

after_later : {A : Type 0} (r r' : Room) (o : Outcome A) → Later r r' → After r' o → After r o
unfolding After
after_later r r' (got q a) p h = later_then r r' q p h
after_later r r' (no_space q m) p h = later_then r r' q p h

pub after_then : {A B : Type 0} (r : Room) (o : Outcome A) (f : Room → A → Outcome B) → After r o →
    ((r' : Room) (a : A) → After r' (f r' a)) → After r (then o f)
unfolding After
after_then r (got r' a) f h k = after_later r r' (f r' a) h (k r' a)
after_then r (no_space r' m) f h k = h

pub after_if : {A : Type 0} (r : Room) (b : Bool) (o p : Outcome A) → After r o → After r p → After r (cond b o p)
after_if r true o p h k = h
after_if r false o p h k = k

pub after_each : {A : Type 0} (n : ℕ) (f : ℕ → Room → A → Outcome A) (r : Room) (a : A) →
    ((i : ℕ) (r' : Room) (b : A) → After r' (f i r' b)) → After r (each n f r a)
after_each zero f r a h = after_got r a
after_each (suc n) f r a h = after_then r (each n f r a) (f n) (after_each n f r a h) (h n)

-- the room after what is got
pub got_later : {A : Type 0} (r r' : Room) (o : Outcome A) (a : A) → After r o → o ≡ got r' a → Later r r'
unfolding After
got_later r r' o a h e = subst (After r) e h

after_in_segment : (r : Room) (g n : ℕ) → After r (in_segment r g n)
unfolding After
after_in_segment r g n = record {
  capacities_same = ap (λ l. l ++ r.coming) (capacities_take r.table g n);
  grown = λ x. take_more r.table g n x;
}

after_grant : (r : Room) (n : ℕ) (cs : List ℕ) → r.coming ≡ cs → After r (grant r n cs)
unfolding After
after_grant r n [] e = later_same r
after_grant r n (c ∷ cs) e = record {
  capacities_same = ap (λ l. l ++ cs) (capacities_append r.table _) ∙ append_assoc (capacities r.table) (c ∷ []) cs ∙
      ap (λ l. capacities r.table ++ l) (sym e);
  grown = λ x. append_more r.table _ x;
}

pub after_anywhere : (r : Room) (n : ℕ) → After r (anywhere r n)
unfolding anywhere
after_anywhere r n =
    after_if r (ltb (first_fit r.table n) (length r.table)) _ _
    (after_in_segment r (first_fit r.table n) n)
    (after_if r (ltb (length r.table) 64) _ _ (after_grant r n r.coming refl) (after_none r n))

pub after_place : (r : Room) (g n : ℕ) → After r (place r g n)
unfolding place
after_place r g n =
    after_if r (leb n (left_in r.table g)) _ _ (after_in_segment r g n)
    (after_then r (anywhere r (n + 1)) (λ r' p. got r' (p.0, p.1 + 1)) (after_anywhere r (n + 1)) (λ r' p. after_got r' (p.0, p.1 + 1)))

pub after_pad : (r : Room) (g : ℕ) → After r (pad r g)
unfolding pad
after_pad r g = after_if r (leb 1 (left_in r.table g)) _ _ (after_in_segment r g 1) (after_anywhere r 2)

pub after_root : (r : Room) → After r (root r)
unfolding root
after_root r = after_if r (eqb (allocated_in r.table 0) 0) _ _ (after_anywhere r 1) (after_got r (0, 0))

-- ## New words

-- g is none of the segments that have so many words left
abbrev Found : Room → (n : ℕ) → Room → ℕ × ℕ → Type 0
Found r n r' p = Fresh r r' p.0 p.1 n × ((g : ℕ) → 1 ≤ allocated_in r.table g → left_in r.table g < n → p.0 ≡ g → ⊥)

found_fit : (r : Room) (n : ℕ) → first_fit r.table n < length r.table → Got (Found r n) (in_segment r (first_fit r.table n) n)
unfolding Got After
found_fit r n h =
    let s : ℕ = first_fit r.table n in
    let room : n ≤ left_in r.table s = first_fits r.table n h in (
      record { later = after_in_segment r s n; unused = omega arith; inside = take_here r.table s n room },
      λ g _ full e. omega (arith, room, subst (λ z. left_in r.table z < n) (sym e) full),
    )

found_grant : (r : Room) (n : ℕ) (cs : List ℕ) → r.coming ≡ cs → Got (Found r n) (grant r n cs)
unfolding Got After
found_grant r n [] e = tt
found_grant r n (c ∷ cs) e = (
  record {
    later = after_grant r n (c ∷ cs) e;
    unused = omega (arith, past_none r.table);
    inside = omega (arith, append_here r.table (more (fresh c) n));
  },
  λ g one _ q. omega (arith, past_none r.table, subst (λ z. 1 ≤ allocated_in r.table z) (sym q) one),
)

got_if : {A : Type 0} (P : Room → A → Type 0) (b : Bool) (o q : Outcome A) → (b ≡ true → Got P o) → (b ≡ false → Got P q) → Got P (cond b o q)
got_if P true o q h k = h refl
got_if P false o q h k = k refl

found_anywhere : (r : Room) (n : ℕ) → Got (Found r n) (anywhere r n)
unfolding anywhere Got
found_anywhere r n =
    got_if (Found r n) (ltb (first_fit r.table n) (length r.table)) _ _ (λ e. found_fit r n (ltb-true _ _ e))
    (λ _. got_if (Found r n) (ltb (length r.table) 64) _ _ (λ _. found_grant r n r.coming refl) (λ _. tt))

got_map : {A B : Type 0} (P : Room → A → Type 0) (Q : Room → B → Type 0) (f : A → B) (o : Outcome A) →
    ((r : Room) (a : A) → P r a → Q r (f a)) → Got P o → Got Q (then o (λ r a. got r (f a)))
unfolding Got
got_map P Q f (got r a) k h = k r a h
got_map P Q f (no_space r m) k h = tt

got_more : {A : Type 0} (P Q : Room → A → Type 0) (o : Outcome A) → ((r : Room) (a : A) → P r a → Q r a) → Got P o → Got Q o
unfolding Got
got_more P Q (got r a) k h = k r a h
got_more P Q (no_space r m) k h = tt

here_fresh : (r : Room) (g n : ℕ) → n ≤ left_in r.table g → Got (λ r' p. (p.0 ≡ g) × Fresh r r' g p.1 n) (in_segment r g n)
unfolding Got After
here_fresh r g n h = (refl, record { later = after_in_segment r g n; unused = omega arith; inside = take_here r.table g n h })

pub fresh_place : (r : Room) (g n : ℕ) → 1 ≤ allocated_in r.table g → Got (Placed r g n) (place r g n)
unfolding place
fresh_place r g n one =
    got_if (Placed r g n) (leb n (left_in r.table g)) _ _
    (λ e. got_more _ (Placed r g n) (in_segment r g n) (λ r' p h. inl h) (here_fresh r g n (leb-true _ _ e)))
    (λ e.
    let full : left_in r.table g < n = leb-false _ _ e in
    got_map (Found r (n + 1)) (Placed r g n) (λ p. (p.0, p.1 + 1)) (anywhere r (n + 1))
    (λ r' p h.
    inr (h.1 g one (omega arith), (p.1, refl, record { later = h.0.later; unused = h.0.unused; inside = omega (arith, h.0.inside) })))
    (found_anywhere r (n + 1)))

pub fresh_pad : (r : Room) (g : ℕ) → 1 ≤ allocated_in r.table g → Got (Padded r g) (pad r g)
unfolding pad
fresh_pad r g one =
    got_if (Padded r g) (leb 1 (left_in r.table g)) _ _
    (λ e. got_more _ (Padded r g) (in_segment r g 1) (λ r' p h. inl h) (here_fresh r g 1 (leb-true _ _ e)))
    (λ e.
    let full : left_in r.table g < 1 = leb-false _ _ e in
    got_more _ (Padded r g) (anywhere r 2) (λ r' p h. inr (h.1 g one (omega arith), h.0)) (found_anywhere r 2))

pub allocations : AllocationsStand
allocations = record {
  anywhere_later = after_anywhere;
  place_later = after_place;
  pad_later = after_pad;
  root_later = after_root;
  anywhere_fresh = λ r n. got_more (Found r n) (λ r' p. Fresh r r' p.0 p.1 n) (anywhere r n) (λ r' p h. h.0) (found_anywhere r n);
  place_fresh = fresh_place;
  pad_fresh = fresh_pad;
  anywhere_extends = λ r r' n p ds. extends_anywhere n r r' p ds;
  place_extends = λ r r' g n p ds. extends_place g n r r' p ds;
  pad_extends = λ r r' g p ds. extends_pad g r r' p ds;
  root_extends = extends_root;
}
