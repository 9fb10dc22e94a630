-- Allocations keep the table within its bounds, if each grant gave what it was asked for.
use Rattle.std.proofs.Common.{◌≡◌, ℕ, zero, suc, ◌+◌, ◌^◌, ◌<◌, ◌≤◌, Bool, true, false, cond, eqb, ltb, leb, List, [], ◌∷◌, ◌++◌, map, length, sym, refl, ap, ◌∙◌, arith}
use Rattle.std.proofs.lemmas.Bool.{leb-true, ltb-true}
use Rattle.table.specs.Segments.{Segment, fresh, more, Table, allocated_in, left_in, take, first_fit, all_fresh, Bounded}
use Rattle.table.specs.Placing.{Room, Outcome, got, no_space, then, each, in_segment, grant, anywhere, place, pad, root}
use Rattle.std.proofs.lemmas.List.{append-nil, append_assoc, map-append, length_push}
use Rattle.table.proofs.Tables.{first_fits}

-- ## Grants

abbrev pub firsts : List (ℕ × ℕ) → List ℕ
firsts gs = map (λ g. g.0) gs

abbrev pub seconds : List (ℕ × ℕ) → List ℕ
seconds gs = map (λ g. g.1) gs

-- minima and capacities that the sources' law allows
abbrev pub Fair : List (ℕ × ℕ) → Type 0
Fair [] = Unit {0}
Fair (g ∷ gs) = (0 < g.1) × (g.0 ≤ g.1) × (g.1 < 2 ^ 29) × Fair gs

fair_split : (p q : List (ℕ × ℕ)) → Fair (p ++ q) → Fair p × Fair q
fair_split [] q h = (tt, h)
fair_split (g ∷ p) q h = let s = fair_split p q h.3 in ((h.0, h.1, h.2, s.0), s.1)

-- ## Tables

take_length : (t : Table) (g n : ℕ) → length (take t g n) ≡ length t
take_length [] g n = refl
take_length (s ∷ t) zero n = refl
take_length (s ∷ t) (suc g) n = ap suc (take_length t g n)

take_bounded : (t : Table) (g n : ℕ) → n ≤ left_in t g → Bounded t → Bounded (take t g n)
take_bounded [] g n h b = tt
take_bounded (s ∷ t) zero n h b = (omega arith, b.1, b.2, b.3)
take_bounded (s ∷ t) (suc g) n h b = (b.0, b.1, b.2, take_bounded t g n h b.3)

append_bounded : (t : Table) (s : Segment) → s.allocated ≤ s.capacity → 0 < s.capacity → s.capacity < 2 ^ 29 → Bounded t → Bounded (t ++ (s ∷ []))
append_bounded [] s h k l b = (h, k, l, tt)
append_bounded (u ∷ t) s h k l b = (b.0, b.1, b.2, append_bounded t s h k l b.3)

pub fresh_bounded : (t : Table) (gs : List (ℕ × ℕ)) → Bounded t → Fair gs → Bounded (t ++ all_fresh (seconds gs))
fresh_bounded [] [] b f = tt
fresh_bounded [] (g ∷ gs) b f = (omega arith, f.0, f.2, fresh_bounded [] gs tt f.3)
fresh_bounded (s ∷ t) gs b f = (b.0, b.1, b.2, fresh_bounded t gs b.3 f)

-- ## Rooms

pub record Fits (r r' : Room) : Type 0 where
  pub grants : List (ℕ × ℕ)
  pub asked_is : r'.asked ≡ r.asked ++ firsts grants
  pub coming_is : r.coming ≡ seconds grants ++ r'.coming
  pub at_most : length r.table ≤ 64 → length r'.table ≤ 64
  pub bounded : Bounded r.table → Fair grants → Bounded r'.table

-- the room, wherever it ends
unfoldable pub Ends : {A : Type 0} → Room → Outcome A → Type 0
Ends r (got r' a) = Fits r r'
Ends r (no_space r' m) = Fits r r'

fits_same : (r : Room) → Fits r r
fits_same r = record { grants = []; asked_is = sym (append-nil r.asked); coming_is = refl; at_most = λ h. h; bounded = λ b _. b }

fits_then : (r r' r'' : Room) → Fits r r' → Fits r' r'' → Fits r r''
fits_then r r' r'' p q = record {
  grants = p.grants ++ q.grants;
  asked_is = q.asked_is ∙ ap (λ l. l ++ firsts q.grants) p.asked_is ∙ append_assoc r.asked (firsts p.grants) (firsts q.grants) ∙
      ap (λ l. r.asked ++ l) (sym (map-append (λ g. g.0) p.grants q.grants));
  coming_is = p.coming_is ∙ ap (λ l. seconds p.grants ++ l) q.coming_is ∙ sym (append_assoc (seconds p.grants) (seconds q.grants) r''.coming) ∙
      ap (λ l. l ++ r''.coming) (sym (map-append (λ g. g.1) p.grants q.grants));
  at_most = λ h. q.at_most (p.at_most h);
  bounded = λ b f. let s = fair_split p.grants q.grants f in q.bounded (p.bounded b s.0) s.1;
}

pub ends_got : {A : Type 0} (r : Room) (a : A) → Ends r (got r a)
unfolding Ends
ends_got r a = fits_same r

ends_later : {A : Type 0} (r r' : Room) (o : Outcome A) → Fits r r' → Ends r' o → Ends r o
unfolding Ends
ends_later r r' (got q a) p h = fits_then r r' q p h
ends_later r r' (no_space q m) p h = fits_then r r' q p h

pub ends_then : {A B : Type 0} (r : Room) (o : Outcome A) (f : Room → A → Outcome B) → Ends r o → ((r' : Room) (a : A) → Ends r' (f r' a)) → Ends r (then o f)
unfolding Ends
ends_then r (got r' a) f h k = ends_later r r' (f r' a) h (k r' a)
ends_then r (no_space r' m) f h k = h

pub ends_if : {A : Type 0} (r : Room) (b : Bool) (o p : Outcome A) → (b ≡ true → Ends r o) → Ends r p → Ends r (cond b o p)
ends_if r true o p h k = h refl
ends_if r false o p h k = k

pub ends_each : {A : Type 0} (n : ℕ) (f : ℕ → Room → A → Outcome A) (r : Room) (a : A) → ((i : ℕ) (r' : Room) (b : A) → Ends r' (f i r' b)) → Ends r (each n f r a)
ends_each zero f r a h = ends_got r a
ends_each (suc n) f r a h = ends_then r (each n f r a) (f n) (ends_each n f r a h) (h n)

ends_in_segment : (r : Room) (g n : ℕ) → n ≤ left_in r.table g → Ends r (in_segment r g n)
unfolding Ends
ends_in_segment r g n h = record {
  grants = [];
  asked_is = sym (append-nil r.asked);
  coming_is = refl;
  at_most = λ k. omega (arith, take_length r.table g n);
  bounded = λ b _. take_bounded r.table g n h b;
}

ends_grant : (r : Room) (n : ℕ) (cs : List ℕ) → r.coming ≡ cs → length r.table < 64 → Ends r (grant r n cs)
unfolding Ends
ends_grant r n [] e h = fits_same r
ends_grant r n (c ∷ cs) e h = record {
  grants = (n, c) ∷ [];
  asked_is = refl;
  coming_is = e;
  at_most = λ _. omega (arith, length_push r.table (more (fresh c) n));
  bounded = λ b f. append_bounded r.table (more (fresh c) n) (omega (arith, f.1)) f.0 f.2 b;
}

ends_none : (r : Room) (m : ℕ) → Ends {A = ℕ × ℕ} r (no_space r m)
unfolding Ends
ends_none r m = fits_same r

pub ends_anywhere : (r : Room) (n : ℕ) → Ends r (anywhere r n)
unfolding anywhere
ends_anywhere r n =
    ends_if r (ltb (first_fit r.table n) (length r.table)) _ _
    (λ e. ends_in_segment r (first_fit r.table n) n (first_fits r.table n (ltb-true _ _ e)))
    (ends_if r (ltb (length r.table) 64) _ _ (λ e. ends_grant r n r.coming refl (ltb-true _ _ e)) (ends_none r n))

pub ends_place : (r : Room) (g n : ℕ) → Ends r (place r g n)
unfolding place
ends_place r g n =
    ends_if r (leb n (left_in r.table g)) _ _ (λ e. ends_in_segment r g n (leb-true _ _ e))
    (ends_then r (anywhere r (n + 1)) (λ r' p. got r' (p.0, p.1 + 1)) (ends_anywhere r (n + 1)) (λ r' p. ends_got r' (p.0, p.1 + 1)))

pub ends_pad : (r : Room) (g : ℕ) → Ends r (pad r g)
unfolding pad
ends_pad r g = ends_if r (leb 1 (left_in r.table g)) _ _ (λ e. ends_in_segment r g 1 (leb-true _ _ e)) (ends_anywhere r 2)

pub ends_root : (r : Room) → Ends r (root r)
unfolding root
ends_root r = ends_if r (eqb (allocated_in r.table 0) 0) _ _ (λ _. ends_anywhere r 1) (ends_got r (0, 0))
