-- Whatever an edit makes of a place: the words of the definition show the tree with that value there.
use Rattle.std.proofs.Common.{◌≡◌, ℕ, ◌<◌, ◌≤◌, ◌⊎◌, List, [], ◌∷◌, sym, refl, ap, ◌∙◌, subst, inl, inr, arith}
use mathlib.Core.Path.{fun_ext}
use Rattle.std.proofs.lemmas.Bool.{cases_eq}
use Rattle.tree.specs.Value.{Shape, Value, null, object, rows, places, Step, Goes, value_at, put, change, blank}
use Rattle.tree.specs.Shows.{Memory, Landing, land, walk, Sound}
use Rattle.tree.specs.Numbers.{place_bits, FitsPlace}
use Rattle.tree.proofs.Context.{change_here, change_else}
use Rattle.table.specs.Placing.{Room, Outcome, got, no_space, then}
use Rattle.table.specs.Laws.{Later, Got}
use Rattle.table.proofs.Allocations.{got_later}
use Rattle.law.specs.Calls.{Bytes}
use Rattle.law.specs.Machine.{Making, keep, wipe, set, new, spell, rebuild, made, text_shape, letters}
use Rattle.law.specs.Exact.{Written, place_shape, wiped, placed, spelled, opened, copied, moves, closed, rebuilds, makes}
use Rattle.law.proofs.Spots.{Describable, Spot}
use Rattle.law.proofs.Inits.{counts, Small, got_here, AtSpot, spots, wiped_cleared}
use Rattle.law.proofs.Rooms.{after_moves}
use Rattle.law.proofs.Children.{got_then}
use Rattle.law.proofs.Makings.{Site, Turned, slot_allocated, turn_null, turn_number, turn_new, new_leads}
use Rattle.law.proofs.Texts.{turn_text}
use Rattle.law.proofs.Moving.{got_by, got_at, P, all_move}
use Rattle.law.proofs.Rebuilds.{Grows, begins, more_rows, slots_null, slots_inside, Hc, turn_larger, larger_leads}

-- ## A value put back

change_same : {A : Type 0} (f : ℕ → ℕ → A) (i j : ℕ) → change f i j (f i j) ≡ f
change_same {A} f i j = fun_ext (λ a. fun_ext (λ b. go a b (cases_eq a i) (cases_eq b j)))
  where
    go : (a b : ℕ) → (a ≡ i) ⊎ (a ≡ i → ⊥) → (b ≡ j) ⊎ (b ≡ j → ⊥) → change f i j (f i j) a b ≡ f a b
    go a b (inl p) (inl q) = rw (p, q) (change_here f i j (f i j))
    go a b (inl p) (inr n) = change_else f i j (f i j) a b (λ _. n)
    go a b (inr n) q = change_else f i j (f i j) a b (λ e _. n e)

put_same : (p : List Step) (v : Value) → Goes v p → put v p (value_at v p) ≡ v
put_same [] v go = refl
put_same (s ∷ p) null go = absurd go
put_same (s ∷ p) (object sh dat kid) go =
    rw (put_same p (kid s.element s.pointer_number) go.1) (ap (object sh dat) (change_same kid s.element s.pointer_number))

-- ## What a making asks of the value that it is made of

abbrev pub FitsMaking : Making → Value → Type 0
FitsMaking keep u = Unit {0}
FitsMaking wipe u = Unit {0}
FitsMaking (set i k x) null = ⊥
FitsMaking (set i k x) (object sh dat kid) = (i < rows sh) × (k < places sh) × FitsPlace sh x × (1 ≤ place_bits sh)
FitsMaking (new sh) u = Describable sh
FitsMaking (spell bytes) u = Bytes bytes
FitsMaking (rebuild sh') null = ⊥
FitsMaking (rebuild sh') (object sh dat kid) = Grows sh sh' × Describable sh'

-- the pair is where the slot leads, of those that answer it
abbrev pub Paired : Making → ℕ × ℕ → Landing → Type 0
Paired keep p l = p ≡ (l.seg, l.pos)
Paired wipe p l = Unit {0}
Paired (set i k x) p l = Unit {0}
Paired (new sh) p l = p ≡ (l.seg, l.pos)
Paired (spell bytes) p l = Unit {0}
Paired (rebuild sh) p l = p ≡ (l.seg, l.pos)

pub then_got : {A B : Type 0} (o : Outcome A) (f : Room → A → Outcome B) (r : Room) (b : B) → then o f ≡ got r b →
    (r₁ : Room) × (a : A) × (o ≡ got r₁ a) × (f r₁ a ≡ got r b)
then_got (got r₁ a) f r b e = (r₁, a, refl, e)
then_got (no_space r₁ m) f r b e = let z : ◌≡◌ {A = ℕ} 0 1 = cc in absurd (omega arith)

spot_pair : (g w : ℕ) (q : ℕ × ℕ) (sh : Shape) (a a' : ℕ → ℕ) (o : Spot g w q.0 q.1 sh a a') (l : Landing) → l ≡ o.l → q ≡ (l.seg, l.pos)
spot_pair g w q sh a a' o l e = sym (ap (λ k. (k.seg, k.pos)) e ∙ (λ i. (o.seg_is i, o.pos_is i)))

-- the children move to where the landing says
moves_there : (old : Landing) (sh : Shape) (q : ℕ × ℕ) (sh' : Shape) (r r' : Room) (M N : Memory) (l : Landing) → l.seg ≡ q.0 → l.pos ≡ q.1 →
    moves old sh q.0 q.1 sh' r M ≡ got r' N → moves old sh l.seg l.pos sh' r M ≡ got r' N
moves_there old sh q sh' r r' M N l e f h = rw (e, f) h

-- ## Every making

module _ (H : Memory) (v : Value) (p : List Step) (r : Room) (c : Site H (counts r) v p) where
  abbrev g : ℕ
  g = (walk H 0 0 v p).0

  abbrev w : ℕ
  w = (walk H 0 0 v p).1

  -- where it is got, the words show the new tree
  abbrev pub Turns : Making → Value → Room → Written → Type 0
  Turns m u r' x =
      Small r' → Turned H x.words (counts r') v p (made m u) × Paired m x.pair (land x.words (walk H 0 0 v p).0 (walk H 0 0 v p).1)

  as_turned : (H' : Memory) (a' : ℕ → ℕ) (u : Value) → value_at v p ≡ u → Turned H H' a' v p (value_at v p) → Turned H H' a' v p u
  as_turned H' a' u is t = subst (λ z. Turned H H' a' v p z) is t

  turn_keep : (u : Value) → value_at v p ≡ u → Turned H H (counts r) v p u
  turn_keep u is =
      as_turned H (counts r) u is
      (record {
        sound = subst (Sound H (counts r)) (sym (put_same p v c.goes)) c.sound;
        there = ap (λ z. walk H 0 0 z p) (put_same p v c.goes);
      })

  at_spots : (sh : Shape) → Describable sh → Got (AtSpot r g w sh) (place_shape r g w sh)
  at_spots sh d = spots r g w sh d (slot_allocated H (counts r) v p c)

  -- once the new object is placed and all children have moved
  moved_all : (sh : Shape) (dat : ℕ → ℕ → ℕ) (kid : ℕ → ℕ → Value) (sh' : Shape) (is : value_at v p ≡ object sh dat kid) (grows : Grows sh sh') (r₁ r₂ : Room) (q : ℕ × ℕ) (N : Memory)
      (o : Spot (walk H 0 0 v p).0 (walk H 0 0 v p).1 q.0 q.1 sh' (counts r) (counts r₁)) →
      moves (land H (walk H 0 0 v p).0 (walk H 0 0 v p).1) sh o.l.seg o.l.pos sh' r₁ (Hc H (counts r) v p c sh dat kid is sh' grows q.0 q.1 (counts r₁) o) ≡ got r₂ N →
      Small r₂ → Turns (rebuild sh') (object sh dat kid) r₂ (record { words = closed N (walk H 0 0 v p).0 (walk H 0 0 v p).1 (land H (walk H 0 0 v p).0 (walk H 0 0 v p).1) sh q.0 q.1 sh'; pair = q })
  moved_all sh dat kid sh' is grows r₁ r₂ q N o e small =
      let start : Memory = Hc H (counts r) v p c sh dat kid is sh' grows q.0 q.1 (counts r₁) o in
      let more : rows sh ≤ rows sh' = more_rows H (counts r) v p c sh dat kid is sh' grows q.0 q.1 (counts r₁) o in
      let done =
      got_at (P H v p sh o.l sh' kid (more_rows H (counts r) v p c sh dat kid is sh' grows q.0 q.1 (counts r₁) o) grows.more_pointers start (counts r₁) (rows sh) 0)
      (moves (land H g w) sh o.l.seg o.l.pos sh' r₁ start) r₂ N
      (all_move H v p sh o.l sh' kid (more_rows H (counts r) v p c sh dat kid is sh' grows q.0 q.1 (counts r₁) o) grows.more_pointers start (counts r₁)
      (λ i j hi hj. slots_null H (counts r) v p c sh dat kid is sh' grows q.0 q.1 (counts r₁) o i j (omega (arith, more)) (omega (arith, grows.more_pointers)))
      (λ i j hi hj. slots_inside H (counts r) v p c sh dat kid is sh' grows q.0 q.1 (counts r₁) o i j (omega (arith, more)) (omega (arith, grows.more_pointers)))
      r₁ start
      (λ _. begins H (counts r) v p c sh dat kid is sh' grows q.0 q.1 (counts r₁) o r₁ (λ y. refl)))
      e small in
      λ _. (
        turn_larger H (counts r) v p c sh dat kid is sh' grows q.0 q.1 (counts r₁) o r₂ N done,
        spot_pair g w q sh' (counts r) (counts r₁) o (land (closed N g w (land H g w) sh q.0 q.1 sh') g w)
            (larger_leads H (counts r) v p c sh dat kid is sh' grows q.0 q.1 (counts r₁) o r₂ N done),
      )

  turn_rebuild : (sh : Shape) (dat : ℕ → ℕ → ℕ) (kid : ℕ → ℕ → Value) (sh' : Shape) → value_at v p ≡ object sh dat kid → Grows sh sh' → Describable sh' →
      Got (Turns (rebuild sh') (object sh dat kid)) (rebuilds H (walk H 0 0 v p).0 (walk H 0 0 v p).1 (land H (walk H 0 0 v p).0 (walk H 0 0 v p).1) (object sh dat kid) sh' r)
  turn_rebuild sh dat kid sh' is grows d =
      let old : Landing = land H g w in
      got_by (Turns (rebuild sh') (object sh dat kid)) (rebuilds H g w (land H g w) (object sh dat kid) sh' r)
      (λ r₂ x e small.
      let (r₁, q, e₁, f₁) = then_got (place_shape r g w sh') _ r₂ x e in
      let start : Memory = copied H old sh q.0 q.1 sh' (opened H g q.0 q.1 sh') in
      let (r₃, N, e₂, f₂) = then_got (moves old sh q.0 q.1 sh' r₁ start) _ r₂ x f₁ in
      let same_room : r₃ ≡ r₂ = cc in
      let is_x : record { words = closed N g w old sh q.0 q.1 sh'; pair = q } ≡ x = cc in
      let e₃ : moves old sh q.0 q.1 sh' r₁ start ≡ got r₂ N = subst (λ z. moves old sh q.0 q.1 sh' r₁ start ≡ got z N) same_room e₂ in
      let later : Later r₁ r₂ = got_later r₁ r₂ (moves old sh q.0 q.1 sh' r₁ start) N (after_moves old sh q.0 q.1 sh' r₁ start) e₃ in
      let small₁ : Small r₁ = λ y. omega (arith, later.grown y, small y) in
      let o : Spot g w q.0 q.1 sh' (counts r) (counts r₁) = got_at (AtSpot r g w sh') (place_shape r g w sh') r₁ q (at_spots sh' d) e₁ small₁ in
      subst (λ z. Turns (rebuild sh') (object sh dat kid) r₂ z) is_x (moved_all sh dat kid sh' is grows r₁ r₂ q N o (moves_there old sh q sh' r₁ r₂ start N o.l o.seg_is o.pos_is e₃) small) small)

  pub turns : (m : Making) (u : Value) → value_at v p ≡ u → FitsMaking m u →
      Got (Turns m u) (makes H (walk H 0 0 v p).0 (walk H 0 0 v p).1 u m r)
  turns keep u is fit = got_here (Turns keep u) r _ (λ _. (turn_keep u is, refl))
  turns wipe u is fit =
      got_here (Turns wipe u) r _
      (λ _. (subst (λ z. Turned H (wiped H g w z) (counts r) v p null) is (turn_null H (counts r) v p c (wiped H g w (value_at v p)) (wiped_cleared H g w (value_at v p))), tt))
  turns (set i k x) null is fit = absurd fit
  turns (set i k x) (object sh dat kid) is fit =
      got_here (Turns (set i k x) (object sh dat kid)) r _
      (λ _. (turn_number H (counts r) v p c sh dat kid is i k x fit.0 fit.1 fit.2 fit.3, tt))
  turns (new sh) u is fit =
      got_then (AtSpot r g w sh) (Turns (new sh) u) (place_shape r g w sh) _ (at_spots sh fit)
      (λ r' q h.
      got_here (Turns (new sh) u) r' _
      (λ small.
      let o : Spot g w q.0 q.1 sh (counts r) (counts r') = h small in (
        subst (λ z. Turned H (placed H g w z q.0 q.1 sh) (counts r') v p (blank sh)) is (turn_new H (counts r) v p c (counts r') q.0 q.1 sh o),
        spot_pair g w q sh (counts r) (counts r') o _
            (subst (λ z. land (placed H g w z q.0 q.1 sh) g w ≡ o.l) is (new_leads H (counts r) v p c (counts r') q.0 q.1 sh o)),
      )))
  turns (spell bytes) u is fit =
      got_then (AtSpot r g w (text_shape bytes)) (Turns (spell bytes) u) (place_shape r g w (text_shape bytes)) _ (at_spots (text_shape bytes) tt)
      (λ r' q h.
      got_here (Turns (spell bytes) u) r' _
      (λ small. (
        subst
            (λ z. Turned H (spelled (placed H g w z q.0 q.1 (text_shape bytes)) q.0 q.1 bytes) (counts r') v p (object (text_shape bytes) (letters bytes) (λ i j. null)))
            is
            (turn_text H (counts r) v p c (counts r') q.0 q.1 bytes (h small) fit),
        tt,
      )))
  turns (rebuild sh') null is fit = absurd fit
  turns (rebuild sh') (object sh dat kid) is fit = turn_rebuild sh dat kid sh' is fit.0 fit.1
