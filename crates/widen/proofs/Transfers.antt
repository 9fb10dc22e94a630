-- A child moves to another slot: by what the word of its slot is.
use Rattle.std.proofs.Common.{◌≡◌, ℕ, ◌^◌, ◌<◌, true, false, eqb, Ok, Err, Result, refl, ap, ◌∙◌}
use Rattle.std.proofs.lemmas.Bool.{eq-eqb, ne_eqb, eqb-false}
use Rattle.wire.specs.Pointers.{pointer_kind, pointer_target}
use Rattle.tree.specs.Value.{change}
use Rattle.tree.specs.Shows.{Memory}
use Rattle.table.specs.Placing.{Room, got}
use Rattle.arena.specs.declared.NoSpace.{NoSpace}
use Rattle.law.specs.Law.{Source, State, memory}
use Rattle.law.specs.Exact.{near_pointer, moved}
use Rattle.effects.specs.Parts.{Went}
use Rattle.effects.proofs.Joins.{room_of}
use Rattle.widen.specs.Moves.{Movable, Moved, Writes, Bridged}
use Rattle.effects.proofs.Allocations.{went_at, failed_at, rests}
use Rattle.widen.proofs.Bridges.{over_pad, writes_went}

-- ## The rule

module _ (H : Memory) (g w s q x : ℕ) (here : x ≡ H g w) (r : Room) where
  ruled_null : eqb x 0 ≡ true → moved g w s q r H ≡ got r H
  unfolding moved
  ruled_null n = rw (← here, n) refl

  ruled_far : eqb x 0 ≡ false → eqb (pointer_kind x) 2 ≡ true → moved g w s q r H ≡ got r (change H s q x)
  unfolding moved
  ruled_far n f = rw (← here, n, f) refl

  ruled_near : eqb x 0 ≡ false → eqb (pointer_kind x) 2 ≡ false → s ≡ g → moved g w s q r H ≡ got r (change H s q (near_pointer x w q))
  unfolding moved
  ruled_near n f e = rw (← here, n, f, eq-eqb s g e) refl

  ruled_over : eqb x 0 ≡ false → eqb (pointer_kind x) 2 ≡ false → (s ≡ g → ⊥) → moved g w s q r H ≡ over_pad H g w x s q r
  unfolding moved
  ruled_over n f e = rw (← here, n, f, ne_eqb s g e) refl

-- ## The code

module _ {X : Type 0} (S : Source X) (b : State) (g w s q x : ℕ) (here : x ≡ memory b g w) where
  pub move_null : eqb x 0 ≡ true → Went S (λ r. moved g w s q r (memory b)) b (memory b) b
  move_null n =
      went_at S (λ r. got r (memory b)) (λ r. moved g w s q r (memory b)) b b (λ cs l. ruled_null (memory b) g w s q x here (room_of b.table cs l) n) (memory b)
      (rests S b (memory b))

  pub move_far : (e : State) → eqb x 0 ≡ false → eqb (pointer_kind x) 2 ≡ true → Writes b (change (memory b) s q x) e →
      Went S (λ r. moved g w s q r (memory b)) b (memory e) e
  move_far e n f h =
      went_at S (λ r. got r (change (memory b) s q x)) (λ r. moved g w s q r (memory b)) b e
      (λ cs l. ruled_far (memory b) g w s q x here (room_of b.table cs l) n f) (memory e) (writes_went S b e _ h)

  pub move_near : (e : State) → eqb x 0 ≡ false → eqb (pointer_kind x) 2 ≡ false → s ≡ g → Writes b (change (memory b) s q (near_pointer x w q)) e →
      Went S (λ r. moved g w s q r (memory b)) b (memory e) e
  move_near e n f k h =
      went_at S (λ r. got r (change (memory b) s q (near_pointer x w q))) (λ r. moved g w s q r (memory b)) b e
      (λ cs l. ruled_near (memory b) g w s q x here (room_of b.table cs l) n f k) (memory e) (writes_went S b e _ h)

  pub aimed_here : Movable b g w s q → eqb x 0 ≡ false → eqb (pointer_kind x) 2 ≡ false → pointer_target w x < 2 ^ 29
  aimed_here m n f =
      rw here (m.aimed (λ z. eqb-false x 0 n (here ∙ z)) (λ z. eqb-false (pointer_kind x) 2 f (ap pointer_kind here ∙ z)))

  pub move_over : {A E : Type 0} (r : Result A (NoSpace E)) (e : State) → eqb x 0 ≡ false → eqb (pointer_kind x) 2 ≡ false → (s ≡ g → ⊥) →
      Bridged S g w x s q b r e → Moved S g w s q b r e
  move_over (Ok a) e n f k h =
      went_at S (over_pad (memory b) g w x s q) (λ r. moved g w s q r (memory b)) b e
      (λ cs l. ruled_over (memory b) g w s q x here (room_of b.table cs l) n f k) (memory e) h
  move_over (Err y) e n f k h = (
    failed_at S (over_pad (memory b) g w x s q) (λ r. moved g w s q r (memory b)) b e
        (λ cs l. ruled_over (memory b) g w s q x here (room_of b.table cs l) n f k)
        y.minimum
        h.0,
    h.1,
    h.2,
  )
