-- The mark of which the steps of a rebuild speak: the state before it. An empty struct takes no new words, and nothing moves into it: for
-- that, a mark at which nothing is allocated.
use Rattle.std.proofs.Common.{◌≡◌, ℕ, zero, suc, ◌+◌, ◌<◌, ◌≤◌, Bool, true, false, ◌≢◌, [], ◌++◌, sym, refl, ap, ◌∙◌, subst, inl, inr, ⊎_elim, arith}
use Rattle.std.proofs.lemmas.Bool.{cond-false, eqb-true}
use Rattle.tree.specs.Value.{Shape, structure, plain, composite, Value, object, rows, pointers, places, size}
use Rattle.tree.specs.Shows.{Memory, Landing, land}
use Rattle.tree.specs.Decode.{shape_at}
use Rattle.tree.specs.Numbers.{place_bits}
use Rattle.table.specs.Segments.{Table, allocated_in}
use Rattle.table.specs.Placing.{Room, Outcome, got, then, each, place}
use Rattle.table.specs.Laws.{Placed}
use Rattle.table.specs.Meaning.{table_of}
use Rattle.table.specs.declared.SegmentTable.{SegmentTable}
use Rattle.table.proofs.Allocations.{fresh_place}
use Rattle.law.specs.Machine.{too_large, rebuild}
use Rattle.law.specs.Exact.{no_words, place_shape, opened, copied, moves, closed, makes}
use Rattle.law.specs.Law.{Source, State, memory}
use Rattle.law.proofs.Moving.{got_at}
use Rattle.law.proofs.Rooms.{after_shape}
use Rattle.objects.specs.Rooms.{RoomThere}
use Rattle.effects.specs.States.{Rewritten, Prepared}
use Rattle.effects.specs.Parts.{Went, Failed}
use Rattle.effects.specs.Makes.{Slot}
use Rattle.effects.proofs.Joins.{room_of}
use Rattle.effects.proofs.Keeping.{prepared_went, prepared_none}
use Rattle.widen.specs.Moves.{Carries, row_moves, child_moves}
use Rattle.widen.specs.Numbers.{Copies, Put}
use Rattle.widen.proofs.Premises.{can_carry, can_copy}
use Rattle.rebuilding.specs.Growth.{Larger}
use Rattle.rebuilding.specs.Steps.{Opens, Closes}
use Rattle.rebuilding.proofs.Growth.{larger_grows}
use Rattle.rebuilding.proofs.Rebuilding.{as_object, filled_since, rebuild_fails, rebuilt}

-- an empty struct has nothing
empty_parts : (sh : Shape) → no_words sh ≡ true → (pointers sh ≡ 0) × (places sh ≡ 0)
empty_parts (structure dw pw) e = let z = eqb-true (dw + pw) 0 e in (omega arith, omega arith)
empty_parts (plain c n) e = let z : ◌≡◌ {A = ℕ} 0 1 = cc in absurd (omega arith)
empty_parts (composite n dw pw) e = let z : ◌≡◌ {A = ℕ} 0 1 = cc in absurd (omega arith)

each_none : {A : Type 0} (n : ℕ) (f : ℕ → Room → A → Outcome A) → ((i : ℕ) (r : Room) (a : A) → f i r a ≡ got r a) → (r : Room) (a : A) → each n f r a ≡ got r a
each_none zero f h r a = refl
each_none (suc n) f h r a = ap (λ o. then o (f n)) (each_none n f h r a) ∙ h n r a

-- without pointers nothing moves
moves_none : (l : Landing) (sh : Shape) (s t : ℕ) (sh' : Shape) → pointers sh ≡ 0 → (r : Room) (H : Memory) → moves l sh s t sh' r H ≡ got r H
moves_none l sh s t sh' none r H =
    each_none (rows sh) (row_moves l sh s t sh') (λ i k M. ap (λ (n : ℕ). each n (child_moves l sh s t sh' i) k M) none) r H

-- e is the state before, b has the room
module _ {X : Type 0} (S : Source X) (e b : State) (table : SegmentTable) (g w s t : ℕ) (l : Landing) (sh sh' : Shape) (dat : ℕ → ℕ → ℕ) (kid : ℕ → ℕ → Value)
    (is_table : e.table ≡ table_of table) (slot : Slot e g w (object sh dat kid)) (lands : l ≡ land (memory e) g w) (larger : Larger sh sh')
    (fits : too_large sh' ≡ false) (placed : Went S (λ k. place_shape k g w sh') e (s, t) b × (memory b ≡ memory e)) (room : RoomThere b.table g s t sh') where
  prepared : Prepared e b
  prepared =
      prepared_went S (λ k. place_shape k g w sh') e b (s, t) placed.0 (λ r. after_shape r g w sh') e placed.1 (prepared_none e slot.sized slot.clean)

  -- ## An object that takes words

  module _ (takes : no_words sh' ≡ false) where
    abbrev start : Room
    start = room_of e.table (placed.0.met ++ []) []

    at_place : Placed start g (size sh') (room_of b.table [] ([] ++ placed.0.asked)) (s, t)
    at_place =
        got_at (Placed start g (size sh')) (place start g (size sh')) (room_of b.table [] ([] ++ placed.0.asked)) (s, t)
        (fresh_place start g (size sh') (omega (arith, slot.inside)))
        (sym (cond-false (no_words sh') (got start (g, w)) (place start g (size sh')) takes) ∙ placed.0.rule [] [])

    new_words : (allocated_in e.table s ≤ t) × ((s ≡ g → ⊥) → allocated_in e.table s < t)
    new_words = by at_place
      where
        by : Placed start g (size sh') (room_of b.table [] ([] ++ placed.0.asked)) (s, t) → (allocated_in e.table s ≤ t) × ((s ≡ g → ⊥) → allocated_in e.table s < t)
        by (inl k) = (subst (λ (z : ℕ). allocated_in e.table z ≤ t) (sym k.0) k.1.unused, λ n. absurd (n k.0))
        by (inr k) = let q = k.1.1 in let u = k.1.2.unused in (omega arith, λ _. omega arith)

    pub opens_new : Opens e b g l sh s t sh'
    opens_new = record {
      copies = subst (λ (z : Landing). Copies e b z sh s t sh') (sym lands)
          (can_copy e b table g w sh dat kid s t sh' is_table slot (larger_grows sh sh' larger) prepared new_words.0 room.object_inside);
      same_words = placed.1;
      room = room;
      new_pad = new_words.1;
      fits = fits;
    }

    pub carries_new : (m : State) → Rewritten b m → Prepared e m → Carries e m l sh s t sh'
    carries_new m r p =
        subst (λ (z : Landing). Carries e m z sh s t sh') (sym lands)
        (can_carry e m table g w sh dat kid s t sh' is_table slot (larger_grows sh sh' larger) p new_words.0
        (subst (λ (z : Table). t + size sh' ≤ allocated_in z s) (sym r.same_table) room.object_inside))

  -- ## An empty struct

  abbrev pub blank : State
  blank = record { source = e.source; table = [] }

  module _ (empty : no_words sh' ≡ true) where
    pub no_pointers : pointers sh ≡ 0
    no_pointers = omega (arith, larger.more_pointers, (empty_parts sh' empty).0)

    no_places : (k : ℕ) → 0 < place_bits sh → k < places sh → ⊥
    no_places k bits h =
        ⊎_elim
        (λ (f : places sh ≤ places sh'). omega (arith, (empty_parts sh' empty).1))
        (λ (f : place_bits sh ≡ 0). omega arith)
        larger.more_places

    pub opens_empty : Opens blank b g l sh s t sh'
    opens_empty = record {
      copies = record {
        prepared = record { kept = λ x y h. absurd (omega arith); clean = prepared.clean; grown = λ x. omega arith; sized = prepared.sized };
        from = λ bits i k hi hk. absurd (no_places k bits hk);
        to = λ i k hi hk. absurd (omega (arith, (empty_parts sh' empty).1));
        new = omega arith;
      };
      same_words = placed.1;
      room = room;
      new_pad = λ n. omega (arith, room.pad_inside n);
      fits = fits;
    }

    pub carries_empty : (m : State) → Prepared blank m → Carries blank m l sh s t sh'
    carries_empty m p = record {
      prepared = p;
      from = λ i j hi hj. absurd (omega (arith, no_pointers));
      aimed = λ i j hi hj. absurd (omega (arith, no_pointers));
      to = λ i j hi hj. absurd (omega (arith, no_pointers));
      new = omega arith;
    }

    pub never_fails : (m n : State) (k : ℕ) → Failed S (λ r. moves l sh s t sh' r (memory m)) m k n → ⊥
    never_fails m n k f =
        let i = moves_none l sh s t sh' no_pointers (room_of m.table f.met []) (memory m) in
        let j = f.rule [] in
        let z : ◌≡◌ {A = ℕ} 0 1 = cc (i, j) in
        omega arith

-- ## Whatever value the slot shows

module _ {X : Type 0} (S : Source X) (e b m : State) (table : SegmentTable) (g w s t : ℕ) (l : Landing) (sh sh' : Shape) (u : Value)
    (is_table : e.table ≡ table_of table) (slot : Slot e g w u) (live : memory e g w ≢ 0) (lands : l ≡ land (memory e) g w)
    (shaped : sh ≡ shape_at (memory e) (land (memory e) g w)) (larger : Larger sh sh') (fits : too_large sh' ≡ false)
    (placed : Went S (λ k. place_shape k g w sh') e (s, t) b × (memory b ≡ memory e)) (room : RoomThere b.table g s t sh') (written : Rewritten b m)
    (fill : (mark : State) → Opens mark b g l sh s t sh' → Put mark (copied (memory mark) l sh s t sh' (opened (memory mark) g s t sh')) m) where
  module _ (n : State) (k : ℕ) (move : (mark : State) → Carries mark m l sh s t sh' → Failed S (λ r. moves l sh s t sh' r (memory m)) m k n × Prepared mark n) where
    fails_of : (dat : ℕ → ℕ → ℕ) (kid : ℕ → ℕ → Value) → Slot e g w (object sh dat kid) → (x : Bool) → no_words sh' ≡ x →
        Failed S (makes (memory e) g w (object sh dat kid) (rebuild sh')) e k n × Prepared e n
    fails_of dat kid o true empty =
        let open_it = opens_empty S e b table g w s t l sh sh' dat kid is_table o lands larger fits placed room empty in
        let since = filled_since S e b m g w s t l sh sh' dat kid o lands fits placed room written fill _ refl open_it in
        absurd (never_fails S e b table g w s t l sh sh' dat kid is_table o lands larger fits placed room empty m n k
        (move _ (carries_empty S e b table g w s t l sh sh' dat kid is_table o lands larger fits placed room empty m since)).0)
    fails_of dat kid o false takes =
        let open_it = opens_new S e b table g w s t l sh sh' dat kid is_table o lands larger fits placed room takes in
        let since = filled_since S e b m g w s t l sh sh' dat kid o lands fits placed room written fill e refl open_it in
        let h = move e (carries_new S e b table g w s t l sh sh' dat kid is_table o lands larger fits placed room takes m written since) in
        (rebuild_fails S e b m g w s t l sh sh' dat kid o lands fits placed room written fill e refl open_it n k h.0, h.1)

    pub fails_by : Failed S (makes (memory e) g w u (rebuild sh')) e k n × Prepared e n
    fails_by =
        as_object (λ (v : Value). Failed S (makes (memory e) g w v (rebuild sh')) e k n × Prepared e n) e g w u sh slot live shaped
        (λ dat kid o. fails_of dat kid o (no_words sh') refl)

  module _ (n x : State) (move : (mark : State) → Carries mark m l sh s t sh' → Went S (λ r. moves l sh s t sh' r (memory m)) m (memory n) n × Prepared mark n)
      (r : Rewritten n x) (close : Closes n g w l sh s t sh' → memory x ≡ closed (memory n) g w l sh s t sh') where
    went_of : (dat : ℕ → ℕ → ℕ) (kid : ℕ → ℕ → Value) → Slot e g w (object sh dat kid) → (y : Bool) → no_words sh' ≡ y →
        Went S (makes (memory e) g w (object sh dat kid) (rebuild sh')) e (record { words = memory x; pair = (s, t) }) x
    went_of dat kid o true empty =
        let open_it = opens_empty S e b table g w s t l sh sh' dat kid is_table o lands larger fits placed room empty in
        let since = filled_since S e b m g w s t l sh sh' dat kid o lands fits placed room written fill _ refl open_it in
        let h = move _ (carries_empty S e b table g w s t l sh sh' dat kid is_table o lands larger fits placed room empty m since) in
        rebuilt S e b m g w s t l sh sh' dat kid o lands fits placed room written fill _ refl open_it n x h r close
    went_of dat kid o false takes =
        let open_it = opens_new S e b table g w s t l sh sh' dat kid is_table o lands larger fits placed room takes in
        let since = filled_since S e b m g w s t l sh sh' dat kid o lands fits placed room written fill e refl open_it in
        let h = move e (carries_new S e b table g w s t l sh sh' dat kid is_table o lands larger fits placed room takes m written since) in
        rebuilt S e b m g w s t l sh sh' dat kid o lands fits placed room written fill e refl open_it n x h r close

    pub went_by : Went S (makes (memory e) g w u (rebuild sh')) e (record { words = memory x; pair = (s, t) }) x
    went_by =
        as_object (λ (v : Value). Went S (makes (memory e) g w v (rebuild sh')) e (record { words = memory x; pair = (s, t) }) x) e g w u sh slot live shaped
        (λ dat kid o. went_of dat kid o (no_words sh') refl)
