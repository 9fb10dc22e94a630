-- What a move of children and numbers asks for holds of an object that a slot shows at the mark, once a larger object is placed.
use Rattle.std.proofs.Common.{◌≡◌, ℕ, ◌+◌, ◌^◌, ◌<◌, ◌≤◌, sym, refl, ap, subst, arith}
use Rattle.wire.specs.Pointers.{pointer_target}
use Rattle.tree.specs.Value.{Shape, structure, plain, composite, Value, null, object, size, slot}
use Rattle.tree.specs.Shows.{Memory, Landing, land, Shows}
use Rattle.tree.specs.Numbers.{place_bits}
use Rattle.tree.proofs.Shapes.{slot_in}
use Rattle.tree.proofs.Numbers.{place_word_in}
use Rattle.tree.proofs.Roads.{land_direct}
use Rattle.table.specs.Segments.{Table, allocated_in}
use Rattle.table.specs.Meaning.{table_of}
use Rattle.table.specs.declared.SegmentTable.{SegmentTable}
use Rattle.law.specs.Law.{State, memory}
use Rattle.law.proofs.Rebuilds.{Rowed, Grows}
use Rattle.effects.specs.States.{Prepared}
use Rattle.effects.specs.Makes.{Slot}
use Rattle.effects.proofs.Writing.{within_capacity}
use Rattle.widen.specs.Moves.{Aimed, Carries}
use Rattle.widen.specs.Numbers.{Copies}

-- a slot that shows a value leads to a word that a segment may have
pub shown_aimed : (H : Memory) (a : ℕ → ℕ) (g w : ℕ) (u : Value) → ((x : ℕ) → a x < 2 ^ 29) → Shows H a g w u → Aimed H g w
shown_aimed H a g w null small h = λ n k. absurd (n h)
shown_aimed H a g w (object sh dat kid) small h = λ n k.
    let e = land_direct H g w (H g w) (pointer_target w (H g w)) refl k refl in
    let at : (land H g w).pos ≡ pointer_target w (H g w) = ap (λ (l : Landing). l.pos) e in
    omega (arith, h.1.inside, small (land H g w).seg)

-- data words have bits
rowed_bits : (sh : Shape) → Rowed sh → 1 ≤ place_bits sh
rowed_bits (structure dw pw) r = omega arith
rowed_bits (plain c n) r = absurd r
rowed_bits (composite n dw pw) r = omega arith

-- The slot (g, w) shows the object at the mark; since then words were prepared, from word t of segment s on enough for the larger shape.
module _ (mark b : State) (table : SegmentTable) (g w : ℕ) (sh : Shape) (dat : ℕ → ℕ → ℕ) (kid : ℕ → ℕ → Value) (s t : ℕ) (sh' : Shape)
    (is_table : mark.table ≡ table_of table) (slot_shown : Slot mark g w (object sh dat kid)) (grows : Grows sh sh') (prepared : Prepared mark b)
    (new : allocated_in mark.table s ≤ t) (inside : t + size sh' ≤ allocated_in b.table s) where
  abbrev old : Landing
  old = land (memory mark) g w

  small : (x : ℕ) → allocated_in mark.table x < 2 ^ 29
  small x = subst (λ (k : Table). allocated_in k x < 2 ^ 29) (sym is_table) (within_capacity table x).1

  pub can_carry : Carries mark b (land (memory mark) g w) sh s t sh'
  can_carry = record {
    prepared = prepared;
    from = λ i j hi hj. omega (arith, slot_in sh i j hi hj, slot_shown.shown.1.inside);
    aimed = λ i j hi hj. shown_aimed (memory mark) (allocated_in mark.table) old.seg (old.pos + slot sh i j) (kid i j) small (slot_shown.shown.2 i j hi hj);
    to = λ i j hi hj. omega (arith, inside, slot_in sh' i j (omega (arith, grows.rows_same)) (omega (arith, grows.more_pointers)));
    new = new;
  }

  pub can_copy : Copies mark b (land (memory mark) g w) sh s t sh'
  can_copy = record {
    prepared = prepared;
    from = λ bits i k hi hk. omega (arith, place_word_in sh i k hi hk (omega arith), slot_shown.shown.1.inside);
    to = λ i k hi hk. omega (arith, inside, place_word_in sh' i k (omega (arith, grows.rows_same)) (omega arith) (rowed_bits sh' grows.rowed));
    new = new;
  }
