-- A child moves to another slot: the words are those of the rule.
use Rattle.std.proofs.Common.{◌≡◌, ℕ, ◌+◌, ◌^◌, ◌<◌, ◌≤◌, [], ◌++◌, length, sym, refl, ap, ◌∙◌, subst, ⊎_elim, arith}
use Rattle.std.proofs.lemmas.Bool.{eq-eqb, ne_eqb, cases_lt}
use Rattle.wire.specs.Pointers.{pointer_target, single_far, double_far, re_aimed, unaimed}
use Rattle.tree.specs.Value.{change}
use Rattle.tree.specs.Shows.{Memory}
use Rattle.table.specs.Segments.{Table, allocated_in}
use Rattle.table.specs.Placing.{Room, Outcome, got, then, pad}
use Rattle.table.specs.Laws.{Fresh, Padded}
use Rattle.table.specs.Meaning.{table_of}
use Rattle.table.specs.declared.SegmentTable.{SegmentTable}
use Rattle.table.proofs.Allocations.{fresh_pad, after_pad}
use Rattle.table.proofs.Entries.{allocated_past}
use Rattle.law.specs.Law.{Source, State, memory}
use Rattle.law.specs.Exact.{bridged}
use Rattle.law.proofs.Moving.{got_at}
use Rattle.effects.specs.States.{Sized}
use Rattle.effects.specs.Parts.{Went, Failed}
use Rattle.effects.proofs.Joins.{room_of, joins, rewrites, fails_first}
use Rattle.effects.proofs.Writing.{within_capacity}
use Rattle.effects.proofs.Keeping.{went_sized, went_grown}
use Rattle.effects.proofs.Allocations.{at_most, went_at}
use Rattle.widen.specs.Moves.{Writes}

-- ## Segments that have words

pub there_is : (t : Table) (g w : ℕ) → w < allocated_in t g → g < length t
there_is t g w h =
    ⊎_elim (λ (l : g < length t). l) (λ (l : length t ≤ g). let z = allocated_past t g l in absurd (omega arith)) (cases_lt g (length t))

-- a segment with a word has a small number, and the word too
pub small_pair : (t : SegmentTable) (g w : ℕ) → w < allocated_in (table_of t) g → (g < 64) × (w < 2 ^ 29)
small_pair t g w h = (omega (arith, there_is (table_of t) g w h, at_most t), omega (arith, (within_capacity t g).1))

-- ## Parts

-- words that were written, as a part that allocates nothing
pub writes_went : {X : Type 0} (S : Source X) (b e : State) (N : Memory) → Writes b N e → Went S (λ r. got r N) b (memory e) e
writes_went S b e N w =
    went_at S (λ r. got r (memory e)) (λ r. got r N) b e (λ cs l. ap (λ (M : Memory). got (room_of b.table cs l) M) (sym w.words)) (memory e)
    (rewrites S b e (memory e) w.rewritten)

-- the room that a pad leaves
pub pad_fresh : {X : Type 0} (S : Source X) (b m : State) (g : ℕ) (p : ℕ × ℕ) (h : Went S (λ r. pad r g) b p m) → 1 ≤ allocated_in b.table g →
    Padded (room_of b.table (h.met ++ []) []) g (room_of m.table [] h.asked) p
pad_fresh S b m g p h one =
    got_at (Padded (room_of b.table (h.met ++ []) []) g) (pad (room_of b.table (h.met ++ []) []) g) (room_of m.table [] h.asked) p
    (fresh_pad (room_of b.table (h.met ++ []) []) g one) (h.rule [] [])

-- ## After the pad

-- Where the slots of a move are in the state after the pad in word p of segment k was taken.
pub record Ready (m : State) (g s q k p : ℕ) : Type 0 where
  pub sized : Sized m
  pub slot : q < allocated_in m.table s
  pub few : (g < 2 ^ 32) × (k < 2 ^ 32) × (p < 2 ^ 29)
  pub one : k ≡ g → p < allocated_in m.table g
  pub two : (k ≡ g → ⊥) → p + 1 < allocated_in m.table k

pub pad_ready : {X : Type 0} (S : Source X) (b m : State) (t u : SegmentTable) (g w s q k p : ℕ) → b.table ≡ table_of t → m.table ≡ table_of u →
    Went S (λ r. pad r g) b (k, p) m → Sized b → w < allocated_in b.table g → q < allocated_in b.table s → Ready m g s q k p
pad_ready S b m t u g w s q k p et eu h z hw hq =
    let slot : q < allocated_in m.table s = omega (arith, went_grown S (λ r. pad r g) b m (k, p) h (λ r. after_pad r g) s) in
    let small : (x y : ℕ) → y < allocated_in m.table x → (x < 64) × (y < 2 ^ 29) = λ x y l. small_pair u x y (subst (λ (n : Table). y < allocated_in n x) eu l) in
    let gs = small_pair t g w (subst (λ (n : Table). w < allocated_in n g) et hw) in
    ⊎_elim
    (λ (d : (k ≡ g) × Fresh (room_of b.table (h.met ++ []) []) (room_of m.table [] h.asked) g p 1).
    let l : p < allocated_in m.table g = omega (arith, d.1.inside) in
    let y = small g p l in
    record {
      sized = went_sized S (λ r. pad r g) b m (k, p) h z;
      slot = slot;
      few = (omega (arith, gs.0), omega (arith, gs.0, d.0), y.1);
      one = λ _. l;
      two = λ n. absurd (n d.0);
    })
    (λ (d : (k ≡ g → ⊥) × Fresh (room_of b.table (h.met ++ []) []) (room_of m.table [] h.asked) k p 2).
    let l : p + 1 < allocated_in m.table k = omega (arith, d.1.inside) in
    let y = small k (p + 1) l in
    record {
      sized = went_sized S (λ r. pad r g) b m (k, p) h z;
      slot = slot;
      few = (omega (arith, gs.0), omega (arith, y.0), omega (arith, y.1));
      one = λ e. absurd (d.0 e);
      two = λ _. l;
    })
    (pad_fresh S b m g (k, p) h (omega arith))

-- ## Over a landing pad

abbrev pub over_pad : (H : Memory) (g w x s q : ℕ) → Room → Outcome Memory
over_pad H g w x s q r = then (pad r g) (λ r' p. got r' (bridged H g w x s q p.0 p.1))

module _ {X : Type 0} (S : Source X) (b m e : State) (g w x s q k p : ℕ) (went : Went S (λ r. pad r g) b (k, p) m) (same : memory m ≡ memory b) where
  over_by : Writes m (bridged (memory m) g w x s q k p) e → Went S (over_pad (memory b) g w x s q) b (memory e) e
  over_by h =
      joins S (λ r. pad r g) (λ r' p. got r' (bridged (memory b) g w x s q p.0 p.1)) b m e (k, p) (memory e) went
      (writes_went S m e (bridged (memory b) g w x s q k p) (record { rewritten = h.rewritten; words = h.words ∙ ap (λ (H : Memory). bridged H g w x s q k p) same }))

  pub over_one : k ≡ g → Writes m (change (change (memory m) g p (re_aimed x p (pointer_target w x))) s q (single_far g p)) e →
      Went S (over_pad (memory b) g w x s q) b (memory e) e
  over_one here h =
      over_by
      (record {
        rewritten = h.rewritten;
        words = h.words ∙ sym (rw (here, eq-eqb g g refl) refl);
      })

  pub over_two : (k ≡ g → ⊥) →
      Writes m (change (change (change (memory m) k p (single_far g (pointer_target w x))) k (p + 1) (unaimed x)) s q (double_far k p)) e →
      Went S (over_pad (memory b) g w x s q) b (memory e) e
  over_two there h =
      over_by
      (record {
        rewritten = h.rewritten;
        words = h.words ∙ sym (rw (ne_eqb k g there) refl);
      })

-- no space for a pad
pub over_none : {X : Type 0} (S : Source X) (b e : State) (g w x s q m : ℕ) → Failed S (λ r. pad r g) b 2 e → m ≡ 2 →
    Failed S (over_pad (memory b) g w x s q) b m e
over_none S b e g w x s q m f is =
    rw is (fails_first S (λ r. pad r g) (λ r' p. got r' (bridged (memory b) g w x s q p.0 p.1)) b e 2 f)
