-- Children move one after another, and all can be gone back.
use Rattle.std.proofs.Common.{◌≡◌, ℕ, zero, suc, ◌+◌, ◌%◌, ◌^◌, ◌<◌, ◌≤◌, Bool, true, false, cond, eqb, ◌≢◌, ◌⊎◌, [], ◌++◌, Ok, Err, Result, sym, refl, ◌∙◌, subst, inl, inr, ⊎_elim, add-one, arith}
use Rattle.std.proofs.lemmas.Bool.{eq-eqb, ne_eqb, cases_eq}
use Rattle.wire.specs.Pointers.{pointer_kind, pointer_target, single_far, double_far, re_aimed, unaimed}
use Rattle.tree.specs.Value.{Shape, rows, pointers, slot, change}
use Rattle.tree.specs.Shows.{Memory, Landing}
use Rattle.tree.proofs.Context.{change_else}
use Rattle.table.specs.Segments.{Table, allocated_in}
use Rattle.table.specs.Meaning.{table_of}
use Rattle.table.specs.declared.SegmentTable.{SegmentTable}
use Rattle.table.specs.Placing.{Room, Outcome, got, then, each, pad}
use Rattle.table.specs.Laws.{After, Got, Fresh, Padded}
use Rattle.table.proofs.Allocations.{after_each, fresh_pad}
use Rattle.arena.specs.declared.NoSpace.{NoSpace}
use Rattle.law.specs.Law.{Source, State, memory}
use Rattle.law.specs.Exact.{near_pointer, bridged, moved}
use Rattle.law.proofs.Inits.{got_here}
use Rattle.law.proofs.Children.{got_then}
use Rattle.law.proofs.Moving.{got_at}
use Rattle.law.proofs.Rooms.{after_moved}
use Rattle.walk.specs.declared.spot.Spot.{Spot}
use Rattle.walk.specs.Spots.{spot_at}
use Rattle.effects.specs.States.{Prepared}
use Rattle.effects.specs.Parts.{Went, Failed}
use Rattle.effects.proofs.Writing.{within_capacity}
use Rattle.effects.proofs.Keeping.{went_sized, went_grown}
use Rattle.effects.proofs.Allocations.{rests}
use Rattle.effects.proofs.Joins.{room_of, joins, fails_first, fails_later}
use Rattle.widen.specs.Moves.{Aimed, Movable, Moved, Carries, Turned, child_moves, row_moves}

-- ## One step after another

module _ {X A : Type 0} (S : Source X) (f : ℕ → Room → A → Outcome A) (a : A) (s : State) where
  pub each_more : (n : ℕ) (t u : State) (b c : A) → Went S (λ r. each n f r a) s b t → Went S (λ r. f n r b) t c u → Went S (λ r. each (n + 1) f r a) s c u
  each_more n t u b c p q =
      rw (add-one n) (joins S (λ r. each n f r a) (f n) s t u b c p q)

  fails_after : (n k : ℕ) (t : State) (m : ℕ) → n < k → Failed S (λ r. each (suc n) f r a) s m t → Failed S (λ r. each k f r a) s m t
  fails_after n zero t m l p = absurd (omega arith)
  fails_after n (suc k) t m l p =
      ⊎_elim
      (λ (e : n ≡ k). subst (λ (i : ℕ). Failed S (λ r. each (suc i) f r a) s m t) e p)
      (λ (d : n ≢ k). fails_first S (λ r. each k f r a) (f k) s t m (fails_after n k t m (omega arith) p))
      (cases_eq n k)

  pub each_fails : (n k : ℕ) (t u : State) (b : A) (m : ℕ) → n < k → Went S (λ r. each n f r a) s b t → Failed S (λ r. f n r b) t m u →
      Failed S (λ r. each k f r a) s m u
  each_fails n k t u b m l p q = fails_after n k u m l (fails_later S (λ r. each n f r a) (f n) s t u b m p q)

-- ## What a move leaves

-- words that were allocated, and those that still are not, stay, but for the slot (s, q)
abbrev Stays : Room → Memory → (s q : ℕ) → Room → Memory → Type 0
Stays r H s q r' N = (x y : ℕ) → (y < allocated_in r.table x) ⊎ (allocated_in r'.table x ≤ y) → (x ≡ s → y ≡ q → ⊥) → N x y ≡ H x y

fresh_not : (r r' : Room) (k p n i x y : ℕ) → Fresh r r' k p n → i < n → (y < allocated_in r.table x) ⊎ (allocated_in r'.table x ≤ y) → x ≡ k → y ≡ p + i → ⊥
fresh_not r r' k p n i x y f l (inl h) e g = omega (arith, f.unused, subst (λ (z : ℕ). y < allocated_in r.table z) e h)
fresh_not r r' k p n i x y f l (inr h) e g = omega (arith, f.inside, subst (λ (z : ℕ). allocated_in r'.table z ≤ y) e h)

module _ (H : Memory) (r : Room) (g w x s q : ℕ) where
  bridge_stays : (r' : Room) (k : ℕ × ℕ) → Padded r g r' k → Stays r H s q r' (bridged H g w x s q k.0 k.1)
  bridge_stays r' k (inl h) a b o n =
      let M : Memory = change H g k.1 (re_aimed x k.1 (pointer_target w x)) in
      let z : k.1 + 0 ≡ k.1 = omega arith in
      rw (h.0, eq-eqb g g refl)
      (change_else M s q (single_far g k.1) a b n ∙
      change_else H g k.1 (re_aimed x k.1 (pointer_target w x)) a b (λ e f. fresh_not r r' g k.1 1 0 a b h.1 (omega arith) o e (f ∙ sym z)))
  bridge_stays r' k (inr h) a b o n =
      let M : Memory = change H k.0 k.1 (single_far g (pointer_target w x)) in
      let L : Memory = change M k.0 (k.1 + 1) (unaimed x) in
      let z : k.1 + 0 ≡ k.1 = omega arith in
      rw (ne_eqb k.0 g h.0)
      (change_else L s q (double_far k.0 k.1) a b n ∙
      (change_else M k.0 (k.1 + 1) (unaimed x) a b (λ e f. fresh_not r r' k.0 k.1 2 1 a b h.1 (omega arith) o e f) ∙
      change_else H k.0 k.1 (single_far g (pointer_target w x)) a b (λ e f. fresh_not r r' k.0 k.1 2 0 a b h.1 (omega arith) o e (f ∙ sym z))))

  pub over_stays : 1 ≤ allocated_in r.table g → Got (Stays r H s q) (then (pad r g) (λ r' p. got r' (bridged H g w x s q p.0 p.1)))
  over_stays one =
      got_then (Padded r g) (Stays r H s q) (pad r g) _ (fresh_pad r g one) (λ r' k h. got_here (Stays r H s q) r' _ (bridge_stays r' k h))

got_cond : {A : Type 0} (P : Room → A → Type 0) (b : Bool) (o p : Outcome A) → Got P o → Got P p → Got P (cond b o p)
got_cond P true o p h k = h
got_cond P false o p h k = k

pub moved_stays : (H : Memory) (r : Room) (g w s q : ℕ) → 1 ≤ allocated_in r.table g → Got (Stays r H s q) (moved g w s q r H)
unfolding moved
moved_stays H r g w s q one =
    got_cond (Stays r H s q) (eqb (H g w) 0) _ _ (got_here (Stays r H s q) r H (λ a b _ _. refl))
    (got_cond (Stays r H s q) (eqb (pointer_kind (H g w)) 2) _ _ (got_here (Stays r H s q) r _ (λ a b _ n. change_else H s q (H g w) a b n))
    (got_cond (Stays r H s q) (eqb s g) _ _ (got_here (Stays r H s q) r _ (λ a b _ n. change_else H s q (near_pointer (H g w) w q) a b n))
    (over_stays H r g w (H g w) s q one)))

-- ## Since the mark

module _ {X : Type 0} (S : Source X) (mark b e : State) (g w s q : ℕ) (prepared : Prepared mark b) where
  pub moved_prepared : 1 ≤ allocated_in b.table g → q < allocated_in b.table s → allocated_in mark.table s ≤ q →
      Went S (λ r. moved g w s q r (memory b)) b (memory e) e → Prepared mark e
  moved_prepared one inside new h =
      let r : Room = room_of b.table (h.met ++ []) [] in
      let stays : Stays r (memory b) s q (room_of e.table [] h.asked) (memory e) =
      got_at (Stays r (memory b) s q) (moved g w s q r (memory b)) (room_of e.table [] h.asked) (memory e) (moved_stays (memory b) r g w s q one) (h.rule [] []) in
      let grown = went_grown S (λ r. moved g w s q r (memory b)) b e (memory e) h (λ r. after_moved g w s q r (memory b)) in
      record {
        kept = λ x y l.
            stays x y (inl (omega (arith, prepared.grown x))) (λ d f. omega (arith, f, subst (λ (z : ℕ). y < allocated_in mark.table z) d l)) ∙
            prepared.kept x y l;
        clean = λ x y l.
            stays x y (inr l) (λ d f. omega (arith, f, grown s, subst (λ (z : ℕ). allocated_in e.table z ≤ y) d l)) ∙
            prepared.clean x y (omega (arith, grown x));
        grown = λ x. omega (arith, prepared.grown x, grown x);
        sized = went_sized S (λ r. moved g w s q r (memory b)) b e (memory e) h prepared.sized;
      }

-- ## A child of an object

-- what can be carried at b can be carried later
pub carries_on : (mark b n : State) (l : Landing) (sh : Shape) (s t : ℕ) (sh' : Shape) → Carries mark b l sh s t sh' → Prepared mark n →
    ((x : ℕ) → allocated_in b.table x ≤ allocated_in n.table x) → Carries mark n l sh s t sh'
carries_on mark b n l sh s t sh' c p grown = record {
  prepared = p;
  from = c.from;
  aimed = c.aimed;
  to = λ i j hi hj. omega (arith, c.to i j hi hj, grown s);
  new = c.new;
}

module _ (mark n : State) (l : Landing) (sh : Shape) (s t : ℕ) (sh' : Shape) (i j w q : ℕ)
    (c : Carries mark n l sh s t sh') (hi : i < rows sh) (hj : j < pointers sh)
    (small : (x : ℕ) → allocated_in n.table x < 2 ^ 29)
    (at_w : w ≡ (l.pos + slot sh i j) % 2 ^ 64) (at_q : q ≡ (t + slot sh' i j) % 2 ^ 64) where
  w_is : w ≡ l.pos + slot sh i j
  w_is = omega (arith, c.from i j hi hj, c.prepared.grown l.seg, small l.seg)

  q_is : q ≡ t + slot sh' i j
  q_is = omega (arith, c.to i j hi hj, small s)

  old_kept : memory n l.seg (l.pos + slot sh i j) ≡ memory mark l.seg (l.pos + slot sh i j)
  old_kept = c.prepared.kept l.seg (l.pos + slot sh i j) (c.from i j hi hj)

  aimed_now : Aimed (memory n) l.seg (l.pos + slot sh i j)
  aimed_now =
      rw old_kept (c.aimed i j hi hj)

  pub movable : Movable n l.seg w s q
  movable =
      rw (w_is, q_is)
      (record {
        sized = c.prepared.sized;
        from = omega (arith, c.from i j hi hj, c.prepared.grown l.seg);
        to = c.to i j hi hj;
        aimed = aimed_now;
      })

  child_prepared : {X : Type 0} (S : Source X) (e : State) → Went S (λ r. child_moves l sh s t sh' i j r (memory n)) n (memory e) e → Prepared mark e
  child_prepared S e h =
      moved_prepared S mark n e l.seg (l.pos + slot sh i j) s (t + slot sh' i j) c.prepared
      (omega (arith, c.from i j hi hj, c.prepared.grown l.seg))
      (c.to i j hi hj)
      (omega (arith, c.new))
      h

  pub child_turned : {X A E : Type 0} (S : Source X) (e : State) (r : Result A (NoSpace E)) → Moved S l.seg w s q n r e → Turned S mark (child_moves l sh s t sh' i j) n r e
  child_turned S e (Ok x) h =
      let k : Went S (λ r. child_moves l sh s t sh' i j r (memory n)) n (memory e) e =
      subst (λ (v : ℕ). Went S (λ r. moved l.seg (l.pos + slot sh i j) s v r (memory n)) n (memory e) e) q_is
      (subst (λ (v : ℕ). Went S (λ r. moved l.seg v s q r (memory n)) n (memory e) e) w_is h) in
      (k, child_prepared S e k)
  child_turned S e (Err y) h = (
    subst (λ (v : ℕ). Failed S (λ r. moved l.seg (l.pos + slot sh i j) s v r (memory n)) n y.minimum e) q_is
        (subst (λ (v : ℕ). Failed S (λ r. moved l.seg v s q r (memory n)) n y.minimum e) w_is h.0),
    subst (λ (v : State). Prepared mark v) (sym h.2) c.prepared,
  )

-- ## The first k of them

-- the state n is reached from b, where the first k of the steps f were made
abbrev pub Reached : {X : Type 0} → Source X → (mark : State) → (ℕ → Room → Memory → Outcome Memory) → (k : ℕ) → (b n : State) → Type 0
Reached S mark f k b n = Went S (λ r. each k f r (memory b)) b (memory n) n × Prepared mark n

module _ {X : Type 0} (S : Source X) (mark : State) (f : ℕ → Room → Memory → Outcome Memory) (b : State) where
  pub reached_none : Prepared mark b → Reached S mark f 0 b b
  reached_none p = (rests S b (memory b), p)

  pub reached_more : (k : ℕ) (n e : State) → Reached S mark f k b n → Went S (λ r. f k r (memory n)) n (memory e) e × Prepared mark e → Reached S mark f (k + 1) b e
  reached_more k n e p q = (each_more S f (memory b) b k n e (memory n) (memory e) p.0 q.0, q.1)

  pub reached_fails : (k m : ℕ) (n e : State) (y : ℕ) → k < m → Reached S mark f k b n → Failed S (λ r. f k r (memory n)) n y e × Prepared mark e →
      Failed S (λ r. each m f r (memory b)) b y e × Prepared mark e
  reached_fails k m n e y l p q = (each_fails S f (memory b) b k m n e (memory n) y l p.0 q.0, q.1)

  pub reached_grown : ((i : ℕ) (r : Room) (H : Memory) → After r (f i r H)) → (k : ℕ) (n : State) → Reached S mark f k b n →
      (x : ℕ) → allocated_in b.table x ≤ allocated_in n.table x
  reached_grown after k n p =
      went_grown S (λ r. each k f r (memory b)) b n (memory n) p.0 (λ r. after_each k f r (memory b) after)

pub after_child : (l : Landing) (sh : Shape) (s t : ℕ) (sh' : Shape) (i j : ℕ) (r : Room) (H : Memory) → After r (child_moves l sh s t sh' i j r H)
after_child l sh s t sh' i j r H = after_moved l.seg (l.pos + slot sh i j) s (t + slot sh' i j) r H

pub after_row : (l : Landing) (sh : Shape) (s t : ℕ) (sh' : Shape) (i : ℕ) (r : Room) (H : Memory) → After r (row_moves l sh s t sh' i r H)
after_row l sh s t sh' i r H = after_each (pointers sh) (child_moves l sh s t sh' i) r H (after_child l sh s t sh' i)

-- the next child of row i
pub next_child : {X A E : Type 0} (S : Source X) (mark b n e : State) (u : SegmentTable) (l : Landing) (sh : Shape) (s t : ℕ) (sh' : Shape) (i j : ℕ) (from to : Spot) →
    n.table ≡ table_of u → Carries mark b l sh s t sh' → Reached S mark (child_moves l sh s t sh' i) j b n → i < rows sh → j < pointers sh →
    from ≡ spot_at l.seg ((l.pos + slot sh i j) % 2 ^ 64) → to ≡ spot_at s ((t + slot sh' i j) % 2 ^ 64) → (r : Result A (NoSpace E)) →
    (Movable n from.segment from.word to.segment to.word → Moved S from.segment from.word to.segment to.word n r e) →
    Turned S mark (child_moves l sh s t sh' i j) n r e
next_child S mark b n e u l sh s t sh' i j from to at_u c p hi hj at_from at_to r h =
    let w : ℕ = (l.pos + slot sh i j) % 2 ^ 64 in
    let q : ℕ = (t + slot sh' i j) % 2 ^ 64 in
    let c' : Carries mark n l sh s t sh' =
    carries_on mark b n l sh s t sh' c p.1 (reached_grown S mark (child_moves l sh s t sh' i) b (after_child l sh s t sh' i) j n p) in
    let small : (x : ℕ) → allocated_in n.table x < 2 ^ 29 =
    λ x. subst (λ (k : Table). allocated_in k x < 2 ^ 29) (sym at_u) (within_capacity u x).1 in
    let h' : Movable n l.seg w s q → Moved S l.seg w s q n r e =
    subst (λ (z : Spot). Movable n l.seg w z.segment z.word → Moved S l.seg w z.segment z.word n r e) at_to
    (subst (λ (z : Spot). Movable n z.segment z.word to.segment to.word → Moved S z.segment z.word to.segment to.word n r e) at_from h) in
    child_turned mark n l sh s t sh' i j w q c' hi hj small refl refl S e r (h' (movable mark n l sh s t sh' i j w q c' hi hj small refl refl))

-- the next row
pub next_row : {X A E : Type 0} (S : Source X) (mark b n e : State) (l : Landing) (sh : Shape) (s t : ℕ) (sh' : Shape) (i : ℕ) →
    Carries mark b l sh s t sh' → Reached S mark (row_moves l sh s t sh') i b n → (r : Result A (NoSpace E)) →
    (Carries mark n l sh s t sh' → Turned S mark (row_moves l sh s t sh' i) n r e) → Turned S mark (row_moves l sh s t sh' i) n r e
next_row S mark b n e l sh s t sh' i c p r h =
    h (carries_on mark b n l sh s t sh' c p.1 (reached_grown S mark (row_moves l sh s t sh') b (after_row l sh s t sh') i n p))
