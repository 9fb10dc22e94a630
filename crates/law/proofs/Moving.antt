-- All children of an object move in rising order.
use Rattle.std.proofs.Common.{◌≡◌, ℕ, zero, suc, ◌+◌, ◌<◌, ◌≤◌, true, false, ◌⊎◌, List, sym, refl, ◌∙◌, subst, ⊎_elim, arith}
use Rattle.std.proofs.lemmas.Bool.{cases_lt, true≢false}
use Rattle.tree.specs.Value.{Shape, Value, rows, pointers, slot, Step}
use Rattle.tree.specs.Shows.{Memory, Landing, land, span, Shows, within, reach, walk}
use Rattle.tree.specs.Edits.{fixed, slot_at}
use Rattle.tree.specs.Loops.{before, pick}
use Rattle.tree.proofs.Count.{within_from, totals_term}
use Rattle.tree.proofs.Shapes.{slot_apart}
use Rattle.tree.proofs.Frame.{slot_within}
use Rattle.tree.proofs.Index.{before_row, before_place, not_before_place, before_cases, pick_here}
use Rattle.tree.proofs.Loop.{Moving, moving_next, moving_row}
use Rattle.table.specs.Placing.{Room, Outcome, got, no_space, each}
use Rattle.table.specs.Laws.{Later, Got}
use Rattle.table.proofs.Allocations.{got_later}
use Rattle.law.specs.Exact.{moved, moves}
use Rattle.law.proofs.Inits.{counts, Small, got_here}
use Rattle.law.proofs.Rooms.{after_moved}
use Rattle.law.proofs.Children.{got_then, Transfer, move_child}

-- ## Outcomes by their equations

pub got_by : {A : Type 0} (Q : Room → A → Type 0) (o : Outcome A) → ((r : Room) (a : A) → o ≡ got r a → Q r a) → Got Q o
unfolding Got
got_by Q (got r a) k = k r a refl
got_by Q (no_space r m) k = tt

pub got_at : {A : Type 0} (P : Room → A → Type 0) (o : Outcome A) (r : Room) (a : A) → Got P o → o ≡ got r a → P r a
unfolding Got
got_at P o r a h e = subst (Got P) e h

got_each : {A : Type 0} (P : ℕ → Room → A → Type 0) (n : ℕ) (f : ℕ → Room → A → Outcome A) (r : Room) (a : A) → P 0 r a →
    ((i : ℕ) → i < n → (r' : Room) (b : A) → P i r' b → Got (P (suc i)) (f i r' b)) → Got (P n) (each n f r a)
got_each P zero f r a h k = got_here (P 0) r a h
got_each P (suc n) f r a h k =
    got_then (P n) (P (suc n)) (each n f r a) (f n) (got_each P n f r a h (λ i l. k i (omega arith))) (λ r' b q. k n (omega arith) r' b q)

-- ## The children

-- The object that lies by `land H₀ ..` in the shape sh moves to l in the shape sh'; Hc is the memory before the first child moves.
module _ (H₀ : Memory) (v : Value) (p : List Step) (sh : Shape) (l : Landing) (sh' : Shape) (kid : ℕ → ℕ → Value)
    (more_rows : rows sh ≤ rows sh') (more_pointers : pointers sh ≤ pointers sh') (Hc : Memory) (b : ℕ → ℕ) where
  abbrev pub old : Landing
  old = land H₀ (walk H₀ 0 0 v p).0 (walk H₀ 0 0 v p).1

  -- the children before (i, j) have moved, and no other word that was allocated then has changed
  pub record Inv (i j : ℕ) (r : Room) (N : Memory) : Type 0 where
    pub moving : Moving H₀ v p sh l sh' kid more_rows more_pointers N (counts r) i j
    pub later : (x : ℕ) → b x ≤ counts r x
    pub still : (x y : ℕ) → y < b x →
        ((k m : ℕ) → k < rows sh → m < pointers sh → before i j k m ≡ true → x ≡ l.seg → y ≡ l.pos + slot sh' k m → ⊥) → N x y ≡ Hc x y

  abbrev pub P : ℕ → ℕ → Room → Memory → Type 0
  P i j r N = Small r → Inv i j r N

  module _ (nulls : (i j : ℕ) → i < rows sh → j < pointers sh → Hc l.seg (l.pos + slot sh' i j) ≡ 0)
      (inside : (i j : ℕ) → i < rows sh → j < pointers sh → l.pos + slot sh' i j < b l.seg) where
    -- the new slot of the next child is null
    next_null : (i j : ℕ) (r : Room) (N : Memory) → i < rows sh → j < pointers sh → Inv i j r N → N l.seg (l.pos + slot sh' i j) ≡ 0
    next_null i j r N hi hj v₁ =
        v₁.still l.seg (l.pos + slot sh' i j) (inside i j hi hj)
        (λ k m hk hm e _ f.
        let same = slot_apart sh' i j k m (omega arith) (omega arith) (omega arith) (omega arith) (omega arith) in
        true≢false (sym e ∙ rw (← same.0, ← same.1) (not_before_place i j i j refl (omega arith)))) ∙
        nulls i j hi hj

    -- and is not reached from the child
    next_free : (i j : ℕ) (r : Room) (N : Memory) → i < rows sh → j < pointers sh → Inv i j r N →
        reach N old.seg (old.pos + slot sh i j) (kid i j) l.seg (l.pos + slot sh' i j) ≡ 0
    next_free i j r N hi hj v₁ =
        let at : ℕ → ℕ → ℕ × ℕ = pick i j (slot_at l sh') (slot_at old sh) in
        let f : ℕ → ℕ → ℕ = λ k m. reach N (at k m).0 (at k m).1 (kid k m) l.seg (l.pos + slot sh' i j) in
        let here : at i j ≡ slot_at old sh i j = pick_here (slot_at l sh') (slot_at old sh) i j in
        let one : within l.seg l.pos (span l.said sh') l.seg (l.pos + slot sh' i j) ≡ 1 =
        slot_within l.seg l.pos l.said sh' i j (omega arith) (omega arith) in
        let none : f i j ≡ 0 = omega (arith, v₁.moving.once l.seg (l.pos + slot sh' i j), totals_term (rows sh) (pointers sh) f i j hi hj, one) in
        subst (λ z. reach N z.0 z.1 (kid i j) l.seg (l.pos + slot sh' i j) ≡ 0) here none

    -- words that were allocated are none of those that are new now
    not_fresh : (r : Room) (k q n x y : ℕ) → ((z : ℕ) → b z ≤ counts r z) → (1 ≤ n → counts r k ≤ q) → y < b x → within k q n x y ≡ 0
    not_fresh r k q n x y later new h =
        ⊎_elim
        (λ (d : 0 < within k q n x y).
        let f = within_from k q n x y d in
        absurd (omega (arith, new (omega (arith, f.1, f.2)), f.1, later k, subst (λ z. y < b z) f.0 h)))
        (λ (d : within k q n x y ≤ 0). omega arith)
        (cases_lt 0 (within k q n x y))

    step_next : (i j : ℕ) (r r' : Room) (N N' : Memory) → i < rows sh → j < pointers sh → Inv i j r N → Small r' →
        Transfer N r old.seg (old.pos + slot sh i j) l.seg (l.pos + slot sh' i j) (kid i j) r' N' → Inv i (j + 1) r' N'
    step_next i j r r' N N' hi hj v₁ small t =
        let (k, q, n, c) = t small in
        record {
          moving = moving_next H₀ v p sh l sh' kid more_rows more_pointers N N' (counts r) (counts r') i j k q n hi hj v₁.moving c;
          later = λ x. omega (arith, v₁.later x, c.grown x);
          still = λ x y h away.
              c.kept x y (not_fresh r k q n x y v₁.later c.new h)
              (λ e f. away i j hi hj (before_place i (j + 1) i j refl (omega arith)) e f) ∙
              v₁.still x y h (λ a m ha hm e. away a m ha hm (wider a m e));
        }
      where
        wider : (a m : ℕ) → before i j a m ≡ true → before i (j + 1) a m ≡ true
        wider a m e =
            ⊎_elim
            (λ (d : (before i j a m ≡ true) × ((a < i) ⊎ ((a ≡ i) × (m < j)))).
            ⊎_elim (λ (k : a < i). before_row i (j + 1) a m k) (λ (k : (a ≡ i) × (m < j)). before_place i (j + 1) a m k.0 (omega (arith, k.1))) d.1)
            (λ (d : (before i j a m ≡ false) × ((i < a) ⊎ ((a ≡ i) × (j ≤ m)))). absurd (true≢false (sym e ∙ d.0)))
            (before_cases i j a m)

    small_before : (r r' : Room) → Later r r' → Small r' → Small r
    small_before r r' h s x = omega (arith, h.grown x, s x)

    step_child : (i j : ℕ) → i < rows sh → j < pointers sh → (r : Room) (N : Memory) → P i j r N →
        Got (P i (j + 1)) (moved old.seg (old.pos + slot sh i j) l.seg (l.pos + slot sh' i j) r N)
    step_child i j hi hj r N h =
        let o : Outcome Memory = moved old.seg (old.pos + slot sh i j) l.seg (l.pos + slot sh' i j) r N in
        got_by (P i (j + 1)) o
        (λ r' N' e small.
        let later : Later r r' = got_later r r' o N' (after_moved old.seg (old.pos + slot sh i j) l.seg (l.pos + slot sh' i j) r N) e in
        let v₁ : Inv i j r N = h (small_before r r' later small) in
        let here : pick i j (slot_at l sh') (slot_at old sh) i j ≡ slot_at old sh i j = pick_here (slot_at l sh') (slot_at old sh) i j in
        let shown : Shows N (counts r) old.seg (old.pos + slot sh i j) (kid i j) =
        subst (λ z. Shows N (counts r) z.0 z.1 (kid i j)) here (v₁.moving.shown i j hi hj) in
        let held : old.pos + slot sh i j < counts r old.seg =
        v₁.moving.inside old.seg (old.pos + slot sh i j)
        (subst (λ z. 1 ≤ fixed H₀ v p sh l sh' z.0 z.1) here (v₁.moving.slots i j hi hj)) in
        step_next i j r r' N N' hi hj v₁ small
        (got_at (Transfer N r old.seg (old.pos + slot sh i j) l.seg (l.pos + slot sh' i j) (kid i j)) o r' N'
        (move_child N r old.seg (old.pos + slot sh i j) l.seg (l.pos + slot sh' i j) (kid i j) shown (next_free i j r N hi hj v₁) (next_null i j r N hi hj v₁)
        (omega (arith, inside i j hi hj, v₁.later l.seg))
        held)
        e))

    row_done : (i : ℕ) (r : Room) (N : Memory) → Inv i (pointers sh) r N → Inv (i + 1) 0 r N
    row_done i r N v₁ = record {
      moving = moving_row H₀ v p sh l sh' kid more_rows more_pointers N (counts r) i v₁.moving;
      later = v₁.later;
      still = λ x y h away. v₁.still x y h (λ a m ha hm e. away a m ha hm (wider a m hm e));
    }
      where
        wider : (a m : ℕ) → m < pointers sh → before i (pointers sh) a m ≡ true → before (i + 1) 0 a m ≡ true
        wider a m hm e =
            ⊎_elim
            (λ (d : (before i (pointers sh) a m ≡ true) × ((a < i) ⊎ ((a ≡ i) × (m < pointers sh)))).
            before_row (i + 1) 0 a m (⊎_elim (λ (k : a < i). omega arith) (λ (k : (a ≡ i) × (m < pointers sh)). omega (arith, k.0)) d.1))
            (λ (d : (before i (pointers sh) a m ≡ false) × ((i < a) ⊎ ((a ≡ i) × (pointers sh ≤ m)))). absurd (true≢false (sym e ∙ d.0)))
            (before_cases i (pointers sh) a m)

    one_more : (n : ℕ) → n + 1 ≡ suc n
    one_more n = omega arith

    got_turn : {A : Type 0} (Q R : Room → A → Type 0) (o : Outcome A) → ((r : Room) (a : A) → Q r a → R r a) → Got Q o → Got R o
    unfolding Got
    got_turn Q R (got r a) k h = k r a h
    got_turn Q R (no_space r m) k h = tt

    pub all_move : (r : Room) (N : Memory) → P 0 0 r N → Got (P (rows sh) 0) (moves old sh l.seg l.pos sh' r N)
    all_move r N h =
        got_each (λ i. P i 0) (rows sh) (λ i. each (pointers sh) (λ j. moved old.seg (old.pos + slot sh i j) l.seg (l.pos + slot sh' i j))) r N h
        (λ i hi r₁ N₁ h₁.
        got_turn (P i (pointers sh)) (P (suc i) 0) _
        (λ r₂ N₂ h₂ small. subst (λ z. Inv z 0 r₂ N₂) (one_more i) (row_done i r₂ N₂ (h₂ small)))
        (got_each (P i) (pointers sh) (λ j. moved old.seg (old.pos + slot sh i j) l.seg (l.pos + slot sh' i j)) r₁ N₁ h₁
        (λ j hj r₂ N₂ h₂. subst (λ z. Got (P i z) (moved old.seg (old.pos + slot sh i j) l.seg (l.pos + slot sh' i j) r₂ N₂)) (one_more j) (step_child i j hi hj r₂ N₂ h₂))))
