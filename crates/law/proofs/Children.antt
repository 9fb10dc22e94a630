-- A child moves to another slot: the words of the definition are those of a transfer.
use Rattle.std.proofs.Common.{◌≡◌, ℕ, zero, suc, ◌+◌, ◌<◌, Bool, true, false, cond, ◌&&◌, eqb, ◌≢◌, sym, refl, ◌∙◌, subst, inl, inr, arith}
use Rattle.std.proofs.lemmas.Bool.{eq-eqb, ne_eqb, eqb-true, eqb-false, and_parts}
use Rattle.wire.specs.Pointers.{pointer_kind, high_half, pointer_target, single_far, double_far, empty_struct, re_aimed, unaimed, far_mark}
use Rattle.tree.specs.Value.{Shape, Value, null, object, change}
use Rattle.tree.specs.Shows.{Memory, direct, far_way, way, Shows, reach}
use Rattle.tree.specs.Edits.{Transferred, Steady}
use Rattle.tree.proofs.Count.{within_in}
use Rattle.tree.proofs.Context.{change_here, change_else}
use Rattle.tree.proofs.Roads.{paved_live}
use Rattle.tree.proofs.Transfers.{transfer_null, transfer_far, transfer_near, transfer_empty, transfer_pad, transfer_double}
use Rattle.table.specs.Placing.{Room, Outcome, got, no_space, then, pad}
use Rattle.table.specs.Laws.{Got, Fresh, Padded}
use Rattle.table.proofs.Allocations.{fresh_pad}
use Rattle.law.specs.Exact.{near_pointer, bridged, moved}
use Rattle.law.proofs.Inits.{counts, Small, got_here}

pub got_then : {A B : Type 0} (P : Room → A → Type 0) (Q : Room → B → Type 0) (o : Outcome A) (f : Room → A → Outcome B) → Got P o →
    ((r : Room) (a : A) → P r a → Got Q (f r a)) → Got Q (then o f)
unfolding Got
got_then P Q (got r a) f h k = k r a h
got_then P Q (no_space r m) f h k = tt

-- over some words, which were new
abbrev pub Transfer : (N : Memory) (r : Room) (g w s q : ℕ) (u : Value) → Room → Memory → Type 0
Transfer N r g w s q u r' N' = Small r' → (k : ℕ) × (p : ℕ) × (n : ℕ) × Transferred N N' (counts r) (counts r') g w s q k p n u

far_not_direct : (m : ℕ) → far_way m ≢ direct
far_not_direct zero e = let z : ◌≡◌ {A = ℕ} 0 1 = cc in omega arith
far_not_direct (suc m) e = let z : ◌≡◌ {A = ℕ} 0 1 = cc in omega arith

way_far : (x : ℕ) → pointer_kind x ≡ 2 → way x ≢ direct
way_far x h = rw (eq-eqb (pointer_kind x) 2 h) (far_not_direct (far_mark x))

module _ (N : Memory) (r : Room) (g w s q : ℕ) (sh : Shape) (dat : ℕ → ℕ → ℕ) (kid : ℕ → ℕ → Value)
    (shown : Shows N (counts r) g w (object sh dat kid)) (free : reach N g w (object sh dat kid) s q ≡ 0) (hq : q < counts r s) (hw : w < counts r g) where
  abbrev u : Value
  u = object sh dat kid

  abbrev x : ℕ
  x = N g w

  -- only the slot changes
  steady : (y : ℕ) → Steady N (change N s q y) (counts r) (counts r) g w s q 0 0 0 u
  steady y = record {
    grown = λ b. omega arith;
    before = shown;
    free = free;
    slot_inside = hq;
    new = λ h. absurd (omega arith);
    kept = λ b c _ m. change_else N s q y b c m;
  }

  pub move_far : pointer_kind (N g w) ≡ 2 → Got (Transfer N r g w s q u) (got r (change N s q (N g w)))
  move_far h =
      got_here (Transfer N r g w s q u) r (change N s q x)
      (λ _. (0, 0, 0, transfer_far N (change N s q x) (counts r) g w s q sh dat kid (steady x) (way_far x h) (change_here N s q x)))

  same_near : (y : ℕ) → pointer_kind (N g w) ≢ 2 → s ≡ g → Small r → y ≡ near_pointer (N g w) w q → Transferred N (change N s q y) (counts r) (counts r) g w s q 0 0 0 u
  same_near y far e small is = go (eqb (pointer_kind x) 0 && eqb (high_half x) 0) refl is
    where
      go : (b : Bool) → (eqb (pointer_kind (N g w)) 0 && eqb (high_half (N g w)) 0) ≡ b →
          y ≡ cond b empty_struct (re_aimed (N g w) q (pointer_target w (N g w))) → Transferred N (change N s q y) (counts r) (counts r) g w s q 0 0 0 (object sh dat kid)
      go true t k =
          let both = and_parts _ _ t in
          transfer_empty N (change N s q y) (counts r) (counts r) g w s q sh dat kid (steady y) small (eqb-true _ _ both.0) (eqb-true _ _ both.1) (change_here N s q y ∙ k)
      go false t k =
          subst (λ z. Transferred N (change N z q y) (counts r) (counts r) g w z q 0 0 0 (object sh dat kid)) (sym e)
          (transfer_near N (change N g q y) (counts r) (counts r) g w q sh dat kid
          (subst (λ z. Steady N (change N z q y) (counts r) (counts r) g w z q 0 0 0 (object sh dat kid)) e (steady y))
          far small
          (λ k0 h0.
          let b : (eqb (pointer_kind (N g w)) 0 && eqb (high_half (N g w)) 0) ≡ true = rw (eq-eqb _ 0 k0, eq-eqb _ 0 h0) in
          let z : ◌≡◌ {A = ℕ} 0 1 = (let f : true ≡ false = sym b ∙ t in cc) in omega arith)
          (change_here N g q y ∙ k))

  pub move_near : pointer_kind (N g w) ≢ 2 → s ≡ g → Got (Transfer N r g w s q u) (got r (change N s q (near_pointer (N g w) w q)))
  move_near far e =
      got_here (Transfer N r g w s q u) r (change N s q (near_pointer x w q)) (λ small. (0, 0, 0, same_near (near_pointer x w q) far e small refl))

  -- over a pad in word p of its own segment
  one_pad : (r' : Room) (p : ℕ) → pointer_kind (N g w) ≢ 2 → Fresh r r' g p 1 → Small r' →
      Transferred N (change (change N g p (re_aimed (N g w) p (pointer_target w (N g w)))) s q (single_far g p)) (counts r) (counts r') g w s q g p 1 u
  one_pad r' p far f small =
      let y : ℕ = re_aimed x p (pointer_target w x) in
      let M : Memory = change N g p y in
      let off : (g ≡ s → p ≡ q → ⊥) = λ e k. omega (arith, f.unused, k, subst (λ z. q < counts r z) (sym e) hq) in
      transfer_pad N (change M s q (single_far g p)) (counts r) (counts r') g w s q p sh dat kid
      (record {
        grown = f.later.grown;
        before = shown;
        free = free;
        slot_inside = hq;
        new = λ _. f.unused;
        kept = λ b c h m. change_else M s q (single_far g p) b c m ∙ change_else N g p y b c (λ e k. omega (arith, h, within_in g p 1 b c e (omega arith) (omega arith)));
      })
      far small (omega (arith, f.inside))
      (change_here M s q (single_far g p))
      (change_else M s q (single_far g p) g p off ∙ change_here N g p y)

  -- over two pads in words p and p + 1 of segment k
  two_pads : (r' : Room) (k p : ℕ) → pointer_kind (N g w) ≢ 2 → Fresh r r' k p 2 → Small r' →
      Transferred N (change (change (change N k p (single_far g (pointer_target w (N g w)))) k (p + 1) (unaimed (N g w))) s q (double_far k p)) (counts r) (counts r') g w s q k p 2 u
  two_pads r' k p far f small =
      let y : ℕ = single_far g (pointer_target w x) in
      let M : Memory = change N k p y in
      let L : Memory = change M k (p + 1) (unaimed x) in
      let off : (n : ℕ) → (k ≡ s → p + n ≡ q → ⊥) = λ n e h. omega (arith, f.unused, h, subst (λ z. q < counts r z) (sym e) hq) in
      let off0 : (k ≡ s → p ≡ q → ⊥) = λ e h. off 0 e (omega arith) in
      transfer_double N (change L s q (double_far k p)) (counts r) (counts r') g w s q k p sh dat kid
      (record {
        grown = f.later.grown;
        before = shown;
        free = free;
        slot_inside = hq;
        new = λ _. f.unused;
        kept = λ b c h m.
            change_else L s q (double_far k p) b c m ∙
            change_else M k (p + 1) (unaimed x) b c (λ e j. omega (arith, h, within_in k p 2 b c e (omega arith) (omega arith))) ∙
            change_else N k p y b c (λ e j. omega (arith, h, within_in k p 2 b c e (omega arith) (omega arith)));
      })
      far small (omega (arith, f.inside))
      (change_here L s q (double_far k p))
      (change_else L s q (double_far k p) k p off0 ∙ change_else M k (p + 1) (unaimed x) k p (λ _ e. omega arith) ∙ change_here N k p y)
      (change_else L s q (double_far k p) k (p + 1) (off 1) ∙ change_here M k (p + 1) (unaimed x))

  bridge : (r' : Room) (k : ℕ × ℕ) → pointer_kind (N g w) ≢ 2 → Padded r g r' k → Small r' →
      (i : ℕ) × (p : ℕ) × (n : ℕ) × Transferred N (bridged N g w (N g w) s q k.0 k.1) (counts r) (counts r') g w s q i p n u
  bridge r' k far (inl h) small =
      (g, k.1, 1, rw (h.0, eq-eqb g g refl) (one_pad r' k.1 far h.1 small))
  bridge r' k far (inr h) small =
      (k.0, k.1, 2, rw (ne_eqb k.0 g h.0) (two_pads r' k.0 k.1 far h.1 small))

  pub move_bridged : pointer_kind (N g w) ≢ 2 →
      Got (Transfer N r g w s q u) (then (pad r g) (λ r' p. got r' (bridged N g w (N g w) s q p.0 p.1)))
  move_bridged far =
      got_then (Padded r g) (Transfer N r g w s q u) (pad r g) _ (fresh_pad r g (omega arith))
      (λ r' k h. got_here (Transfer N r g w s q u) r' _ (λ small. bridge r' k far h small))

-- whatever the child is
pub move_child : (N : Memory) (r : Room) (g w s q : ℕ) (u : Value) → Shows N (counts r) g w u → reach N g w u s q ≡ 0 → N s q ≡ 0 →
    q < counts r s → w < counts r g → Got (Transfer N r g w s q u) (moved g w s q r N)
unfolding moved
move_child N r g w s q null shown free none hq hw =
    rw (eq-eqb (N g w) 0 shown)
    (got_here (Transfer N r g w s q null) r N (λ _. (0, 0, 0, transfer_null N N (counts r) g w s q none (λ _ _ _. refl))))
move_child N r g w s q (object sh dat kid) shown free none hq hw =
    rw (ne_eqb (N g w) 0 (paved_live N g w shown.0)) (far (eqb (pointer_kind (N g w)) 2) refl)
  where
    near : (b : Bool) → eqb s g ≡ b → pointer_kind (N g w) ≢ 2 →
        Got (Transfer N r g w s q (object sh dat kid))
        (cond b (got r (change N s q (near_pointer (N g w) w q))) (then (pad r g) (λ r' p. got r' (bridged N g w (N g w) s q p.0 p.1))))
    near true e h = move_near N r g w s q sh dat kid shown free hq hw h (eqb-true s g e)
    near false e h = move_bridged N r g w s q sh dat kid shown free hq hw h

    far : (b : Bool) → eqb (pointer_kind (N g w)) 2 ≡ b →
        Got (Transfer N r g w s q (object sh dat kid))
        (cond b (got r (change N s q (N g w)))
        (cond (eqb s g) (got r (change N s q (near_pointer (N g w) w q))) (then (pad r g) (λ r' p. got r' (bridged N g w (N g w) s q p.0 p.1)))))
    far true e = move_far N r g w s q sh dat kid shown free hq hw (eqb-true _ _ e)
    far false e = near (eqb s g) refl (eqb-false _ _ e)
