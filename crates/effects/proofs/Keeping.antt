-- What parts of a call keep: sizes of table and source, counts that only grow, and all that was allocated at a mark.
use Rattle.std.proofs.Common.{◌≡◌, ℕ, ◌<◌, ◌≤◌, List, [], ◌++◌, sym, refl, ap, ◌∙◌, arith}
use Rattle.tree.specs.Value.{change}
use Rattle.tree.specs.Shows.{Memory}
use Rattle.tree.proofs.Context.{change_else}
use Rattle.table.specs.Segments.{Table, allocated_in, capacities}
use Rattle.table.specs.Placing.{Room, Outcome}
use Rattle.table.specs.Laws.{After}
use Rattle.table.proofs.Allocations.{got_later}
use Rattle.law.specs.Law.{Source, State, memory}
use Rattle.law.proofs.Standing.{granted_lengths}
use Rattle.effects.specs.States.{Sized, Rewritten, Clean, Prepared}
use Rattle.effects.specs.Parts.{Went}

module _ {X A : Type 0} (S : Source X) (f : Room → Outcome A) (s s' : State) (a : A) (w : Went S f s a s') where
  pub went_sized : Sized s → Sized s'
  went_sized e =
      granted_lengths S s.source s'.source w.asked w.met w.granted ∙ (ap (λ (l : List ℕ). l ++ w.met) e ∙ sym w.capacities_are)

  module _ (grows : (r : Room) → After r (f r)) where
    pub went_grown : (x : ℕ) → allocated_in s.table x ≤ allocated_in s'.table x
    went_grown x = (got_later _ _ (f _) a (grows _) (w.rule [] [])).grown x

    -- words stay, and more may be allocated
    pub prepared_went : (mark : State) → memory s' ≡ memory s → Prepared mark s → Prepared mark s'
    prepared_went mark e p = record {
      kept = λ x y h. ap (λ (H : Memory). H x y) e ∙ p.kept x y h;
      clean = λ x y h. ap (λ (H : Memory). H x y) e ∙ p.clean x y (omega (arith, went_grown x));
      grown = λ x. omega (arith, p.grown x, went_grown x);
      sized = went_sized p.sized;
    }

-- a word that was not allocated at the mark is written
pub prepared_written : (mark s s' : State) (g w x : ℕ) → Rewritten s s' → memory s' ≡ change (memory s) g w x → allocated_in mark.table g ≤ w →
    w < allocated_in s.table g → Prepared mark s → Prepared mark s'
prepared_written mark s s' g w x r e fresh inside p =
    let t : (z : ℕ) → allocated_in s'.table z ≡ allocated_in s.table z = λ z. ap (λ (k : Table). allocated_in k z) r.same_table in
    record {
      kept = λ a b h. ap (λ (H : Memory). H a b) e ∙ (change_else (memory s) g w x a b (λ i j. low a b h i j) ∙ p.kept a b h);
      clean = λ a b h. ap (λ (H : Memory). H a b) e ∙ (change_else (memory s) g w x a b (λ i j. high a b (t a) h i j) ∙ p.clean a b (omega (arith, t a)));
      grown = λ z. omega (arith, p.grown z, t z);
      sized = r.same_lengths ∙ (p.sized ∙ ap capacities (sym r.same_table));
    }
  where
    low : (a b : ℕ) → b < allocated_in mark.table a → a ≡ g → b ≡ w → ⊥
    low a b h i j = let k : allocated_in mark.table a ≡ allocated_in mark.table g = ap (allocated_in mark.table) i in omega arith

    high : (a b : ℕ) → allocated_in s'.table a ≡ allocated_in s.table a → allocated_in s'.table a ≤ b → a ≡ g → b ≡ w → ⊥
    high a b u h i j = let k : allocated_in s.table a ≡ allocated_in s.table g = ap (allocated_in s.table) i in omega arith

-- at the mark itself
pub prepared_none : (s : State) → Sized s → Clean s → Prepared s s
prepared_none s e c = record { kept = λ x y h. refl; clean = c; grown = λ x. omega arith; sized = e }
