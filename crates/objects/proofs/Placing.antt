-- An object's words, taken by the placing rule.
use Rattle.std.proofs.Common.{◌≡◌, ℕ, ◌+◌, ◌<◌, ◌≤◌, true, false, [], ◌++◌, length, sym, refl, ap, ◌∙◌, subst, inl, inr, ⊎_elim, arith}
use Rattle.std.proofs.lemmas.Bool.{cond-true, cond-false, eqb-true, cases_lt}
use Rattle.tree.specs.Value.{Shape, structure, plain, composite, size}
use Rattle.table.specs.Segments.{Table, allocated_in}
use Rattle.table.specs.Placing.{Room, got, place}
use Rattle.table.specs.Laws.{Got, Placed}
use Rattle.table.proofs.Allocations.{allocations}
use Rattle.table.proofs.Entries.{allocated_past}
use Rattle.law.specs.Exact.{no_words, place_shape}
use Rattle.law.specs.Law.{Source, State}
use Rattle.effects.specs.Parts.{Went, Failed}
use Rattle.effects.proofs.Joins.{room_of, went_as, failed_as}
use Rattle.effects.proofs.Allocations.{rests}
use Rattle.objects.specs.Rooms.{RoomThere}

module _ (g w : ℕ) (sh : Shape) where
  shape_none : no_words sh ≡ true → (r : Room) → place_shape r g w sh ≡ got r (g, w)
  shape_none e r = cond-true (no_words sh) (got r (g, w)) (place r g (size sh)) e

  shape_some : (n : ℕ) → n ≡ size sh → no_words sh ≡ false → (r : Room) → place_shape r g w sh ≡ place r g n
  shape_some n i e r = cond-false (no_words sh) (got r (g, w)) (place r g (size sh)) e ∙ ap (place r g) (sym i)

  pub none_went : {X : Type 0} (S : Source X) (s : State) → no_words sh ≡ true → Went S (λ k. place_shape k g w sh) s (g, w) s
  none_went S s e = went_as S (λ k. got k (g, w)) (λ k. place_shape k g w sh) s s (g, w) (shape_none e) (rests S s (g, w))

  pub none_room : (t : Table) → no_words sh ≡ true → w < allocated_in t g → RoomThere t g g w sh
  none_room t e h = record { object_inside = let z = empty sh e in omega arith; pad_inside = λ n. absurd (n refl) }
    where
      empty : (z : Shape) → no_words z ≡ true → size z ≡ 0
      empty (structure dw pw) e = eqb-true (dw + pw) 0 e
      empty (plain c n) e = let z : ◌≡◌ {A = ℕ} 0 1 = cc in absurd (omega arith)
      empty (composite n dw pw) e = let z : ◌≡◌ {A = ℕ} 0 1 = cc in absurd (omega arith)

  module _ {X : Type 0} (S : Source X) (n : ℕ) (i : n ≡ size sh) (e : no_words sh ≡ false) (s s' : State) where
    pub some_went : (p : ℕ × ℕ) → Went S (λ k. place k g n) s p s' → Went S (λ k. place_shape k g w sh) s p s'
    some_went p h = went_as S (λ k. place k g n) (λ k. place_shape k g w sh) s s' p (shape_some n i e) h

    pub some_failed : (m : ℕ) → Failed S (λ k. place k g n) s m s' → Failed S (λ k. place_shape k g w sh) s m s'
    some_failed m h = failed_as S (λ k. place k g n) (λ k. place_shape k g w sh) s s' m (shape_some n i e) h

    -- no words were left
    pub some_none : (m : ℕ) → Failed S (λ k. place k g n) s (n + 1) s' × (m ≡ n + 1) × (s' ≡ s) → Failed S (λ k. place_shape k g w sh) s (size sh + 1) s' × (m ≡ size sh + 1) × (s' ≡ s)
    some_none m h = (
      subst (λ (z : ℕ). Failed S (λ k. place_shape k g w sh) s (z + 1) s') i (some_failed (n + 1) h.0),
      h.1 ∙ ap (λ (z : ℕ). z + 1) i,
      h.2,
    )

    pub some_room : (p : ℕ × ℕ) → 1 ≤ allocated_in s.table g → Went S (λ k. place k g n) s p s' → RoomThere s'.table g p.0 p.1 sh
    unfolding Got
    some_room p h v =
        by (subst (Got (Placed (room_of s.table (v.met ++ []) []) g n)) (v.rule [] []) (allocations.place_fresh (room_of s.table (v.met ++ []) []) g n h))
      where
        by : Placed (room_of s.table (v.met ++ []) []) g n (room_of s'.table [] ([] ++ v.asked)) p → RoomThere s'.table g p.0 p.1 sh
        by (inl k) = let o = k.1.inside in let q = ap (allocated_in s'.table) k.0 in record { object_inside = omega arith; pad_inside = λ d. absurd (d k.0) }
        by (inr k) = let o = k.1.2.inside in let q = k.1.1 in record { object_inside = omega arith; pad_inside = λ d. omega arith }

-- a segment with an allocated word is there
pub there_is : (t : Table) (g w : ℕ) → w < allocated_in t g → g < length t
there_is t g w h = ⊎_elim (λ (k : g < length t). k) (λ (k : length t ≤ g). let z = allocated_past t g k in absurd (omega arith)) (cases_lt g (length t))
