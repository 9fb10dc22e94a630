-- New objects and texts as parts of a call.
use Rattle.std.proofs.Common.{◌≡◌, ℕ, ◌+◌, ◌^◌, ◌<◌, ◌≤◌, false, List, length, sym, ap, ◌∙◌, subst, arith}
use Rattle.std.proofs.lemmas.Bool.{lt-leb}
use Rattle.tree.specs.Value.{Shape, Value, size, change}
use Rattle.tree.specs.Shows.{Memory}
use Rattle.table.specs.Segments.{Table, allocated_in}
use Rattle.table.specs.Placing.{got}
use Rattle.law.specs.Machine.{new, spell, text_shape, too_large}
use Rattle.objects.specs.Rooms.{RoomThere}
use Rattle.law.specs.Exact.{Written, wiped, opened, slot_word, placed, spelled, place_shape, makes}
use Rattle.law.specs.Law.{Source, State, memory}
use Rattle.effects.specs.States.{Rewritten, Prepared}
use Rattle.effects.specs.Parts.{Went, Failed}
use Rattle.effects.specs.Makes.{Slot}
use Rattle.effects.proofs.Joins.{joins, fails_first, rewrites}
use Rattle.effects.proofs.Keeping.{prepared_none}

abbrev made : Memory → ℕ × ℕ → Written
made M p = record { words = M; pair = p }

-- cleared, opened and aimed
pub filled : (H K L N : Memory) (g w : ℕ) (u : Value) (s t : ℕ) (sh : Shape) → K ≡ wiped H g w u → L ≡ opened K g s t sh →
    N ≡ change L g w (slot_word g w s t sh) → N ≡ placed H g w u s t sh
filled H K L N g w u s t sh e f h =
    h ∙ (ap (λ (M : Memory). change M g w (slot_word g w s t sh)) f ∙ ap (λ (M : Memory). change (opened M g s t sh) g w (slot_word g w s t sh)) e)

module _ {X : Type 0} (S : Source X) (s s₁ s' : State) (g w : ℕ) (u : Value) (p : ℕ × ℕ) where
  -- words of which only the ones that are written down come
  settled : (M : Memory) → Rewritten s₁ s' → memory s' ≡ M → Went S (λ r. got r (made M p)) s₁ (made (memory s') p) s'
  settled M r e = subst (λ (K : Memory). Went S (λ r. got r (made K p)) s₁ (made (memory s') p) s') e (rewrites S s₁ s' (made (memory s') p) r)

  pub new_went : (sh : Shape) → Went S (λ k. place_shape k g w sh) s p s₁ → memory s₁ ≡ memory s → Rewritten s₁ s' →
      memory s' ≡ placed (memory s₁) g w u p.0 p.1 sh → Went S (makes (memory s) g w u (new sh)) s (made (memory s') p) s'
  new_went sh v same r e =
      joins S (λ k. place_shape k g w sh) (λ r' q. got r' (made (placed (memory s) g w u q.0 q.1 sh) q)) s s₁ s' p _ v
      (settled (placed (memory s) g w u p.0 p.1 sh) r (e ∙ ap (λ (H : Memory). placed H g w u p.0 p.1 sh) same))

  pub text_went : (bytes : List ℕ) (N : Memory) → Went S (λ k. place_shape k g w (text_shape bytes)) s p s₁ → memory s₁ ≡ memory s → Rewritten s₁ s' →
      N ≡ placed (memory s₁) g w u p.0 p.1 (text_shape bytes) → memory s' ≡ spelled N p.0 p.1 bytes →
      Went S (makes (memory s) g w u (spell bytes)) s (made (memory s') p) s'
  text_went bytes N v same r e f =
      joins S (λ k. place_shape k g w (text_shape bytes))
      (λ r' q. got r' (made (spelled (placed (memory s) g w u q.0 q.1 (text_shape bytes)) q.0 q.1 bytes) q)) s s₁ s' p _ v
      (settled (spelled (placed (memory s) g w u p.0 p.1 (text_shape bytes)) p.0 p.1 bytes) r
      (f ∙ ap (λ (H : Memory). spelled H p.0 p.1 bytes) (e ∙ ap (λ (H : Memory). placed H g w u p.0 p.1 (text_shape bytes)) same)))

-- no words were left
module _ {X : Type 0} (S : Source X) (s s' : State) (g w : ℕ) (u : Value) (n m : ℕ) (slot : Slot s g w u) (least : m ≡ n) (same : s' ≡ s) where
  none_prepared : Prepared s s'
  none_prepared = subst (Prepared s) (sym same) (prepared_none s slot.sized slot.clean)

  pub new_failed : (sh : Shape) → Failed S (λ k. place_shape k g w sh) s n s' → Failed S (makes (memory s) g w u (new sh)) s m s' × Prepared s s'
  new_failed sh f =
      (subst (λ (k : ℕ). Failed S (makes (memory s) g w u (new sh)) s k s') (sym least) (fails_first S (λ k. place_shape k g w sh) _ s s' n f), none_prepared)

  pub text_failed : (bytes : List ℕ) → Failed S (λ k. place_shape k g w (text_shape bytes)) s n s' → Failed S (makes (memory s) g w u (spell bytes)) s m s' × Prepared s s'
  text_failed bytes f =
      (subst (λ (k : ℕ). Failed S (makes (memory s) g w u (spell bytes)) s k s') (sym least) (fails_first S (λ k. place_shape k g w (text_shape bytes)) _ s s' n f), none_prepared)

pub inside_same : (t t' : Table) (g w : ℕ) → t' ≡ t → w < allocated_in t g → w < allocated_in t' g
inside_same t t' g w e h = subst (λ (k : Table). w < allocated_in k g) (sym e) h

pub inside_later : (t t' : Table) (g w : ℕ) → w < allocated_in t g → allocated_in t g ≤ allocated_in t' g → w < allocated_in t' g
inside_later t t' g w h e = omega arith

module _ {X : Type 0} (S : Source X) (s s' : State) (g w : ℕ) (bytes : List ℕ) (sh : Shape) where
  pub text_placed : (p : ℕ × ℕ) → sh ≡ text_shape bytes → Went S (λ k. place_shape k g w sh) s p s' → Went S (λ k. place_shape k g w (text_shape bytes)) s p s'
  text_placed p is h = subst (λ (z : Shape). Went S (λ k. place_shape k g w z) s p s') is h

  pub text_unplaced : (m : ℕ) → sh ≡ text_shape bytes → Failed S (λ k. place_shape k g w sh) s m s' → Failed S (λ k. place_shape k g w (text_shape bytes)) s m s'
  text_unplaced m is h = subst (λ (z : Shape). Failed S (λ k. place_shape k g w z) s m s') is h

-- ## The shape of a text, as the code has it

module _ (bytes : List ℕ) (sh : Shape) (is : sh ≡ text_shape bytes) where
  pub text_fits : length bytes + 1 < 2 ^ 29 → too_large sh ≡ false
  text_fits h = ap too_large is ∙ lt-leb (2 ^ 29) (length bytes + 1) h

  pub text_filled : (H N : Memory) (g w : ℕ) (u : Value) (s t : ℕ) → N ≡ placed H g w u s t sh → N ≡ placed H g w u s t (text_shape bytes)
  text_filled H N g w u s t e = e ∙ ap (placed H g w u s t) is

  pub text_room : (t t' : Table) (g s p : ℕ) → t' ≡ t → RoomThere t g s p sh → p + size (text_shape bytes) ≤ allocated_in t' s
  text_room t t' g s p e r =
      let n : size sh ≡ size (text_shape bytes) = ap size is in
      let a : allocated_in t' s ≡ allocated_in t s = ap (λ (k : Table). allocated_in k s) e in
      let i = r.object_inside in
      omega arith
