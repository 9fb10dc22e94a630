-- What is made without room: the value stays, or becomes null.
use Rattle.std.proofs.Common.{◌≡◌, ℕ, sym, ap, ◌∙◌, subst}
use Rattle.tree.specs.Value.{Value}
use Rattle.tree.specs.Shows.{Memory, Landing, land}
use Rattle.table.specs.Placing.{got}
use Rattle.law.specs.Machine.{Making, keep, wipe}
use Rattle.law.specs.Exact.{Written, wiped, makes}
use Rattle.law.specs.Law.{Source, State, memory}
use Rattle.effects.specs.States.{Rewritten}
use Rattle.effects.specs.Parts.{Went}
use Rattle.effects.proofs.Joins.{rewrites, went_as}
use Rattle.walk.specs.declared.held.Held.{Held}
use Rattle.walk.specs.Holding.{Leads}
use Rattle.walk.specs.Spots.{spot_of}
use Rattle.making.specs.Numbers.{Numbers}
use Rattle.effects.proofs.Allocations.{rests}

abbrev pub made : Memory → ℕ × ℕ → Written
made M p = record { words = M; pair = p }

module _ {X : Type 0} (S : Source X) (s : State) (g w : ℕ) (u : Value) where
  pub kept : (m : Making) (l : Landing) → m ≡ keep → l ≡ land (memory s) g w → Went S (makes (memory s) g w u m) s (made (memory s) (l.seg, l.pos)) s
  kept m l is e =
      subst (λ (n : Making). Went S (makes (memory s) g w u n) s (made (memory s) (l.seg, l.pos)) s) (sym is)
      (subst (λ (k : Landing). Went S (λ r. got r (made (memory s) (k.seg, k.pos))) s (made (memory s) (l.seg, l.pos)) s) e
      (rests S s (made (memory s) (l.seg, l.pos))))

  -- words are written, and no room is taken
  settled : (s' : State) (M : Memory) (p : ℕ × ℕ) → Rewritten s s' → memory s' ≡ M → Went S (λ r. got r (made M p)) s (made (memory s') p) s'
  settled s' M p r e = subst (λ (K : Memory). Went S (λ r. got r (made K p)) s (made (memory s') p) s') e (rewrites S s s' (made (memory s') p) r)

  pub wiped_away : (s' : State) (m : Making) → m ≡ wipe → Rewritten s s' → memory s' ≡ wiped (memory s) g w u → Went S (makes (memory s) g w u m) s (made (memory s') (0, 0)) s'
  wiped_away s' m is r e =
      subst (λ (n : Making). Went S (makes (memory s) g w u n) s (made (memory s') (0, 0)) s') (sym is) (settled s' (wiped (memory s) g w u) (0, 0) r e)

-- a number is written
pub number_makes : {X : Type 0} (S : Source X) (s s' : State) (g w : ℕ) (u : Value) (m : Making) (held : Held) → Rewritten s s' → Numbers (memory s) g w u m (memory s') →
    Leads (memory s) g w held → Went S (makes (memory s) g w u m) s (made (memory s') (spot_of held.landing.start)) s'
number_makes S s s' g w u m held r n leads =
    let p : ℕ × ℕ = (spot_of held.landing.start) in
    let e : ((land (memory s) g w).seg, (land (memory s) g w).pos) ≡ p = sym (ap (λ (z : Landing). (z.seg, z.pos)) leads.lands) in
    went_as S (λ k. got k (made (memory s') p)) (makes (memory s) g w u m) s s' (made (memory s') p)
    (λ k. n k ∙ ap (λ (q : ℕ × ℕ). got k (made (memory s') q)) e)
    (rewrites S s s' (made (memory s') p) r)
