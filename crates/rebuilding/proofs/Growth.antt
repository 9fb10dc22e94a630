-- How a larger shape is had: an accepted call asks only for such.
use Rattle.std.proofs.Common.{◌≡◌, ℕ, false, Some, subst, arith}
use Rattle.tree.specs.Value.{Shape, structure, plain, composite, Value, null, object, value_at}
use Rattle.tree.specs.Shows.{Memory, land, Shows}
use Rattle.law.specs.Calls.{Edit, Typed, Call}
use Rattle.law.specs.Machine.{Making, rebuild, making, objection, too_large, makes_too_large, judge, fine}
use Rattle.law.proofs.Rebuilds.{Rowed, Grows}
use Rattle.law.proofs.Turns.{FitsMaking}
use Rattle.law.proofs.Fitting.{described_narrow, NarrowValue, fitting}
use Rattle.law.proofs.Judged.{fine_ruling}
use Rattle.judging.specs.Sites.{shape_in}
use Rattle.rebuilding.specs.Growth.{Sectioned, Larger}

-- ## As the law has it

rowed_by : (sh : Shape) → Sectioned sh → Rowed sh
rowed_by (structure dw pw) h = tt
rowed_by (plain c n) h = absurd h
rowed_by (composite n dw pw) h = tt

sectioned_by : (sh : Shape) → Rowed sh → Sectioned sh
sectioned_by (structure dw pw) h = tt
sectioned_by (plain c n) h = absurd h
sectioned_by (composite n dw pw) h = tt

pub larger_grows : (sh sh' : Shape) → Larger sh sh' → Grows sh sh'
larger_grows sh sh' h =
    record { rowed = rowed_by sh' h.sectioned; rows_same = h.same_rows; more_pointers = h.more_pointers; more_places = h.more_places }

grows_larger : (sh sh' : Shape) → Grows sh sh' → Larger sh sh'
grows_larger sh sh' h =
    record { sectioned = sectioned_by sh' h.rowed; same_rows = h.rows_same; more_pointers = h.more_pointers; more_places = h.more_places }

-- ## For a caller

-- an edit that makes a rebuild of the value that a slot shows, where no ruling is given
pub larger_by : (e : Edit) (H : Memory) (a : ℕ → ℕ) (g w : ℕ) (u : Value) (sh sh' : Shape) → Typed e → Shows H a g w u → objection e u ≡ 0 →
    makes_too_large (making e u) ≡ false → shape_in u ≡ Some sh → making e u ≡ rebuild sh' → Larger sh sh'
larger_by e H a g w null sh sh' typed shown o fits is m = let z : ◌≡◌ {A = ℕ} 0 1 = cc is in absurd (omega arith)
larger_by e H a g w (object sh₀ dat kid) sh sh' typed shown o fits is m =
    let k : sh₀ ≡ sh = cc is in
    let narrow : NarrowValue (object sh₀ dat kid) = described_narrow (land H g w).said (H (land H g w).seg (land H g w).pos) sh₀ shown.1.described in
    let f = subst (λ (z : Making). FitsMaking z (object sh₀ dat kid)) m (fitting e (object sh₀ dat kid) typed narrow o fits) in
    subst (λ (z : Shape). Larger z sh') k (grows_larger sh₀ sh' f.0)

-- a call that is judged fine
pub larger_fine : (v : Value) (c : Call) (H : Memory) (a : ℕ → ℕ) (g w : ℕ) (sh sh' : Shape) → Typed c.edit → judge v c ≡ fine →
    Shows H a g w (value_at v c.path) → shape_in (value_at v c.path) ≡ Some sh → making c.edit (value_at v c.path) ≡ rebuild sh' → Larger sh sh'
larger_fine v c H a g w sh sh' typed ok shown is m =
    let f = fine_ruling v c ok in larger_by c.edit H a g w (value_at v c.path) sh sh' typed shown f.0 f.1 is m

pub fits_fine : (v : Value) (c : Call) (sh' : Shape) → judge v c ≡ fine → making c.edit (value_at v c.path) ≡ rebuild sh' → too_large sh' ≡ false
fits_fine v c sh' ok m = subst (λ (z : Making). makes_too_large z ≡ false) m (fine_ruling v c ok).1
