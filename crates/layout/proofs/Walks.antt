-- Zeroing on words that show a value: what the loop keeps, event by event.
use Rattle.std.proofs.Common.{◌≡◌, ℕ, ◌^◌, ◌<◌, ◌≤◌, eqb, ltb, ◌≢◌, List, [], ◌∷◌, map, sym, refl, ap, ◌∙◌, subst, ap₂, ⊎_elim, arith}
use mathlib.Core.Path.{fun_ext}
use Rattle.std.proofs.lemmas.Bool.{cond-true, cond-false, lt-ltb, le-ltb, eq-eqb, ne_eqb, cases_lt}
use Rattle.tree.specs.Value.{Shape, Value, null, object}
use Rattle.tree.specs.Shows.{Memory, Landing, land, Shows, reach}
use Rattle.tree.specs.Decode.{Deep}
use Rattle.tree.specs.Loops.{Pending, left_in, Wiping}
use Rattle.tree.proofs.Roads.{paved_live}
use Rattle.tree.proofs.Frame.{Agree, agree_land, land_same, frame}
use Rattle.tree.proofs.Decoding.{describes_shape}
use Rattle.tree.proofs.Wipe.{wipe_start, wipe_recount, left_begin}
use Rattle.law.specs.Exact.{zeroed}
use Rattle.cursor.specs.Begun.{Begun, begun, first_row}
use Rattle.cursor.specs.Steps.{starting}
use Rattle.layout.proofs.Pendings.{begun_by, Standing, first_of, first_left, first_stands}

-- a list that is a map of another, from its head on
module _ (H : Memory) (b : Begun) (os : List Begun) where
  pub not_empty : {X : Type 0} → (bs : List Begun) → bs ≡ b ∷ os → bs ≡ [] → X
  not_empty bs e f = let z : ◌≡◌ {A = ℕ} 0 1 = cc (e, f) in absurd (omega arith)

  pub head_is : (p : Pending) (ps : List Pending) (bs : List Begun) → bs ≡ b ∷ os → bs ≡ map (begun_by H) (p ∷ ps) → b ≡ begun_by H p
  head_is p ps bs e f = cc (e, f)

  pub tail_is : (p : Pending) (ps : List Pending) (bs : List Begun) → bs ≡ b ∷ os → bs ≡ map (begun_by H) (p ∷ ps) → os ≡ map (begun_by H) ps
  tail_is p ps bs e f = cc (e, f)

-- a live slot that shows a value shows an object, whose parts are
pub record Object (v : Value) : Type 0 where
  pub shape : Shape
  pub numbers : ℕ → ℕ → ℕ
  pub children : ℕ → ℕ → Value
  pub is : v ≡ object shape numbers children

pub live_object : (H : Memory) (a : ℕ → ℕ) (s q : ℕ) (v : Value) → Shows H a s q v → H s q ≢ 0 → Object v
live_object H a s q null shown live = absurd (live shown)
live_object H a s q (object sh dat kid) shown live = record { shape = sh; numbers = dat; children = kid; is = refl }

pub dead_null : (H : Memory) (a : ℕ → ℕ) (s q : ℕ) (v : Value) → Shows H a s q v → H s q ≡ 0 → v ≡ null
dead_null H a s q null shown z = refl
dead_null H a s q (object sh dat kid) shown z = absurd (paved_live H s q shown.0 z)

-- an object that begins, where H is as H₀ in all that its slot reaches
pub begins_as : (H₀ H : Memory) (a : ℕ → ℕ) (s q : ℕ) (sh : Shape) (dat : ℕ → ℕ → ℕ) (kid : ℕ → ℕ → Value) → Agree H₀ H s q (object sh dat kid) →
    Shows H₀ a s q (object sh dat kid) → begun H s q ≡ begun_by H₀ (first_of s q sh kid)
begins_as H₀ H a s q sh dat kid same shown =
    let there = frame H₀ H a a (λ x. omega arith) (object sh dat kid) s q same shown in
    let l : land H s q ≡ land H₀ s q = land_same H₀ H s q same.0 (agree_land H₀ H sh dat kid s q same) in
    let e = describes_shape (land H s q).said (H (land H s q).seg (land H s q).pos) sh there.1.described in
    ap₂ (λ (k : Landing) (z : Shape). record { place = k; shape = z; row = first_row z; pointer = 0 }) l e

-- ## What the loop keeps

-- the objects begun are pending ones, which stand in H₀, and what is left of them is all that is left
pub record Walking (H₀ : Memory) (a : ℕ → ℕ) (g w : ℕ) (u : Value) (H : Memory) (bs : List Begun) : Type 0 where
  pub stacked : List Pending
  pub frames : bs ≡ map (begun_by H₀) stacked
  pub standing : Standing H₀ a stacked
  pub wiping : Wiping H₀ g w u H (left_in H₀ stacked)

-- the same for whatever value the slot shows
abbrev pub Clearing : (H₀ : Memory) → (g w : ℕ) → (H : Memory) → List Begun → Type 0
Clearing H₀ g w H bs =
    (a : ℕ → ℕ) (u : Value) → ((x : ℕ) → a x ≤ 2 ^ 29) → Shows H₀ a g w u → Deep 64 u → ((x y : ℕ) → reach H₀ g w u x y ≤ 1) →
    Walking H₀ a g w u H bs

pub walk_starts : (H : Memory) (a : ℕ → ℕ) (g w : ℕ) (u : Value) → Shows H a g w u → Deep 64 u → (bs : List Begun) → bs ≡ starting H g w →
    Walking H a g w u H bs
walk_starts H a g w null shown deep bs e = record {
  stacked = [];
  frames = e ∙ cond-true (eqb (H g w) 0) [] (begun H g w ∷ []) (eq-eqb (H g w) 0 shown);
  standing = tt;
  wiping = wipe_start H g w null;
}
walk_starts H a g w (object sh dat kid) shown deep bs e = record {
  stacked = first_of g w sh kid ∷ [];
  frames = e ∙
      (cond-false (eqb (H g w) 0) [] (begun H g w ∷ []) (ne_eqb (H g w) 0 (paved_live H g w shown.0)) ∙
      ap (λ (b : Begun). b ∷ []) (begins_as H H a g w sh dat kid (refl, λ x y _. refl) shown));
  standing = (first_stands H a 0 g w sh dat kid (omega arith) shown deep, tt);
  wiping = wipe_recount H g w (object sh dat kid) H (reach H g w (object sh dat kid)) (left_in H (first_of g w sh kid ∷ []))
      (λ x y. omega (arith, first_left H g w sh kid x y, left_begin H g w sh dat kid x y))
      (wipe_start H g w (object sh dat kid));
}

pub walk_ends : (H₀ : Memory) (a : ℕ → ℕ) (g w : ℕ) (u : Value) (H : Memory) (bs : List Begun) → bs ≡ [] → Walking H₀ a g w u H bs →
    H ≡ zeroed H₀ (reach H₀ g w u)
walk_ends H₀ a g w u H bs e k =
    let z : left_in H₀ k.stacked ≡ (λ x y. 0) = ap (left_in H₀) (none k.stacked (sym k.frames ∙ e)) in
    let ok : Wiping H₀ g w u H (λ x y. 0) = subst (λ (f : ℕ → ℕ → ℕ). Wiping H₀ g w u H f) z k.wiping in
    fun_ext (λ x. fun_ext (λ y.
    ⊎_elim
    (λ (h : 0 < reach H₀ g w u x y). ok.gone x y refl h ∙ sym (cond-true (ltb 0 (reach H₀ g w u x y)) 0 (H₀ x y) (lt-ltb 0 (reach H₀ g w u x y) h)))
    (λ (h : reach H₀ g w u x y ≤ 0). ok.others x y (omega arith) ∙ sym (cond-false (ltb 0 (reach H₀ g w u x y)) 0 (H₀ x y) (le-ltb 0 (reach H₀ g w u x y) h)))
    (cases_lt 0 (reach H₀ g w u x y))))
  where
    none : (ps : List Pending) → map (begun_by H₀) ps ≡ [] → ps ≡ []
    none [] f = refl
    none (p ∷ ps) f = let z : ◌≡◌ {A = ℕ} 0 1 = cc f in absurd (omega arith)
