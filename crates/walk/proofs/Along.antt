-- Steps along a path: one after another, and on words that show a tree.
use Rattle.std.proofs.Common.{◌≡◌, ℕ, suc, ◌+◌, ◌^◌, ◌<◌, ◌≤◌, Bool, true, false, cond, ◌&&◌, eqb, ltb, List, [], ◌∷◌, length, Some, None, Ok, Option, Result, sym, refl, ap, ◌∙◌, ⊎_elim, zero-add, arith}
use Rattle.std.proofs.lemmas.Bool.{cond-true, cond-false, eq-eqb, ne_eqb, lt-ltb, le-ltb, ltb-true, and_parts, cases_Bool, cases_lt}
use Rattle.tree.specs.Value as value
use Rattle.tree.specs.Value.{Shape, Value, null, object, rows, pointers, slot, size}
use Rattle.tree.specs.Shows.{Memory, Landing, land, Shows, walk}
use Rattle.tree.specs.Decode.{shape_at}
use Rattle.tree.proofs.Roads.{paved_live}
use Rattle.tree.proofs.Shapes.{slot_in}
use Rattle.tree.proofs.Decoding.{describes_shape}
use Rattle.law.specs.Machine.{meets, went}
use Rattle.path.specs.declared.step.Step.{Step}
use Rattle.walk.specs.declared.route.Nowhere.{Nowhere}
use Rattle.walk.specs.declared.spot.Spot.{Spot}
use Rattle.walk.specs.Spots.{spot_at, counted_word}
use Rattle.walk.specs.Slots as slots
use Rattle.walk.specs.Slots.{nowhere_at, step_of, steps_of, next_slot, slots_along, place_in}

-- where a step leads, and the rest of the path from there
abbrev after : Memory → List Step → (i : ℕ) → Option Spot → Result Spot Nowhere
after H ss i o = elim o [ None ↦ nowhere_at i | Some q ↦ slots_along H q ss (i + 1) ]

-- ## On words that show a tree

-- where a walk through a value ends
abbrev pub walked : Memory → (g w : ℕ) → Value → List value.Step → Spot
walked H g w v p = spot_at (walk H g w v p).0 (walk H g w v p).1

-- what a step meets in an object
module _ (H : Memory) (a : ℕ → ℕ) (small : (x : ℕ) → a x ≤ 2 ^ 29) (g w : ℕ) (sh : Shape) (dat : ℕ → ℕ → ℕ) (kid : ℕ → ℕ → Value) (shown : Shows H a g w (object sh dat kid)) (s : value.Step) where
  abbrev here : Landing
  here = land H g w

  abbrev led : Option Spot
  led = counted_word here.seg (here.pos + slot sh s.element s.pointer_number)

  into : next_slot H (spot_at g w) s ≡ cond (meets sh s) led None
  into =
      cond-false (eqb (H g w) 0) None (slots.slot_in here (shape_at H here) s) (ne_eqb (H g w) 0 (paved_live H g w shown.0)) ∙
      ap (λ (k : Shape). slots.slot_in here k s) (describes_shape here.said (H here.seg here.pos) sh shown.1.described)

  pub goes_in : meets sh s ≡ true → next_slot H (spot_at g w) s ≡ Some (spot_at here.seg (here.pos + slot sh s.element s.pointer_number))
  goes_in m =
      let p = and_parts (eqb s.kind (value.step_kind sh)) (ltb s.element (rows sh) && ltb s.pointer_number (pointers sh)) m in
      let q = and_parts (ltb s.element (rows sh)) (ltb s.pointer_number (pointers sh)) p.1 in
      let i = slot_in sh s.element s.pointer_number (ltb-true s.element (rows sh) q.0) (ltb-true s.pointer_number (pointers sh) q.1) in
      let n = shown.1.inside in
      let b = small here.seg in
      let l : here.pos + slot sh s.element s.pointer_number < 2 ^ 64 = omega arith in
      into ∙ (cond-true (meets sh s) led None m ∙ cond-true (ltb (here.pos + slot sh s.element s.pointer_number) (2 ^ 64)) _ None (lt-ltb (here.pos + slot sh s.element s.pointer_number) (2 ^ 64) l))

  pub goes_nowhere : meets sh s ≡ false → next_slot H (spot_at g w) s ≡ None
  goes_nowhere m = into ∙ cond-false (meets sh s) led None m

-- the same place from the slot (g, w) on, with the steps counted from i
abbrev pub place_from : Memory → (g w : ℕ) → Value → List value.Step → (i : ℕ) → Result Spot Nowhere
place_from H g w v p i = cond (ltb (went v p) (length p)) (nowhere_at (i + went v p)) (Ok (walked H g w v p))

length_steps : (ss : List Step) → length (steps_of ss) ≡ length ss
length_steps [] = refl
length_steps (s ∷ ss) = ap suc (length_steps ss)

first_fails : (n k : ℕ) (x : Spot) → cond (ltb 0 (suc n)) (nowhere_at k) (Ok x) ≡ nowhere_at k
first_fails n k x = cond-true (ltb 0 (suc n)) (nowhere_at k) (Ok x) (lt-ltb 0 (suc n) (omega arith))

-- a step more: the count of those that went, and the place
more_went : (b : Bool) (n k i : ℕ) (x : Spot) → b ≡ ltb n k →
    cond b (nowhere_at (i + 1 + n)) (Ok x) ≡ cond (ltb (1 + n) (suc k)) (nowhere_at (i + (1 + n))) (Ok x)
more_went b n k i x e =
    let f : ltb n k ≡ ltb (1 + n) (suc k) = ⊎_elim
    (λ (h : n < k). lt-ltb n k h ∙ sym (lt-ltb (1 + n) (suc k) (omega arith)))
    (λ (h : k ≤ n). le-ltb n k h ∙ sym (le-ltb (1 + n) (suc k) (omega arith)))
    (cases_lt n k) in
    let a : i + 1 + n ≡ i + (1 + n) = omega arith in
    ap (λ (c : Bool). cond c (nowhere_at (i + 1 + n)) (Ok x)) (e ∙ f) ∙
    ap (λ (m : ℕ). cond (ltb (1 + n) (suc k)) (nowhere_at m) (Ok x)) a

pub along_tree : (H : Memory) (a : ℕ → ℕ) (small : (x : ℕ) → a x ≤ 2 ^ 29) (ss : List Step) (v : Value) (g w i : ℕ) → Shows H a g w v →
    slots_along H (spot_at g w) ss i ≡ place_from H g w v (steps_of ss) i
along_tree H a small [] v g w i shown = refl
along_tree H a small (s ∷ ss) null g w i shown =
    let n : next_slot H (spot_at g w) (step_of s) ≡ None = cond-true (eqb (H g w) 0) None _ (eq-eqb (H g w) 0 shown) in
    let z : i ≡ i + 0 = omega arith in
    ap (after H ss i) n ∙ (ap nowhere_at z ∙ sym (first_fails (length (steps_of ss)) (i + 0) (spot_at g w)))
along_tree H a small (s ∷ ss) (object sh dat kid) g w i shown =
    ⊎_elim
    (λ (m : meets sh (step_of s) ≡ true).
    let k : Value = kid s.element s.pointer in
    let l : Landing = land H g w in
    let q : ℕ = l.pos + slot sh s.element s.pointer in
    let p = and_parts (eqb s.kind (value.step_kind sh)) (ltb s.element (rows sh) && ltb s.pointer (pointers sh)) m in
    let o = and_parts (ltb s.element (rows sh)) (ltb s.pointer (pointers sh)) p.1 in
    let below = shown.2 s.element s.pointer (ltb-true s.element (rows sh) o.0) (ltb-true s.pointer (pointers sh) o.1) in
    let again = along_tree H a small ss k l.seg q (i + 1) below in
    let steps : List value.Step = steps_of ss in
    ap (after H ss i) (goes_in H a small g w sh dat kid shown (step_of s) m) ∙
    (again ∙
    (more_went (ltb (went k steps) (length steps)) (went k steps) (length steps) i (walked H l.seg q k steps) refl ∙
    ap (λ (n : ℕ). cond (ltb n (suc (length steps))) (nowhere_at (i + n)) (Ok (walked H l.seg q k steps)))
    (sym (cond-true (meets sh (step_of s)) (1 + went k steps) 0 m)))))
    (λ (m : meets sh (step_of s) ≡ false).
    let k : Value = kid s.element s.pointer in
    let steps : List value.Step = steps_of ss in
    let z : i ≡ i + 0 = omega arith in
    let n = cond-false (meets sh (step_of s)) (1 + went k steps) 0 m in
    ap (after H ss i) (goes_nowhere H a small g w sh dat kid shown (step_of s) m) ∙
    (ap nowhere_at z ∙ (sym (first_fails (length steps) (i + 0) (walked H (land H g w).seg ((land H g w).pos + slot sh s.element s.pointer) k steps)) ∙
    ap (λ (j : ℕ). cond (ltb j (suc (length steps))) (nowhere_at (i + j)) (Ok (walked H (land H g w).seg ((land H g w).pos + slot sh s.element s.pointer) k steps))) (sym n))))
    (cases_Bool (meets sh (step_of s)))

pub along_root : (H : Memory) (a : ℕ → ℕ) (small : (x : ℕ) → a x ≤ 2 ^ 29) (ss : List Step) (v : Value) → Shows H a 0 0 v →
    slots_along H (spot_at 0 0) ss 0 ≡ place_in H v (steps_of ss)
along_root H a small ss v shown =
    along_tree H a small ss v 0 0 0 shown ∙
    ap (λ (n : ℕ). cond (ltb (went v (steps_of ss)) (length (steps_of ss))) (nowhere_at n) (Ok (walked H 0 0 v (steps_of ss)))) (zero-add (went v (steps_of ss)))
