-- Which words an object leaves when it is emptied.
use Rattle.std.proofs.Common.{◌≡◌, ℕ, ◌+◌, ◌^◌, ◌<◌, ◌≤◌, min, ltb, List, sym, ap, ◌∙◌, subst, ⊎_elim, arith}
use mathlib.Core.Path.{fun_ext}
use Rattle.std.proofs.lemmas.Bool.{cond-true, cond-false, lt-ltb, le-ltb, cases_lt}
use Rattle.tree.specs.Words.{word}
use Rattle.tree.specs.Value.{Shape, structure, plain, composite}
use Rattle.tree.specs.Shows.{Memory, Way, direct, single, double, way, Landing, landing, land, Describes, span, within}
use Rattle.tree.specs.Edits.{taken}
use Rattle.tree.proofs.Count.{within_in, within_from}
use Rattle.arena.specs.Zeroed.{zeroed_words}
use Rattle.arena.proofs.Zeros.{zeroed_is}
use Rattle.layout.specs.Emptied.{object_words, span_emptied, emptied}
use Rattle.layout.specs.Clears.{Empties}

-- ## One span

module _ (m : List (List ℕ)) (g s n : ℕ) (low : s < 2 ^ 32) where
  span_is : span_emptied m g s n ≡ zeroed_words m g s n
  span_is = cond-true (ltb s (2 ^ 32)) (zeroed_words m g s n) m (lt-ltb s (2 ^ 32) low)

  span_zero : (x y : ℕ) → 1 ≤ within g s n x y → word (span_emptied m g s n) x y ≡ 0
  unfolding word
  span_zero x y h =
      let i = within_from g s n x y h in
      ap (λ (k : List (List ℕ)). word k x y) span_is ∙ (ap (λ (k : ℕ). word (zeroed_words m g s n) k y) i.0 ∙ (zeroed_is m g s n).inside y i.1 i.2)

  span_same : (x y : ℕ) → within g s n x y ≡ 0 → word (span_emptied m g s n) x y ≡ word m x y
  unfolding word
  span_same x y h =
      ap (λ (k : List (List ℕ)). word k x y) span_is ∙
      (zeroed_is m g s n).elsewhere x y (λ e l k. let i = within_in g s n x y e l k in omega arith)

-- ## The object and its pads

pub object_span : (x t : ℕ) (sh : Shape) → Describes x t sh → object_words x sh ≡ span x sh
unfolding Describes
object_span x t (structure dw pw) d = omega arith
object_span x t (plain c n) d = omega arith
object_span x t (composite n dw pw) d = omega arith

few_pads : (H : Memory) (g w x : ℕ) (k : Way) → (landing H g w x k).pad_len ≤ 2
few_pads H g w x direct = omega arith
few_pads H g w x single = omega arith
few_pads H g w x double = omega arith

pub land_pads : (H : Memory) (g w : ℕ) → (land H g w).pad_len ≤ 2
unfolding land
land_pads H g w = few_pads H g w (H g w) (way (H g w))

module _ (m : List (List ℕ)) (l : Landing) (sh : Shape) (n : ℕ) (words : object_words l.said sh ≡ n) (low : l.pos < 2 ^ 32) (low_pads : l.pad_pos < 2 ^ 32) (few : l.pad_len ≤ 2) where
  abbrev both : ℕ → ℕ → ℕ
  both x y = within l.pad_seg l.pad_pos l.pad_len x y + within l.seg l.pos n x y

  abbrev once : List (List ℕ)
  once = span_emptied m l.seg l.pos n

  emptied_is : emptied m l sh ≡ span_emptied once l.pad_seg l.pad_pos l.pad_len
  emptied_is =
      let e : min l.pad_len 2 ≡ l.pad_len = omega arith in
      ap (λ (k : ℕ). span_emptied (span_emptied m l.seg l.pos k) l.pad_seg l.pad_pos (min l.pad_len 2)) words ∙
      ap (λ (k : ℕ). span_emptied once l.pad_seg l.pad_pos k) e

  pub emptied_zero : (x y : ℕ) → 1 ≤ both x y → word (emptied m l sh) x y ≡ 0
  emptied_zero x y h =
      ap (λ (k : List (List ℕ)). word k x y) emptied_is ∙
      ⊎_elim
      (λ (p : 0 < within l.pad_seg l.pad_pos l.pad_len x y). span_zero once l.pad_seg l.pad_pos l.pad_len low_pads x y (omega arith))
      (λ (p : within l.pad_seg l.pad_pos l.pad_len x y ≤ 0).
      span_same once l.pad_seg l.pad_pos l.pad_len low_pads x y (omega arith) ∙ span_zero m l.seg l.pos n low x y (omega arith))
      (cases_lt 0 (within l.pad_seg l.pad_pos l.pad_len x y))

  pub emptied_same : (x y : ℕ) → both x y ≡ 0 → word (emptied m l sh) x y ≡ word m x y
  emptied_same x y h =
      ap (λ (k : List (List ℕ)). word k x y) emptied_is ∙
      (span_same once l.pad_seg l.pad_pos l.pad_len low_pads x y (omega arith) ∙ span_same m l.seg l.pos n low x y (omega arith))

-- as the words that it takes
empties : (m : List (List ℕ)) (l : Landing) (sh : Shape) → Empties (word m) (word (emptied m l sh)) l sh
empties m l sh t d low low_pads few =
    let n : ℕ = span l.said sh in
    let c = object_span l.said t sh d in
    fun_ext (λ x. fun_ext (λ y.
    ⊎_elim
    (λ (h : 0 < taken l sh x y).
    emptied_zero m l sh n c low low_pads few x y (omega arith) ∙ sym (cond-true (ltb 0 (taken l sh x y)) 0 (word m x y) (lt-ltb 0 (taken l sh x y) h)))
    (λ (h : taken l sh x y ≤ 0).
    emptied_same m l sh n c low low_pads few x y (omega arith) ∙ sym (cond-false (ltb 0 (taken l sh x y)) 0 (word m x y) (le-ltb 0 (taken l sh x y) h)))
    (cases_lt 0 (taken l sh x y))))

pub empties_by : (m n : List (List ℕ)) (l : Landing) (sh : Shape) → n ≡ emptied m l sh → Empties (word m) (word n) l sh
empties_by m n l sh e = subst (λ (z : List (List ℕ)). Empties (word m) (word z) l sh) (sym e) (empties m l sh)
