-- A text's words, written one after another.
use Rattle.std.proofs.Common.{◌≡◌, ℕ, ◌+◌, ◌-◌, ◌*◌, ◌/◌, ◌<◌, ◌≤◌, cond, ltb, ◌≢◌, ◌⊎◌, List, length, get_or, sym, refl, ap, ◌∙◌, inl, inr, ⊎_elim, arith}
use mathlib.Core.Path.{fun_ext}
use Rattle.std.proofs.lemmas.Bool.{cases_eq}
use Rattle.tree.specs.Value.{size, change}
use Rattle.tree.specs.Shows.{Memory, within, total}
use Rattle.tree.proofs.Context.{change_here, change_else}
use Rattle.tree.proofs.Count.{within_in, within_none, within_cases}
use Rattle.table.specs.Segments.{Table, allocated_in}
use Rattle.law.specs.Machine.{text_shape}
use Rattle.law.specs.Exact.{text_word, spelled}

-- the sum of eight bytes
pub text_sum : (bytes : List ℕ) (k b0 b1 b2 b3 b4 b5 b6 b7 : ℕ) → b0 ≡ get_or bytes (k * 8) 0 → b1 ≡ get_or bytes (k * 8 + 1) 0 → b2 ≡ get_or bytes (k * 8 + 2) 0 →
    b3 ≡ get_or bytes (k * 8 + 3) 0 → b4 ≡ get_or bytes (k * 8 + 4) 0 → b5 ≡ get_or bytes (k * 8 + 5) 0 → b6 ≡ get_or bytes (k * 8 + 6) 0 → b7 ≡ get_or bytes (k * 8 + 7) 0 →
    b0 + b1 * 256 + b2 * 65536 + b3 * 16777216 + b4 * 4294967296 + b5 * 1099511627776 + b6 * 281474976710656 + b7 * 72057594037927936 ≡ text_word bytes k
unfolding total
text_sum bytes k b0 b1 b2 b3 b4 b5 b6 b7 e0 e1 e2 e3 e4 e5 e6 e7 =
    let s0 : k * 8 ≡ 8 * k + 0 = omega arith in
    let same : (j : ℕ) → get_or bytes (k * 8 + j) 0 ≡ get_or bytes (8 * k + j) 0 = λ j. let e : k * 8 + j ≡ 8 * k + j = omega arith in ap (λ (i : ℕ). get_or bytes i 0) e in
    let f0 = e0 ∙ ap (λ (i : ℕ). get_or bytes i 0) s0 in
    let f1 = e1 ∙ same 1 in
    let f2 = e2 ∙ same 2 in
    let f3 = e3 ∙ same 3 in
    let f4 = e4 ∙ same 4 in
    let f5 = e5 ∙ same 5 in
    let f6 = e6 ∙ same 6 in
    let f7 = e7 ∙ same 7 in
    omega arith

-- the first k words are written
abbrev pub partly : Memory → (s t : ℕ) → List ℕ → (k : ℕ) → Memory
partly H s t bytes k x y = cond (ltb 0 (within s t k x y)) (text_word bytes (y - t)) (H x y)

pub partly_none : (H : Memory) (s t : ℕ) (bytes : List ℕ) → H ≡ partly H s t bytes 0
partly_none H s t bytes = fun_ext (λ x. fun_ext (λ y. let e = within_none s t x y in rw e refl))

pub partly_more : (H : Memory) (s t : ℕ) (bytes : List ℕ) (k : ℕ) → change (partly H s t bytes k) s (t + k) (text_word bytes k) ≡ partly H s t bytes (k + 1)
partly_more H s t bytes k = fun_ext (λ x. fun_ext (λ y. at x y (cases_eq x s) (cases_eq y (t + k))))
  where
    -- another word than the one just written is in the first k + 1 if it is in the first k
    same : (x y : ℕ) → (x ≡ s → y ≡ t + k → ⊥) → within s t k x y ≡ within s t (k + 1) x y
    same x y n =
        ⊎_elim
        (λ (h : (within s t k x y ≡ 1) × (x ≡ s) × (t ≤ y) × (y < t + k)). h.0 ∙ sym (within_in s t (k + 1) x y h.1 h.2 (omega arith)))
        (λ (h : within s t k x y ≡ 0).
        ⊎_elim
        (λ (j : (within s t (k + 1) x y ≡ 1) × (x ≡ s) × (t ≤ y) × (y < t + (k + 1))).
        ⊎_elim
        (λ (e : y ≡ t + k). absurd (n j.1 e))
        (λ (d : y ≢ t + k). let z = within_in s t k x y j.1 j.2 (omega arith) in absurd (omega arith))
        (cases_eq y (t + k)))
        (λ (j : within s t (k + 1) x y ≡ 0). h ∙ sym j)
        (within_cases s t (k + 1) x y))
        (within_cases s t k x y)

    else : (x y : ℕ) → (x ≡ s → y ≡ t + k → ⊥) → change (partly H s t bytes k) s (t + k) (text_word bytes k) x y ≡ partly H s t bytes (k + 1) x y
    else x y n =
        change_else (partly H s t bytes k) s (t + k) (text_word bytes k) x y n ∙
        ap (λ (c : ℕ). cond (ltb 0 c) (text_word bytes (y - t)) (H x y)) (same x y n)

    at : (x y : ℕ) → (x ≡ s) ⊎ (x ≡ s → ⊥) → (y ≡ t + k) ⊎ (y ≡ t + k → ⊥) →
        change (partly H s t bytes k) s (t + k) (text_word bytes k) x y ≡ partly H s t bytes (k + 1) x y
    at x y (inl e) (inl f) =
        let one = within_in s t (k + 1) s (t + k) refl (omega arith) (omega arith) in
        let back : t + k - t ≡ k = omega arith in
        rw (e, f, one, back) (change_here (partly H s t bytes k) s (t + k) (text_word bytes k))
    at x y (inl e) (inr n) = else x y (λ _. n)
    at x y (inr n) f = else x y (λ e _. n e)

pub partly_all : (H : Memory) (s t : ℕ) (bytes : List ℕ) (k : ℕ) → k ≡ length bytes / 8 + 1 → partly H s t bytes k ≡ spelled H s t bytes
partly_all H s t bytes k e =
    let n : k ≡ size (text_shape bytes) = omega arith in
    ap (partly H s t bytes) n

-- one word more
pub spell_step : (H N K : Memory) (s t : ℕ) (bytes : List ℕ) (k u x : ℕ) → N ≡ partly H s t bytes k → K ≡ change N s u x → u ≡ t + k → x ≡ text_word bytes k →
    K ≡ partly H s t bytes (k + 1)
spell_step H N K s t bytes k u x e f i j =
    f ∙ (ap (λ (M : Memory). change M s u x) e ∙
    (ap (λ (n : ℕ). change (partly H s t bytes k) s n x) i ∙ (ap (λ (y : ℕ). change (partly H s t bytes k) s (t + k) y) j ∙ partly_more H s t bytes k)))

pub word_inside : (bytes : List ℕ) (t u : Table) (s p k w : ℕ) → u ≡ t → p + size (text_shape bytes) ≤ allocated_in t s → k < length bytes / 8 + 1 → w ≡ p + k →
    w < allocated_in u s
word_inside bytes t u s p k w e h l f = let a : allocated_in u s ≡ allocated_in t s = ap (λ (x : Table). allocated_in x s) e in omega arith
