-- Where the parts of an object stand.
use Rattle.std.proofs.Common.{◌≡◌, ℕ, ◌+◌, ◌-◌, ◌*◌, ◌/◌, ◌%◌, ◌^◌, ◌<◌, ◌≤◌, ◌≢◌, ◌⊎◌, refl, ap, ◌∙◌, inl, inr, mul-le-mul_right, arith}
use native.Mathlib.Nat.{zero-div, zero-mod}
use Rattle.std.proofs.lemmas.Bool.{cases_lt}
use Rattle.wire.specs.Sizes.{element_bits, list_words}
use Rattle.wire.specs.Elements.{element_word, element_bit, element_in}
use Rattle.tree.specs.Value.{Element, void, bit, byte, two_bytes, four_bytes, eight_bytes, pointer, Shape, structure, plain, composite, rows, pointers, places, size, slot, head, number, element_pointers, element_code}

-- the whole row below n fits
pub row_fits : (i n s : ℕ) → i < n → i * s + s ≤ n * s
row_fits i n s h = omega (arith, mul-le-mul_right s h)

pub slot_in : (sh : Shape) (i j : ℕ) → i < rows sh → j < pointers sh → slot sh i j < size sh
slot_in (structure dw pw) i j hi hj = omega arith
slot_in (plain void n) i j hi hj = absurd (omega arith)
slot_in (plain bit n) i j hi hj = absurd (omega arith)
slot_in (plain byte n) i j hi hj = absurd (omega arith)
slot_in (plain two_bytes n) i j hi hj = absurd (omega arith)
slot_in (plain four_bytes n) i j hi hj = absurd (omega arith)
slot_in (plain eight_bytes n) i j hi hj = absurd (omega arith)
slot_in (plain pointer n) i j hi hj = omega arith
slot_in (composite n dw pw) i j hi hj = omega (arith, row_fits i n (dw + pw) hi)

-- two rows' places are the same only if the rows and the places are
pub row_apart : (i k s j l : ℕ) → j < s → l < s → i * s + j ≡ k * s + l → i ≡ k
row_apart i k s j l hj hl e = go (cases_lt i k) (cases_lt k i)
  where
    go : (i < k) ⊎ (k ≤ i) → (k < i) ⊎ (i ≤ k) → i ≡ k
    go (inl h) q = absurd (omega (arith, row_fits i k s h))
    go (inr h) (inl q) = absurd (omega (arith, row_fits k i s q))
    go (inr h) (inr q) = omega arith

pub slot_apart : (sh : Shape) (i j k l : ℕ) → i < rows sh → j < pointers sh → k < rows sh → l < pointers sh →
    slot sh i j ≡ slot sh k l → (i ≡ k) × (j ≡ l)
slot_apart (structure dw pw) i j k l hi hj hk hl e = (omega arith, omega arith)
slot_apart (plain void n) i j k l hi hj hk hl e = absurd (omega arith)
slot_apart (plain bit n) i j k l hi hj hk hl e = absurd (omega arith)
slot_apart (plain byte n) i j k l hi hj hk hl e = absurd (omega arith)
slot_apart (plain two_bytes n) i j k l hi hj hk hl e = absurd (omega arith)
slot_apart (plain four_bytes n) i j k l hi hj hk hl e = absurd (omega arith)
slot_apart (plain eight_bytes n) i j k l hi hj hk hl e = absurd (omega arith)
slot_apart (plain pointer n) i j k l hi hj hk hl e = (e, omega arith)
slot_apart (composite n dw pw) i j k l hi hj hk hl e =
    let q : i ≡ k = row_apart i k (dw + pw) (dw + j) (dw + l) (omega arith) (omega arith) (omega arith) in
    (q, omega (arith, ap (λ z. z * (dw + pw)) q))

-- an element that has bits stands in the list's words, and one without is 0
no_bits : (x y k : ℕ) → x / 2 ^ k % 2 ^ 0 ≡ y / 2 ^ k % 2 ^ 0
no_bits x y k = omega arith

element_local : (c : Element) (n : ℕ) (ws us : ℕ → ℕ) (i : ℕ) → i < n → 0 < 1 - element_pointers c →
    ((m : ℕ) → m < list_words (element_code c) n → us m ≡ ws m) →
    element_in (us (element_word (element_code c) i)) (element_code c) i ≡ element_in (ws (element_word (element_code c) i)) (element_code c) i
element_local void n ws us i hi hk e = no_bits _ _ _
element_local bit n ws us i hi hk e = ap (λ z. element_in z 1 i) (e (element_word 1 i) (omega arith))
element_local byte n ws us i hi hk e = ap (λ z. element_in z 2 i) (e (element_word 2 i) (omega arith))
element_local two_bytes n ws us i hi hk e = ap (λ z. element_in z 3 i) (e (element_word 3 i) (omega arith))
element_local four_bytes n ws us i hi hk e = ap (λ z. element_in z 4 i) (e (element_word 4 i) (omega arith))
element_local eight_bytes n ws us i hi hk e = ap (λ z. element_in z 5 i) (e (element_word 5 i) (omega arith))
element_local pointer n ws us i hi hk e = absurd (omega arith)

-- a shape's numbers depend on words of the object other than its slots
pub number_local : (sh : Shape) (ws us : ℕ → ℕ) (i k : ℕ) → i < rows sh → k < places sh →
    ((n : ℕ) → head sh ≤ n → n < size sh → ((a b : ℕ) → a < rows sh → b < pointers sh → n ≢ slot sh a b) → us n ≡ ws n) →
    number sh us i k ≡ number sh ws i k
number_local (structure dw pw) ws us i k hi hk e = e k (omega arith) (omega arith) (λ a b ha hb. omega arith)
number_local (plain c n) ws us i k hi hk e = element_local c n ws us i hi (omega arith) (λ m h. e m (omega arith) h (λ a b ha hb. absurd (omega arith)))
number_local (composite n dw pw) ws us i k hi hk e =
    e (1 + i * (dw + pw) + k) (omega arith) (omega (arith, row_fits i n (dw + pw) hi)) (λ a b ha hb q. apart a b ha hb q)
  where
    apart : (a b : ℕ) → a < n → b < pw → 1 + i * (dw + pw) + k ≢ 1 + a * (dw + pw) + dw + b
    apart a b ha hb q =
        let r : i ≡ a = row_apart i a (dw + pw) k (dw + b) (omega arith) (omega arith) (omega arith) in
        omega (arith, ap (λ z. z * (dw + pw)) r)

-- zero words show zero numbers
number_blank : (sh : Shape) (i k : ℕ) → number sh (λ n. 0) i k ≡ 0
number_blank (structure dw pw) i k = refl
number_blank (plain c n) i k = rw (zero-div (2 ^ element_bit (element_code c) i)) (zero-mod (2 ^ element_bits (element_code c)))
number_blank (composite n dw pw) i k = refl

pub number_zero : (sh : Shape) (ws : ℕ → ℕ) (i k : ℕ) → i < rows sh → k < places sh → ((n : ℕ) → head sh ≤ n → n < size sh → ws n ≡ 0) →
    number sh ws i k ≡ 0
number_zero sh ws i k hi hk e = number_local sh (λ n. 0) ws i k hi hk (λ n h l _. e n h l) ∙ number_blank sh i k

-- a slot stands behind the tag
pub slot_head : (sh : Shape) (i j : ℕ) → head sh ≤ slot sh i j
slot_head (structure dw pw) i j = omega arith
slot_head (plain c n) i j = omega arith
slot_head (composite n dw pw) i j = omega arith
