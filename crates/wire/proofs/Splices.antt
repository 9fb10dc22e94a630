-- Some bits of a word replaced: these are read back, and no others change.
use Rattle.std.proofs.Common.{◌≡◌, ℕ, zero, suc, ◌+◌, ◌-◌, ◌*◌, ◌/◌, ◌%◌, ◌^◌, ◌<◌, ◌≤◌, ◌⊎◌, sym, ap, ◌∙◌, subst, inl, inr, arith}
use Rattle.std.proofs.Math.Nat.{mul_comm}
use lib.Pow.{mod-mod-pow}
use Rattle.std.proofs.lemmas.Nat.{pow_pos, pow-add, mul-add-lt, mod-pow-add, mod_below, shr_split, shr_below, shr-shr, shr_high, mod_low, field_of, shl_whole}
use Rattle.wire.specs.Sizes.{element_bits}
use Rattle.wire.specs.Elements.{picked, patched, element_word, element_bit, element_in, element_put}

-- digits q and b side by side
pub join_lt : (j n q b : ℕ) → q < 2 ^ j → b < 2 ^ n → q * 2 ^ n + b < 2 ^ (j + n)
join_lt j n q b h l = rw (pow-add 2 j n, mul_comm (2 ^ j) (2 ^ n)) (mul-add-lt q (2 ^ n) b (2 ^ j) h l)

-- ## The word by its parts

-- above the bits, the bits, below them
pub three_parts : (word k n : ℕ) → patched word k n (picked word k n) ≡ word
three_parts word k n =
    let e = shr_split word (n + k) in
    let f = mod-pow-add word n k in
    omega arith

-- the bits in their place, and the lower ones
pub field_lt : (word k n b : ℕ) → b < 2 ^ n → b * 2 ^ k + word % 2 ^ k < 2 ^ (n + k)
field_lt word k n b h = join_lt n k b (word % 2 ^ k) h (mod_below word (2 ^ k) (pow_pos k))

pub patched_lt : (word k n b : ℕ) → word < 2 ^ 64 → k + n ≤ 64 → b < 2 ^ n → patched word k n b < 2 ^ 64
patched_lt word k n b w h l =
    let e : 64 ≡ (64 - (n + k)) + (n + k) = omega arith in
    let q : word / 2 ^ (n + k) < 2 ^ (64 - (n + k)) = shr_below word (64 - (n + k)) (n + k) (subst (λ (i : ℕ). word < 2 ^ i) e w) in
    let j = join_lt (64 - (n + k)) (n + k) (word / 2 ^ (n + k)) (b * 2 ^ k + word % 2 ^ k) q (field_lt word k n b l) in
    let f : word / 2 ^ (n + k) * 2 ^ (n + k) + (b * 2 ^ k + word % 2 ^ k) < 2 ^ 64 =
    subst (λ (i : ℕ). word / 2 ^ (n + k) * 2 ^ (n + k) + (b * 2 ^ k + word % 2 ^ k) < 2 ^ i) (sym e) j in
    omega arith

-- ## What shifts of 64 bits compute

-- the bits leave, others come
pub swapped : (word k n b : ℕ) → (word - picked word k n * 2 ^ k) + b * 2 ^ k ≡ patched word k n b
swapped word k n b = let e = three_parts word k n in omega arith

pub shifted_up : (k n b : ℕ) → k + n ≤ 64 → b < 2 ^ n → (b * 2 ^ k) % 2 ^ 64 ≡ b * 2 ^ k
shifted_up k n b h l = shl_whole b n k 64 l (omega arith)

-- ## Read after a replacement

patched_cut : (word k n b : ℕ) → patched word k n b ≡ (word / 2 ^ (n + k) * 2 ^ n + b) * 2 ^ k + word % 2 ^ k
patched_cut word k n b = rw (pow-add 2 n k) (omega arith)

-- the bits themselves
pub patched_here : (word k n b : ℕ) → b < 2 ^ n → picked (patched word k n b) k n ≡ b
patched_here word k n b h =
    rw (patched_cut word k n b, shr_high (word / 2 ^ (n + k) * 2 ^ n + b) k (word % 2 ^ k) (mod_below word (2 ^ k) (pow_pos k)), mod_low (word / 2 ^ (n + k)) n b h)

patched_high : (word k n b : ℕ) → b < 2 ^ n → patched word k n b / 2 ^ (n + k) ≡ word / 2 ^ (n + k)
patched_high word k n b h =
    let e : patched word k n b ≡ word / 2 ^ (n + k) * 2 ^ (n + k) + (b * 2 ^ k + word % 2 ^ k) = omega arith in
    rw e (shr_high (word / 2 ^ (n + k)) (n + k) (b * 2 ^ k + word % 2 ^ k) (field_lt word k n b h))

-- all that lies above
pub patched_above : (word k n b t : ℕ) → b < 2 ^ n → n + k ≤ t → patched word k n b / 2 ^ t ≡ word / 2 ^ t
patched_above word k n b t h l =
    let e : t ≡ (n + k) + (t - (n + k)) = omega arith in
    rw e
    (sym (shr-shr (patched word k n b) (n + k) (t - (n + k))) ∙
    (ap (λ z. z / 2 ^ (t - (n + k))) (patched_high word k n b h) ∙ shr-shr word (n + k) (t - (n + k))))

patched_low : (word k n b : ℕ) → patched word k n b % 2 ^ k ≡ word % 2 ^ k
patched_low word k n b =
    rw (patched_cut word k n b) (mod_low (word / 2 ^ (n + k) * 2 ^ n + b) k (word % 2 ^ k) (mod_below word (2 ^ k) (pow_pos k)))

-- bits below bit k are those of the remainder
low_field : (word k m t : ℕ) → m + t ≤ k → picked word t m ≡ word % 2 ^ k % 2 ^ (m + t) / 2 ^ t
low_field word k m t h =
    let e : k ≡ (k - (m + t)) + (m + t) = omega arith in
    sym (field_of word m t) ∙
    ap (λ z. z / 2 ^ t) (sym (subst (λ z. word % 2 ^ z % 2 ^ (m + t) ≡ word % 2 ^ (m + t)) (sym e) (mod-mod-pow word (k - (m + t)) (m + t))))

-- all that lies below
pub patched_below : (word k n b m t : ℕ) → m + t ≤ k → picked (patched word k n b) t m ≡ picked word t m
patched_below word k n b m t h =
    low_field (patched word k n b) k m t h ∙ (ap (λ z. z % 2 ^ (m + t) / 2 ^ t) (patched_low word k n b) ∙ sym (low_field word k m t h))

pub patched_apart : (word k n b t : ℕ) → b < 2 ^ n → (n + k ≤ t) ⊎ (n + t ≤ k) → picked (patched word k n b) t n ≡ picked word t n
patched_apart word k n b t h (inl l) = ap (λ z. z % 2 ^ n) (patched_above word k n b t h l)
patched_apart word k n b t h (inr l) = patched_below word k n b n t l

-- ## Elements

-- two elements of a word have no bit in common
elements_apart : (c i j : ℕ) → c < 6 → element_word c j ≡ element_word c i → (j ≡ i → ⊥) →
    (element_bits c + element_bit c i ≤ element_bit c j) ⊎ (element_bits c + element_bit c j ≤ element_bit c i)
elements_apart zero i j h e n = inl (omega arith)
elements_apart (suc zero) i j h e n = grind arith
elements_apart (suc (suc zero)) i j h e n = grind arith
elements_apart (suc (suc (suc zero))) i j h e n = grind arith
elements_apart (suc (suc (suc (suc zero)))) i j h e n = grind arith
elements_apart (suc (suc (suc (suc (suc m))))) i j h e n = absurd (n (omega arith))

pub element_back : (word c i b : ℕ) → b < 2 ^ element_bits c → element_in (element_put word c i b) c i ≡ b
element_back word c i b h = patched_here word (element_bit c i) (element_bits c) b h

pub element_others : (word c i b j : ℕ) → c < 6 → b < 2 ^ element_bits c → element_word c j ≡ element_word c i → (j ≡ i → ⊥) →
    element_in (element_put word c i b) c j ≡ element_in word c j
element_others word c i b j l h e n =
    patched_apart word (element_bit c i) (element_bits c) b (element_bit c j) h (elements_apart c i j l e n)
