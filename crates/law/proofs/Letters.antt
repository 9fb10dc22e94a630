-- The bytes of a text, read back from its words.
use Rattle.std.proofs.Common.{◌≡◌, ℕ, zero, suc, ◌+◌, ◌*◌, ◌/◌, ◌%◌, ◌^◌, ◌<◌, List, [], ◌∷◌, get_or, ap, ◌∙◌, arith}
use Rattle.wire.specs.Elements.{element_word, element_in}
use Rattle.tree.specs.Shows.{total}
use Rattle.law.specs.Calls.{Bytes}
use Rattle.law.specs.Exact.{text_word}

pub byte_small : (bytes : List ℕ) (i : ℕ) → Bytes bytes → get_or bytes i 0 < 256
byte_small [] i h = omega arith
byte_small (b ∷ bs) zero h = h.0
byte_small (b ∷ bs) (suc i) h = byte_small bs i h.1

-- the digit j of eight
digit : (b : ℕ → ℕ) → ((j : ℕ) → b j < 256) → (j : ℕ) → j < 8 → total 8 (λ j. b j * 256 ^ j) / 2 ^ (8 * j) % 2 ^ 8 ≡ b j
unfolding total
digit b h zero l = omega (arith, h 0)
digit b h (suc zero) l = omega (arith, h 0, h 1)
digit b h (suc (suc zero)) l = omega (arith, h 0, h 1, h 2)
digit b h (suc (suc (suc zero))) l = omega (arith, h 0, h 1, h 2, h 3)
digit b h (suc (suc (suc (suc zero)))) l = omega (arith, h 0, h 1, h 2, h 3, h 4)
digit b h (suc (suc (suc (suc (suc zero))))) l = omega (arith, h 0, h 1, h 2, h 3, h 4, h 5)
digit b h (suc (suc (suc (suc (suc (suc zero)))))) l = omega (arith, h 0, h 1, h 2, h 3, h 4, h 5, h 6)
digit b h (suc (suc (suc (suc (suc (suc (suc zero))))))) l = omega (arith, h 0, h 1, h 2, h 3, h 4, h 5, h 6, h 7)
digit b h (suc (suc (suc (suc (suc (suc (suc (suc j)))))))) l = absurd (omega arith)

pub letter_back : (bytes : List ℕ) (i : ℕ) → Bytes bytes → element_in (text_word bytes (element_word 2 i)) 2 i ≡ get_or bytes i 0
letter_back bytes i h =
    let k : ℕ = i * 8 / 64 in
    let j : ℕ = i % 8 in
    let bit : i * 8 % 64 ≡ 8 * j = omega arith in
    let whole : 8 * k + j ≡ i = omega arith in
    ap (λ z. text_word bytes k / 2 ^ z % 2 ^ 8) bit ∙
    digit (λ j. get_or bytes (8 * k + j) 0) (λ j. byte_small bytes (8 * k + j) h) j (omega arith) ∙ ap (λ z. get_or bytes z 0) whole
