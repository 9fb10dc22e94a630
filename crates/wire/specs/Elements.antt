-- The elements of lists of code 0 to 5: numbers of some bits, packed from a word's lowest bit on.
use Rattle.std.specs.Prelude.{ℕ, ◌+◌, ◌*◌, ◌/◌, ◌%◌, ◌^◌, Bool, true, false, ◌==◌}
use Rattle.wire.specs.Sizes.{element_bits}

-- ## The bits of a word

-- the n bits from bit k on
abbrev pub picked : (word k n : ℕ) → ℕ
picked word k n = word / 2 ^ k % 2 ^ n

-- the word with these bits replaced by b
abbrev pub patched : (word k n b : ℕ) → ℕ
patched word k n b = word / 2 ^ (n + k) * 2 ^ (n + k) + b * 2 ^ k + word % 2 ^ k

-- ## Element i of a list of a code

-- the word that holds it, counted from the list's first
abbrev pub element_word : (code i : ℕ) → ℕ
element_word code i = i * element_bits code / 64

-- its lowest bit there
abbrev pub element_bit : (code i : ℕ) → ℕ
element_bit code i = i * element_bits code % 64

-- its bits in that word
abbrev pub element_in : (word code i : ℕ) → ℕ
element_in word code i = picked word (element_bit code i) (element_bits code)

-- that word with b in their place
abbrev pub element_put : (word code i b : ℕ) → ℕ
element_put word code i b = patched word (element_bit code i) (element_bits code) b

-- ## Values

abbrev pub bit_of : Bool → ℕ
bit_of true = 1
bit_of false = 0

abbrev pub flag_of : ℕ → Bool
flag_of n = n == 1
