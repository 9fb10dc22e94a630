-- Sizes in words, and the limits that a pointer word sets to them.
use Rattle.std.specs.Prelude.{◌≡◌, ℕ, zero, suc, ◌+◌, ◌*◌, ◌/◌, ◌^◌, ◌<◌, cond, Ok, Err, Result, MatchResult, nat_le}
use Rattle.wire.specs.declared.sizes.ElementSize.{ElementSize}
use Rattle.wire.specs.declared.sizes.ElementSize.TheVariants.{Void, Bit, Byte, TwoBytes, FourBytes, EightBytes, Pointer, InlineComposite}
use Rattle.wire.specs.declared.sizes.UnknownCode.{UnknownCode}
use Rattle.wire.specs.declared.sizes.TooLarge.{TooLarge}
use Rattle.wire.specs.declared.sizes.TooLarge.TheVariants.{Elements, Rows, Words}

-- the element code of a list pointer
abbrev pub code_of : ElementSize → ℕ
code_of Void = 0
code_of Bit = 1
code_of Byte = 2
code_of TwoBytes = 3
code_of FourBytes = 4
code_of EightBytes = 5
code_of Pointer = 6
code_of InlineComposite = 7

-- the bits that a list takes for each of its count: for code 7 the count is that of words
abbrev pub element_bits : (code : ℕ) → ℕ
element_bits zero = 0
element_bits (suc zero) = 1
element_bits (suc (suc zero)) = 8
element_bits (suc (suc (suc zero))) = 16
element_bits (suc (suc (suc (suc zero)))) = 32
element_bits (suc (suc (suc (suc (suc n))))) = 64

-- the words of a list of n elements, the last one filled up
abbrev pub list_words : (code n : ℕ) → ℕ
list_words code n = (n * element_bits code + 63) / 64

-- the result is the element size of this code, or the code itself, which is none
abbrev pub Decodes : ℕ → Result ElementSize UnknownCode → Type 0
Decodes code r = MatchResult r (λ size. code_of size ≡ code) (λ e. (e.0 ≡ code) × (7 < code))

-- a list's count stays below 2 ^ 29
abbrev pub sized_list : (code n : ℕ) → Result ℕ TooLarge
sized_list code n = cond (nat_le (2 ^ 29) n) (Err Elements) (Ok (list_words code n))

-- a struct list's rows stay below 2 ^ 30, and their words below 2 ^ 29
abbrev pub sized_rows : (rows dw pw : ℕ) → Result ℕ TooLarge
sized_rows rows dw pw =
    cond (nat_le (2 ^ 30) rows) (Err Rows) (cond (nat_le (2 ^ 29) (rows * (dw + pw))) (Err Words) (Ok (rows * (dw + pw))))
