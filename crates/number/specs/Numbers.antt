-- Decimal numbers as text: which bytes are a number, and which number they write.
use Rattle.std.specs.Prelude.{◌≡◌, ℕ, ◌+◌, ◌-◌, ◌*◌, ◌^◌, ◌<◌, ◌≤◌, ◌⊎◌, List, [], ◌∷◌, length, ℤ, pos, neg_ℤ, Ok, Err, Result, ◌≢◌, slice_index}
use Rattle.number.specs.declared.decimal.NumberFault.{NumberFault}
use Rattle.number.specs.declared.decimal.NumberFault.TheVariants.{NoDigits, TooLarge}

-- every byte is one of the digits 0 to 9
abbrev pub Digits : List ℕ → Type 0
Digits bs = (i : ℕ) → i < length bs → (48 ≤ slice_index bs i) × (slice_index bs i ≤ 57)

-- one digit or more, and nothing else
abbrev pub Numeral : List ℕ → Type 0
Numeral bs = (0 < length bs) × Digits bs

-- the number that digits write, after those of n
abbrev pub worth_after : ℕ → List ℕ → ℕ
worth_after n [] = n
worth_after n (c ∷ cs) = worth_after (n * 10 + (c - 48)) cs

abbrev pub worth : List ℕ → ℕ
worth bs = worth_after 0 bs

-- bs is the text of the number n below `top`
abbrev pub NumberText : ℕ → List ℕ → ℕ → Type 0
NumberText top bs n = Numeral bs × (worth bs < top) × (n ≡ worth bs)

-- what a reader of numbers below `top` answers
abbrev pub ReadsBelow : ℕ → List ℕ → Result ℕ NumberFault → Type 0
ReadsBelow top bs (Ok n) = NumberText top bs n
ReadsBelow top bs (Err NoDigits) = Numeral bs → ⊥
ReadsBelow top bs (Err TooLarge) = Numeral bs × (top ≤ worth bs)

-- a whole number in text: digits, or a minus and digits; the sizes are those of 32 bits
abbrev pub Positive : List ℕ → ℤ → Type 0
Positive bs z = Numeral bs × (worth bs < 2 ^ 31) × (z ≡ pos (worth bs))

abbrev pub Negative : List ℕ → ℤ → Type 0
Negative bs z = (ds : List ℕ) × (bs ≡ 45 ∷ ds) × Numeral ds × (worth ds ≤ 2 ^ 31) × (z ≡ neg_ℤ (pos (worth ds)))

abbrev pub Signed : List ℕ → ℤ → Type 0
Signed bs z = Positive bs z ⊎ Negative bs z

-- ds is bs without the minus, if it begins with one
abbrev pub WithoutMinus : List ℕ → List ℕ → Type 0
WithoutMinus bs ds = (bs ≡ 45 ∷ ds) ⊎ ((ds ≡ bs) × ((rest : List ℕ) → bs ≢ 45 ∷ rest))

abbrev pub ReadsSigned : List ℕ → Result ℤ NumberFault → Type 0
ReadsSigned bs (Ok z) = Signed bs z
ReadsSigned bs (Err NoDigits) = (Numeral bs → ⊥) × ((ds : List ℕ) → bs ≡ 45 ∷ ds → Numeral ds → ⊥)
ReadsSigned bs (Err TooLarge) = (Numeral bs × (2 ^ 31 ≤ worth bs)) ⊎ ((ds : List ℕ) × (bs ≡ 45 ∷ ds) × Numeral ds × (2 ^ 31 < worth ds))
