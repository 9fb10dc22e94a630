-- Texts in hex: two digits a byte, the high one first.
use Rattle.std.specs.Prelude.{◌≡◌, ℕ, ◌+◌, ◌-◌, ◌*◌, cond, ◌&&◌, ◌⊎◌, List, [], ◌∷◌, length, drop, Some, None, Option, nat_le, slice_index}
use Rattle.text.specs.declared.hex.TextFault.{TextFault}
use Rattle.text.specs.declared.hex.TextFault.TheVariants.{BadHex, NoEnd, BadEscape, Memory}

-- the digits are 0 to 9, a to f and A to F
abbrev pub hex_digit : ℕ → Option ℕ
hex_digit c =
    cond (nat_le 48 c && nat_le c 57) (Some (c - 48)) (cond (nat_le 97 c && nat_le c 102) (Some (c - 97 + 10)) (cond (nat_le 65 c && nat_le c 70) (Some (c - 65 + 10)) None))

abbrev pub both : Option ℕ → Option ℕ → Option ℕ
both None o = None
both (Some h) None = None
both (Some h) (Some l) = Some (16 * h + l)

-- the byte that two digits write
abbrev pub byte_of : ℕ → ℕ → Option ℕ
byte_of high low = both (hex_digit high) (hex_digit low)

-- bs writes the bytes vs, two digits each; past the end of bs there is no digit
abbrev pub HexPairs : List ℕ → List ℕ → Type 0
HexPairs bs [] = length bs ≡ 0
HexPairs bs (v ∷ vs) = (byte_of (slice_index bs 0) (slice_index bs 1) ≡ Some v) × HexPairs (drop 2 bs) vs

-- `-` stands for no bytes
abbrev pub HexText : List ℕ → List ℕ → Type 0
HexText bs vs = ((bs ≡ 45 ∷ []) × (vs ≡ [])) ⊎ HexPairs bs vs

-- a refusal for any other reason than memory says P
abbrev pub Unless : TextFault → Type 0 → Type 0
Unless BadHex P = P
Unless NoEnd P = P
Unless BadEscape P = P
Unless Memory P = Unit {0}
