-- Texts in quotes, from behind the opening quote: escapes, and where the text ends.
use Rattle.std.specs.Prelude.{◌≡◌, ℕ, ◌+◌, ◌<◌, ◌≤◌, cond, List, [], ◌∷◌, length, drop, Some, None, Ok, Err, Option, Result, ◌==◌, slice_index}
use Rattle.text.specs.declared.hex.TextFault.{TextFault}
use Rattle.text.specs.declared.hex.TextFault.TheVariants.{NoEnd, BadEscape}
use Rattle.text.specs.declared.quoted.Letter.{Letter}
use Rattle.text.specs.declared.quoted.Letter.TheVariants.{Close, Byte}
use Rattle.text.specs.Texts.{byte_of}

-- a byte written by two hex digits, with the backslash and the x before them
abbrev pub hexed : Option ℕ → Result Letter TextFault
hexed None = Err BadEscape
hexed (Some b) = Ok (Byte b 4)

-- after a backslash: the byte behind it, and the two after that
abbrev pub escaped : ℕ → ℕ → ℕ → Result Letter TextFault
escaped mark high low = cond (mark == 34) (Ok (Byte 34 2)) (cond (mark == 92) (Ok (Byte 92 2)) (cond (mark == 120) (hexed (byte_of high low)) (Err BadEscape)))

-- the closing quote, or the next byte with how many bytes spell it; past the end of bs stands no escape
abbrev pub letter_of : List ℕ → Result Letter TextFault
letter_of bs = cond (length bs == 0) (Err NoEnd) (cond (slice_index bs 0 == 34) (Ok Close) (cond (slice_index bs 0 == 92) (escaped (slice_index bs 1) (slice_index bs 2) (slice_index bs 3)) (Ok (Byte (slice_index bs 0) 1))))

-- a letter takes a byte or more, and no more than there are
abbrev pub Used : ℕ → Result Letter TextFault → Type 0
Used n (Ok Close) = 0 < n
Used n (Ok (Byte b k)) = (0 < k) × (k ≤ n)
Used n (Err e) = Unit {0}

-- the first n bytes of bs are the bytes vs in quotes, the closing quote among them
abbrev pub Quoted : List ℕ → List ℕ → ℕ → Type 0
Quoted bs [] n = (letter_of bs ≡ Ok Close) × (n ≡ 1)
Quoted bs (v ∷ vs) n = (k m : ℕ) × (letter_of bs ≡ Ok (Byte v k)) × Quoted (drop k bs) vs m × (n ≡ k + m)
