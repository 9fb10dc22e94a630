-- The words of a line by their place, and what a reader of one argument answers.
use Rattle.std.specs.Prelude.{ℕ, zero, suc, List, [], ◌∷◌, Ok, Err, Result}
use Rattle.std.specs.Borrow.{Bor}
use Rattle.number.specs.declared.decimal.NumberFault.{NumberFault}
use Rattle.number.specs.declared.decimal.NumberFault.TheVariants as number
use Rattle.path.specs.declared.step.PathFault.{PathFault}
use Rattle.path.specs.declared.step.PathFault.TheVariants as path
use Rattle.text.specs.declared.hex.TextFault.{TextFault}
use Rattle.text.specs.declared.hex.TextFault.TheVariants as text
use Rattle.line.specs.declared.fault.Fault.{Fault}
use Rattle.line.specs.declared.fault.Fault.TheVariants.{BadNumber, NumberTooLarge, BadPath, PathNumberTooLarge, BadHex, NoEndOfText, BadEscape, Memory}
use Rattle.line.specs.declared.fault.Problem.{Problem}

-- the bytes of the word at a place; none past the last word
abbrev pub word_at : List (Bor (List ℕ)) → ℕ → List ℕ
word_at [] i = []
word_at (w ∷ ws) zero = w.now
word_at (w ∷ ws) (suc i) = word_at ws i

-- a reader answers a value that the text is of, and refuses just where there is none
abbrev pub Exactly : {T : Type 0} → (T → Type 0) → Result T Problem → Type 0
Exactly P (Ok x) = P x
Exactly {T} P (Err e) = (x : T) → P x → ⊥

-- what is said of a word that is no number
abbrev pub number_fault : NumberFault → Fault
number_fault number.NoDigits = BadNumber
number_fault number.TooLarge = NumberTooLarge

-- what is said of a word that is no path
abbrev pub path_fault : PathFault → Fault
path_fault path.NoSlash = BadPath
path_fault path.BadStep = BadPath
path_fault path.TooLarge = PathNumberTooLarge
path_fault path.Memory = Memory

-- what is said of a text that cannot be read
abbrev pub text_fault : TextFault → Fault
text_fault text.BadHex = BadHex
text_fault text.NoEnd = NoEndOfText
text_fault text.BadEscape = BadEscape
text_fault text.Memory = Memory
