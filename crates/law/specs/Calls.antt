-- Edits, calls and answers.
use Rattle.std.specs.Prelude.{ℕ, ◌^◌, ◌<◌, ◌≤◌, List, [], ◌∷◌}
use Rattle.wire.specs.Sizes.{element_bits}
use Rattle.tree.specs.Value.{Shape, Step}

-- where a number is: a field of a struct, a field of a row of a struct list, an item of a plain list
pub data Home : Type 0 where
  field : Home
  row : (number : ℕ) → Home
  item : Home

pub data Edit : Type 0 where
  init_struct : (dw pw : ℕ) → Edit
  init_list : (code count : ℕ) → Edit
  init_rows : (count dw pw : ℕ) → Edit
  get_struct : (dw pw : ℕ) → Edit
  get_rows : (dw pw : ℕ) → Edit
  text : (bytes : List ℕ) → Edit
  clear : Edit
  -- the number's element code, its index and its bits
  write : Home → (code index bits : ℕ) → Edit

-- an edit at a place
pub record Call : Type 0 where
  pub path : List Step
  pub edit : Edit

-- ## Arguments of the right types: sections of 16 bits, bytes, an element code of at most 5 with bits of its width

abbrev pub Sections : (dw pw : ℕ) → Type 0
Sections dw pw = (dw < 65536) × (pw < 65536)

abbrev pub Bytes : List ℕ → Type 0
Bytes [] = Unit {0}
Bytes (b ∷ bs) = (b < 256) × Bytes bs

abbrev pub Typed : Edit → Type 0
Typed (init_struct dw pw) = Sections dw pw
Typed (init_list code n) = Unit {0}
Typed (init_rows n dw pw) = Sections dw pw
Typed (get_struct dw pw) = Sections dw pw
Typed (get_rows dw pw) = Sections dw pw
Typed (text bytes) = Bytes bytes
Typed clear = Unit {0}
Typed (write h code i x) = (code ≤ 5) × (x < 2 ^ element_bits code)

-- ## Answers

pub data Answer : Type 0 where
  -- the number of the ruling; 2 has an answer of its own, with the step that leads nowhere
  refused : (ruling : ℕ) → Answer
  nowhere : (step : ℕ) → Answer
  -- sections, count or rows, and code
  sizes : Shape → Answer
  -- the sizes of a null place
  no_sizes : Answer
  done : Answer
  value : ℕ → Answer

abbrev pub Refusal : Answer → Type 0
Refusal (refused n) = Unit {0}
Refusal (nowhere k) = Unit {0}
Refusal (sizes sh) = ⊥
Refusal no_sizes = ⊥
Refusal done = ⊥
Refusal (value x) = ⊥
