-- Reads: they answer from the tree, and edit nothing.
use Rattle.std.specs.Prelude.{◌≡◌, ℕ, ◌+◌, List}
use Rattle.wire.specs.Elements.{element_word, element_in}
use Rattle.tree.specs.Value.{Shape, Value, null, object, place_word, Step, Goes, value_at}
use Rattle.tree.specs.Shows.{Memory, land, Shows, walk}
use Rattle.tree.specs.Extents.{WellLaid}
use Rattle.law.specs.Calls.{Home, field, row, item, Answer, value}
use Rattle.law.specs.Machine.{no_number, no_number_in, sizes_of, Verdict, fine, wrong, judge_path}

pub data Query : Type 0 where
  -- the number of an element code at an index
  number : Home → (code index : ℕ) → Query
  -- the sizes of the value
  shape : Query

abbrev pub number_in : (numbers : ℕ → ℕ → ℕ) → Home → (code index : ℕ) → ℕ
number_in dat field code i = element_in (dat 0 (element_word code i)) code i
number_in dat (row r) code i = element_in (dat r (element_word code i)) code i
number_in dat item code i = dat i 0

abbrev pub number_of : Value → Home → (code index : ℕ) → ℕ
number_of null h code i = 0
number_of (object sh dat kid) h code i = number_in dat h code i

abbrev pub no_answer : Query → Value → ℕ
no_answer (number h code i) u = no_number_in h code i u
no_answer shape u = 0

abbrev pub found : Query → Value → Answer
found (number h code i) u = value (number_of u h code i)
found shape u = sizes_of u

abbrev pub answered : Verdict → Answer → Answer
answered fine a = a
answered (wrong b) a = b

-- the answer to a query at a place
unfoldable pub look : Value → List Step → Query → Answer
look v p q = answered (judge_path v p (no_answer q (value_at v p))) (found q (value_at v p))

-- ## The same in words

-- the word of an object of the shape that holds the number
abbrev pub number_word : Shape → Home → (code index : ℕ) → ℕ
number_word sh field code i = place_word sh 0 (element_word code i)
number_word sh (row r) code i = place_word sh r (element_word code i)
number_word sh item code i = place_word sh i 0

pub record ReadsStand : Type 0 where
  -- a number of an object is that element of its word
  pub numbers_are_there : (H : Memory) (a : ℕ → ℕ) (g w : ℕ) (sh : Shape) (dat : ℕ → ℕ → ℕ) (kid : ℕ → ℕ → Value) (h : Home) (code i : ℕ) →
      Shows H a g w (object sh dat kid) → no_number h code i sh ≡ 0 →
      number_in dat h code i ≡ element_in (H (land H g w).seg ((land H g w).pos + number_word sh h code i)) code i
  -- the slot at the end of a path shows the value there
  pub places_show : (H : Memory) (a : ℕ → ℕ) (v : Value) (p : List Step) → Goes v p → WellLaid H a v →
      Shows H a (walk H 0 0 v p).0 (walk H 0 0 v p).1 (value_at v p)
