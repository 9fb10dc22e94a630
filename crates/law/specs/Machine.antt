-- The plain machine: a tree, and what each call makes of it. It knows no words, segments or pointers.
use Rattle.std.specs.Prelude.{ℕ, zero, suc, ◌+◌, ◌-◌, ◌*◌, ◌^◌, min, max, Bool, true, false, cond, ◌&&◌, ◌||◌, List, [], ◌∷◌, length, ◌==◌, nat_le, nat_lt, slice_index}
use Rattle.wire.specs.Sizes.{element_bits}
use Rattle.wire.specs.Elements.{element_word, element_put}
use Rattle.tree.specs.Value.{byte, element_code, element_pointers, Shape, structure, plain, composite, Value, null, object, rows, pointers, Step, step_kind, value_at, change, put, blank}
use Rattle.tree.specs.Decode.{element_of_code}
use Rattle.law.specs.Calls.{Home, field, row, item, Edit, init_struct, init_list, init_rows, get_struct, get_rows, text, clear, write, Call, Answer, refused, nowhere, sizes, no_sizes, done}

-- ## Paths

abbrev pub bad_step : (kind element pointer : ℕ) → Bool
bad_step zero i j = nat_lt 0 i
bad_step (suc zero) i j = nat_lt 0 j
bad_step (suc (suc zero)) i j = false
bad_step (suc (suc (suc k))) i j = true

abbrev pub any_bad : List Step → Bool
any_bad [] = false
any_bad (s ∷ p) = bad_step s.kind s.element s.pointer_number || any_bad p

abbrev pub bad_path : List Step → Bool
bad_path p = nat_lt 63 (length p) || any_bad p

-- the step is of the kind that the shape takes, and its numbers are in range
abbrev pub meets : Shape → Step → Bool
meets sh s = s.kind == step_kind sh && (nat_lt s.element (rows sh) && nat_lt s.pointer_number (pointers sh))

-- how many steps of the path go
abbrev pub went : Value → List Step → ℕ
went v [] = 0
went null (s ∷ p) = 0
went (object sh dat kid) (s ∷ p) = cond (meets sh s) (1 + went (kid s.element s.pointer_number) p) 0

-- ## Shapes

-- with sections of at least these sizes: of a struct, or of the rows of a struct list, which each element of another list opens
abbrev pub grown : Shape → (dw pw : ℕ) → Shape
grown (structure d p) dw pw = structure (max d dw) (max p pw)
grown (plain c n) dw pw =
    composite n (max (cond (element_pointers c == 0) (min 1 (element_bits (element_code c))) 0) dw) (max (element_pointers c) pw)
grown (composite n d p) dw pw = composite n (max d dw) (max p pw)

-- it has such sections
abbrev pub enough : Shape → (dw pw : ℕ) → Bool
enough (structure d p) dw pw = nat_le dw d && nat_le pw p
enough (plain c n) dw pw = false
enough (composite n d p) dw pw = nat_le dw d && nat_le pw p

abbrev pub too_large : Shape → Bool
too_large (structure dw pw) = false
too_large (plain c n) = nat_le (2 ^ 29) n
too_large (composite n dw pw) = nat_le (2 ^ 30) n || nat_le (2 ^ 29) (n * (dw + pw))

-- ## What an edit makes of a place: the tree, the words and what is allocated look only at this

pub data Making : Type 0 where
  -- the value stays
  keep : Making
  -- it becomes null
  wipe : Making
  -- the number at a row and place of its object becomes another
  set : (row place number : ℕ) → Making
  -- it is replaced by an object of zeros and nulls
  new : Shape → Making
  -- it is replaced by a list of the bytes and a zero byte
  spell : (bytes : List ℕ) → Making
  -- its object is rebuilt in a larger shape, with its numbers and children
  rebuild : Shape → Making

-- the number of an object's data at (i, k) with bits in the place of element `index` of a data section
abbrev pub patch_at : Value → (i k code index bits : ℕ) → Making
patch_at null i k code index bits = keep
patch_at (object sh dat kid) i k code index bits = set i k (element_put (dat i k) code index bits)

abbrev pub numbering : Home → (code index bits : ℕ) → Value → Making
numbering field code i x u = patch_at u 0 (element_word code i) code i x
numbering (row r) code i x u = patch_at u r (element_word code i) code i x
numbering item code i x u = set i 0 x

abbrev pub making : Edit → Value → Making
making (init_struct dw pw) u = new (structure dw pw)
making (init_list code n) u = new (plain (element_of_code code) n)
making (init_rows n dw pw) u = new (composite n dw pw)
making (get_struct dw pw) null = new (structure dw pw)
making (get_struct dw pw) (object sh dat kid) = cond (enough sh dw pw) keep (rebuild (grown sh dw pw))
making (get_rows dw pw) null = keep
making (get_rows dw pw) (object sh dat kid) = cond (enough sh dw pw) keep (rebuild (grown sh dw pw))
making (text bytes) u = spell bytes
making clear u = wipe
making (write h code i x) u = cond (element_bits code == 0) keep (numbering h code i x u)

abbrev pub text_shape : List ℕ → Shape
text_shape bytes = plain byte (length bytes + 1)

-- element i of a text
abbrev pub letters : List ℕ → (i k : ℕ) → ℕ
letters bytes i zero = slice_index bytes i
letters bytes i (suc k) = 0

-- the value that comes of it
abbrev pub made : Making → Value → Value
made keep u = u
made wipe u = null
made (set i k x) null = null
made (set i k x) (object sh dat kid) = object sh (change dat i k x) kid
made (new sh) u = blank sh
made (spell bytes) u = object (text_shape bytes) (letters bytes) (λ i j. null)
made (rebuild sh') null = null
made (rebuild sh') (object sh dat kid) = object sh' dat kid

unfoldable pub effect : Edit → Value → Value
effect e u = made (making e u) u

-- ## Rulings at a place that holds u: their numbers, 0 for none

-- number `index` of the code lies in dw data words (always, if it has no bits)
abbrev pub fits : (code index dw : ℕ) → Bool
fits code i dw = nat_le ((i + 1) * element_bits code) (64 * dw)

-- a number in an object of the shape; a list of pointers has none
abbrev pub no_number : Home → (code index : ℕ) → Shape → ℕ
no_number field code i (structure dw pw) = cond (fits code i dw) 0 9
no_number field code i (plain c n) = 6
no_number field code i (composite n dw pw) = 6
no_number (row r) code i (structure dw pw) = 7
no_number (row r) code i (plain c n) = 9
no_number (row r) code i (composite n dw pw) = cond (nat_lt r n && fits code i dw) 0 9
no_number item code i (structure dw pw) = 7
no_number item code i (plain c n) = cond (element_pointers c == 0 && (element_code c == code && nat_lt i n)) 0 9
no_number item code i (composite n dw pw) = 9

abbrev pub no_number_in : Home → (code index : ℕ) → Value → ℕ
no_number_in h code i null = 4
no_number_in h code i (object sh dat kid) = no_number h code i sh

abbrev pub no_struct : Value → ℕ
no_struct null = 0
no_struct (object (structure d p) dat kid) = 0
no_struct (object (plain c n) dat kid) = 6
no_struct (object (composite n d p) dat kid) = 6

abbrev pub no_list : Value → ℕ
no_list null = 0
no_list (object (structure d p) dat kid) = 7
no_list (object (plain c n) dat kid) = cond (element_code c == 1) 8 0
no_list (object (composite n d p) dat kid) = 0

-- 3 to 9: of each edit those that it can meet, in their order
abbrev pub objection : Edit → Value → ℕ
objection (init_struct dw pw) u = 0
objection (init_list code n) u = cond (nat_lt 6 code) 3 0
objection (init_rows n dw pw) u = 0
objection (get_struct dw pw) u = no_struct u
objection (get_rows dw pw) u = no_list u
objection (text bytes) u = cond (nat_le (2 ^ 29 - 1) (length bytes)) 5 0
objection clear u = 0
objection (write h code i x) u = no_number_in h code i u

abbrev pub makes_too_large : Making → Bool
makes_too_large keep = false
makes_too_large wipe = false
makes_too_large (set i k x) = false
makes_too_large (new sh) = too_large sh
makes_too_large (spell bytes) = too_large (text_shape bytes)
makes_too_large (rebuild sh) = too_large sh

-- 3 to 10
abbrev pub ruling : Edit → Value → ℕ
ruling e u = cond (nat_lt 0 (objection e u)) (objection e u) (cond (makes_too_large (making e u)) 10 0)

-- ## The machine

pub data Verdict : Type 0 where
  fine : Verdict
  wrong : Answer → Verdict

abbrev pub verdict : (ruling : ℕ) → Verdict
verdict zero = fine
verdict (suc n) = wrong (refused (suc n))

-- 1 and 2, then the number of a later ruling
abbrev pub judge_path : Value → List Step → (later : ℕ) → Verdict
judge_path v p n =
    cond (bad_path p) (wrong (refused 1)) (cond (nat_lt (went v p) (length p)) (wrong (nowhere (went v p))) (verdict n))

-- the first of the rulings 1 to 10 that is given
unfoldable pub judge : Value → Call → Verdict
judge v c = judge_path v c.path (ruling c.edit (value_at v c.path))

abbrev pub sizes_of : Value → Answer
sizes_of null = no_sizes
sizes_of (object sh dat kid) = sizes sh

-- the answer of an accepted edit, which leaves u
abbrev pub reply : Edit → Value → Answer
reply (init_struct dw pw) u = sizes_of u
reply (init_list code n) u = sizes_of u
reply (init_rows n dw pw) u = sizes_of u
reply (get_struct dw pw) u = sizes_of u
reply (get_rows dw pw) u = sizes_of u
reply (text bytes) u = done
reply clear u = done
reply (write h code i x) u = done

abbrev pub accepted : Value → Call → Value
accepted v c = put v c.path (effect c.edit (value_at v c.path))

-- One call: the machine is told the ruling of those that it cannot find itself, 0 for none.
abbrev pub judged : Value → Call → (told : ℕ) → Verdict → Answer × Value
judged v c told (wrong y) = (y, v)
judged v c (suc n) fine = (refused (suc n), v)
judged v c zero fine = (reply c.edit (effect c.edit (value_at v c.path)), accepted v c)

abbrev pub step : Value → Call → (told : ℕ) → Answer × Value
step v c told = judged v c told (judge v c)
