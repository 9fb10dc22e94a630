-- The values that a message's words show: null, a struct, a plain list or a struct list, with far pointers gone.
use Rattle.std.specs.Prelude.{◌≡◌, ℕ, ◌+◌, ◌-◌, ◌*◌, ◌<◌, cond, ◌&&◌, List, [], ◌∷◌, ◌==◌}
use Rattle.wire.specs.Sizes.{list_words}
use Rattle.wire.specs.Elements.{element_word, element_in}

-- ## Shapes and values

-- the elements of a plain list, by their codes 0 to 6
pub data Element : Type 0 where
  void bit byte two_bytes four_bytes eight_bytes pointer : Element

abbrev pub element_code : Element → ℕ
element_code void = 0
element_code bit = 1
element_code byte = 2
element_code two_bytes = 3
element_code four_bytes = 4
element_code eight_bytes = 5
element_code pointer = 6

-- A struct of some data words and pointers, a plain list of n elements, a struct list of n rows. A struct list keeps the sizes of
-- its rows when it has none.
pub data Shape : Type 0 where
  structure : (data_words pointers : ℕ) → Shape
  plain : Element → (n : ℕ) → Shape
  composite : (n data_words pointers : ℕ) → Shape

-- Null, or an object of a shape with its numbers by row and place and its children by row and pointer; these are 0 and null outside
-- the shape. A struct is one row, and the places of a row are its data words. In a plain list each element is a row, which has one
-- place, or one pointer. So a list that is widened to a struct list changes only its shape.
pub data Value : Type 0 where
  null : Value
  object : Shape → (numbers : ℕ → ℕ → ℕ) → (children : ℕ → ℕ → Value) → Value

-- an object of zeros and nulls
abbrev pub blank : Shape → Value
blank sh = object sh (λ i k. 0) (λ i j. null)

-- ## What a shape has: rows, pointers of a row, places of a row

abbrev pub rows : Shape → ℕ
rows (structure dw pw) = 1
rows (plain c n) = n
rows (composite n dw pw) = n

abbrev pub element_pointers : Element → ℕ
element_pointers void = 0
element_pointers bit = 0
element_pointers byte = 0
element_pointers two_bytes = 0
element_pointers four_bytes = 0
element_pointers eight_bytes = 0
element_pointers pointer = 1

abbrev pub pointers : Shape → ℕ
pointers (structure dw pw) = pw
pointers (plain c n) = element_pointers c
pointers (composite n dw pw) = pw

abbrev pub places : Shape → ℕ
places (structure dw pw) = dw
places (plain c n) = 1 - element_pointers c
places (composite n dw pw) = dw

-- ## Where they stand, counted in words from the object's first word, which is the tag of a struct list

-- the words that a shape needs
abbrev pub size : Shape → ℕ
size (structure dw pw) = dw + pw
size (plain c n) = list_words (element_code c) n
size (composite n dw pw) = 1 + n * (dw + pw)

-- the words before the rows
abbrev pub head : Shape → ℕ
head (structure dw pw) = 0
head (plain c n) = 0
head (composite n dw pw) = 1

-- the word of pointer j of row i
abbrev pub slot : Shape → (i j : ℕ) → ℕ
slot (structure dw pw) i j = dw + j
slot (plain c n) i j = i
slot (composite n dw pw) i j = 1 + i * (dw + pw) + dw + j

-- the word that holds place k of row i
abbrev pub place_word : Shape → (i k : ℕ) → ℕ
place_word (structure dw pw) i k = k
place_word (plain c n) i k = element_word (element_code c) i
place_word (composite n dw pw) i k = 1 + i * (dw + pw) + k

-- the number at place k of row i of an object whose words are ws 0, ws 1 and so on
abbrev pub number : Shape → (ws : ℕ → ℕ) → (i k : ℕ) → ℕ
number (structure dw pw) ws i k = ws k
number (plain c n) ws i k = element_in (ws (element_word (element_code c) i)) (element_code c) i
number (composite n dw pw) ws i k = ws (1 + i * (dw + pw) + k)

-- ## Paths

-- kind 0 is a pointer of a struct (element 0), 1 an element of a pointer list (pointer 0), 2 a pointer of a row of a struct list
pub record Step : Type 0 where
  pub kind : ℕ
  pub element : ℕ
  pub pointer_number : ℕ

-- the kind of step that goes into an object of the shape
abbrev pub step_kind : Shape → ℕ
step_kind (structure dw pw) = 0
step_kind (plain c n) = 1
step_kind (composite n dw pw) = 2

abbrev pub Meets : Shape → Step → Type 0
Meets sh s = (s.kind ≡ step_kind sh) × (s.element < rows sh) × (s.pointer_number < pointers sh)

-- every step meets an object with that pointer
abbrev pub Goes : Value → List Step → Type 0
Goes v [] = Unit {0}
Goes null (s ∷ p) = ⊥
Goes (object sh dat kid) (s ∷ p) = Meets sh s × Goes (kid s.element s.pointer_number) p

-- the value at the end of a path (null where it does not go)
abbrev pub value_at : Value → List Step → Value
value_at v [] = v
value_at null (s ∷ p) = null
value_at (object sh dat kid) (s ∷ p) = value_at (kid s.element s.pointer_number) p

-- f, but x at (i, j)
unfoldable pub change : {A : Type 0} → (f : ℕ → ℕ → A) → (i j : ℕ) → (x : A) → ℕ → ℕ → A
change f i j x a b = cond (a == i && b == j) x (f a b)

-- v with u at the end of the path
abbrev pub put : Value → List Step → Value → Value
put v [] u = u
put null (s ∷ p) u = null
put (object sh dat kid) (s ∷ p) u =
    object sh dat (change kid s.element s.pointer_number (put (kid s.element s.pointer_number) p u))
