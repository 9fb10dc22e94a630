-- How a cursor goes on: by its newest object and by the word of the pointer that comes next.
use Rattle.std.specs.Prelude.{◌≡◌, ℕ, ◌^◌, ◌<◌, ◌≤◌, cond, ◌≢◌, List, [], ◌∷◌, length, Some, None, Option, ◌==◌, nat_lt}
use Rattle.tree.specs.Value.{rows}
use Rattle.tree.specs.Shows.{Memory}
use Rattle.cursor.specs.declared.Event.{Event}
use Rattle.cursor.specs.declared.Event.TheVariants as events
use Rattle.cursor.specs.declared.Frame.{Frame}
use Rattle.cursor.specs.Begun.{Begun, begun_of, begun, next_word, passed}
use Rattle.cursor.specs.Weight.{left}

-- a slot's object begins, unless it is null
abbrev pub starting : Memory → (g w : ℕ) → List Begun
starting H g w = cond (H g w == 0) [] (begun H g w ∷ [])

-- what the pointer that comes next holds; 0 where its word is not counted by 64 bits
abbrev pub pointed : Memory → Begun → ℕ
pointed H b = cond (nat_lt (next_word b) (2 ^ 64)) (H b.place.seg (next_word b)) 0

-- ## What happens

-- the pointer is null: the one after it comes next
pub record Null (H : Memory) (bs bs' : List Begun) : Type 0 where
  pub newest : Begun
  pub others : List Begun
  pub before : bs ≡ newest ∷ others
  pub more : newest.row < rows newest.shape
  pub null : pointed H newest ≡ 0
  pub after : bs' ≡ passed newest ∷ others

-- its object begins
pub record Entered (H : Memory) (new : Begun) (bs bs' : List Begun) : Type 0 where
  pub newest : Begun
  pub others : List Begun
  pub before : bs ≡ newest ∷ others
  pub more : newest.row < rows newest.shape
  pub live : pointed H newest ≢ 0
  pub few : length bs < 64
  pub begins : new ≡ begun H newest.place.seg (next_word newest)
  pub after : bs' ≡ new ∷ (passed newest ∷ others)

-- 64 objects are begun, and its own is passed over
pub record TooDeep (H : Memory) (bs bs' : List Begun) : Type 0 where
  pub newest : Begun
  pub others : List Begun
  pub before : bs ≡ newest ∷ others
  pub more : newest.row < rows newest.shape
  pub live : pointed H newest ≢ 0
  pub full : length bs ≡ 64
  pub after : bs' ≡ passed newest ∷ others

-- no pointer is left, and the object ends
pub record Left (old : Begun) (bs bs' : List Begun) : Type 0 where
  pub before : bs ≡ old ∷ bs'
  pub done : rows old.shape ≤ old.row

abbrev pub Happened : Memory → Event → (bs bs' : List Begun) → Type 0
Happened H events.Null bs bs' = Null H bs bs'
Happened H (events.Entered f) bs bs' = Entered H (begun_of f) bs bs'
Happened H events.TooDeep bs bs' = TooDeep H bs bs'
Happened H (events.Left f) bs bs' = Left (begun_of f) bs bs'

-- nothing more happens once no object is left
abbrev pub Advanced : Memory → Option Event → (bs bs' : List Begun) → Type 0
Advanced H None bs bs' = (bs ≡ []) × (bs' ≡ [])
Advanced H (Some e) bs bs' = Happened H e bs bs'

-- ## The newest taken away, and one more

abbrev pub Popped : Option Frame → (bs bs' : List Begun) → Type 0
Popped None bs bs' = (bs ≡ []) × (bs' ≡ [])
Popped (Some f) bs bs' = bs ≡ begun_of f ∷ bs'

-- ## The pointer that comes next

-- its object begins, with fewer pointers than 2 ^ 66
pub record Begins (H : Memory) (b new : Begun) : Type 0 where
  pub live : pointed H b ≢ 0
  pub begins : new ≡ begun H b.place.seg (next_word b)
  pub light : left new < 2 ^ 66

abbrev pub Child : Memory → Begun → Option Frame → Type 0
Child H b None = pointed H b ≡ 0
Child H b (Some f) = Begins H b (begun_of f)
