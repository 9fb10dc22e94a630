-- What a move of a child to another slot does, in the words of the law of calls.
use Rattle.std.specs.Prelude.{◌≡◌, ℕ, ◌+◌, ◌^◌, ◌<◌, ◌≤◌, ◌≢◌, Ok, Err, Result}
use Rattle.wire.specs.Pointers.{pointer_kind, pointer_target}
use Rattle.tree.specs.Value.{Shape, rows, pointers, slot}
use Rattle.tree.specs.Shows.{Memory, Landing}
use Rattle.table.specs.Segments.{allocated_in}
use Rattle.arena.specs.declared.NoSpace.{NoSpace}
use Rattle.law.specs.Law.{Source, State, memory}
use Rattle.law.specs.Exact.{moved, bridged, moves}
use Rattle.table.specs.Placing.{Room, Outcome, got, then, each, pad}
use Rattle.effects.specs.States.{Sized, Rewritten, Prepared}
use Rattle.effects.specs.Parts.{Went, Failed}

-- The slot (g, w) leads to a word that a segment may have, if it leads there by itself.
abbrev pub Aimed : Memory → (g w : ℕ) → Type 0
Aimed H g w = H g w ≢ 0 → pointer_kind (H g w) ≢ 2 → pointer_target w (H g w) < 2 ^ 29

-- The slots (g, w) and (s, q) are words of the state b, and the first leads where it can.
pub record Movable (b : State) (g w s q : ℕ) : Type 0 where
  pub sized : Sized b
  pub from : w < allocated_in b.table g
  pub to : q < allocated_in b.table s
  pub aimed : Aimed (memory b) g w

-- The child of the slot (g, w) moved to the slot (s, q), or there was no space for two words of landing pads and nothing changed.
abbrev pub Moved : {X A E : Type 0} → Source X → (g w s q : ℕ) → State → Result A (NoSpace E) → State → Type 0
Moved S g w s q b (Ok x) e = Went S (λ r. moved g w s q r (memory b)) b (memory e) e
Moved S g w s q b (Err y) e = Failed S (λ r. moved g w s q r (memory b)) b y.minimum e × (y.minimum ≡ 2) × (e ≡ b)

-- words were written, which are now N
pub record Writes (b : State) (N : Memory) (e : State) : Type 0 where
  pub rewritten : Rewritten b e
  pub words : memory e ≡ N

-- over a landing pad of one word in its own segment or of two words elsewhere
abbrev pub Bridged : {X A E : Type 0} → Source X → (g w x s q : ℕ) → State → Result A (NoSpace E) → State → Type 0
Bridged S g w x s q b (Ok _) e = Went S (λ r. then (pad r g) (λ r' p. got r' (bridged (memory b) g w x s q p.0 p.1))) b (memory e) e
Bridged S g w x s q b (Err y) e =
    Failed S (λ r. then (pad r g) (λ r' p. got r' (bridged (memory b) g w x s q p.0 p.1))) b y.minimum e × (y.minimum ≡ 2) × (e ≡ b)

-- ## All children

-- Since the mark, new words are prepared in the state b: the children of the object that lay at the mark by l in the shape sh can move
-- to word t of segment s in the shape sh', which was not allocated at the mark.
pub record Carries (mark b : State) (l : Landing) (sh : Shape) (s t : ℕ) (sh' : Shape) : Type 0 where
  pub prepared : Prepared mark b
  pub from : (i j : ℕ) → i < rows sh → j < pointers sh → l.pos + slot sh i j < allocated_in mark.table l.seg
  pub aimed : (i j : ℕ) → i < rows sh → j < pointers sh → Aimed (memory mark) l.seg (l.pos + slot sh i j)
  pub to : (i j : ℕ) → i < rows sh → j < pointers sh → t + slot sh' i j < allocated_in b.table s
  pub new : allocated_in mark.table s ≤ t

-- A part that turns words: it went, or there was no space. It can be gone back to the mark.
abbrev pub Turned : {X A E : Type 0} → Source X → (mark : State) → (Room → Memory → Outcome Memory) → State → Result A (NoSpace E) → State → Type 0
Turned S mark f b (Ok x) e = Went S (λ r. f r (memory b)) b (memory e) e × Prepared mark e
Turned S mark f b (Err y) e = Failed S (λ r. f r (memory b)) b y.minimum e × Prepared mark e

-- child j of row i
abbrev pub child_moves : (l : Landing) → Shape → (s t : ℕ) → Shape → (i j : ℕ) → Room → Memory → Outcome Memory
child_moves l sh s t sh' i j = moved l.seg (l.pos + slot sh i j) s (t + slot sh' i j)

-- the children of row i
abbrev pub row_moves : (l : Landing) → Shape → (s t : ℕ) → Shape → (i : ℕ) → Room → Memory → Outcome Memory
row_moves l sh s t sh' i = each (pointers sh) (child_moves l sh s t sh' i)

abbrev pub RowMoved : {X A E : Type 0} → Source X → (mark : State) → Landing → Shape → (s t : ℕ) → Shape → (i : ℕ) → State → Result A (NoSpace E) → State → Type 0
RowMoved S mark l sh s t sh' i b r e = Turned S mark (row_moves l sh s t sh' i) b r e

abbrev pub ChildrenMoved : {X A E : Type 0} → Source X → (mark : State) → Landing → Shape → (s t : ℕ) → Shape → State → Result A (NoSpace E) → State → Type 0
ChildrenMoved S mark l sh s t sh' b r e = Turned S mark (moves l sh s t sh') b r e
