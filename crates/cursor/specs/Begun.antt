-- A cursor means the objects that are begun, the newest first, each with the pointer that comes next.
use Rattle.std.specs.Prelude.{ℕ, zero, suc, ◌+◌, cond, List, [], ◌∷◌, ◌==◌, nat_lt, slice_index_or}
use Rattle.tree.specs.Value.{Shape, rows, pointers, slot}
use Rattle.tree.specs.Shows.{Memory, Landing, land}
use Rattle.tree.specs.Decode.{shape_at}
use Rattle.walk.specs.declared.shape.Shape.TheVariants.{Structure}
use Rattle.walk.specs.Spots.{spot_at}
use Rattle.walk.specs.Landings.{landing_of}
use Rattle.walk.specs.Shapes.{shape_meant}
use Rattle.cursor.specs.declared.Frame.{Frame}
use Rattle.cursor.specs.declared.Cursor.{Cursor}

-- an object: where it lies, its shape, and the row and the number of the pointer that comes next
pub record Begun : Type 0 where
  pub place : Landing
  pub shape : Shape
  pub row : ℕ
  pub pointer : ℕ

abbrev pub begun_of : Frame → Begun
begun_of f = record { place = landing_of f.held.landing; shape = shape_meant f.held.shape; row = f.row; pointer = f.pointer }

-- what stands where no object does
abbrev pub no_frame : Frame
no_frame = record {
  held = record {
    landing = record { pointer = record { word = 0 }; start = spot_at 0 0; pad = spot_at 0 0; pads = 0 };
    shape = Structure (record { «data» = 0; pointers = 0 });
  };
  row = 0;
  pointer = 0;
}

-- the first n frames, the last of them first
abbrev pub newest : (n : ℕ) → List Frame → List Begun
newest zero fs = []
newest (suc n) fs = begun_of (slice_index_or fs n no_frame) ∷ newest n fs

abbrev pub stack : Cursor → List Begun
stack c = newest c.depth c.frames

-- ## One object

-- the first row in which a pointer comes: none of an object without pointers
abbrev pub first_row : Shape → ℕ
first_row sh = cond (pointers sh == 0) (rows sh) 0

-- the object of the shape that lies by l begins
abbrev pub begun_as : Landing → Shape → Begun
begun_as l sh = record { place = l; shape = sh; row = first_row sh; pointer = 0 }

-- the object that lies by l begins
abbrev pub begun_at : Memory → Landing → Begun
begun_at H l = begun_as l (shape_at H l)

-- the object of the slot in word w of segment g begins
abbrev pub begun : Memory → (g w : ℕ) → Begun
begun H g w = begun_at H (land H g w)

-- the word of the pointer that comes next
abbrev pub next_word : Begun → ℕ
next_word b = b.place.pos + slot b.shape b.row b.pointer

-- after that pointer: the next of the row, or the first of the next row
abbrev pub passed : Begun → Begun
passed b =
    cond (nat_lt (b.pointer + 1) (pointers b.shape))
    (record { place = b.place; shape = b.shape; row = b.row; pointer = b.pointer + 1 })
    (record { place = b.place; shape = b.shape; row = b.row + 1; pointer = 0 })
