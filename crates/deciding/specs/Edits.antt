-- Edits, makings and what is answered, as the law has them.
use Rattle.std.specs.Prelude.{ℕ, List, Some, None, Option}
use Rattle.std.specs.Option.{option_map}
use Rattle.law.specs.Calls as calls
use Rattle.law.specs.Calls.{Answer, init_struct, init_list, init_rows, get_struct, get_rows, text, clear, done}
use Rattle.law.specs.Machine as machine
use Rattle.law.specs.Machine.{keep, wipe, new, spell, rebuild}
use Rattle.walk.specs.declared.shape.Shape.{Shape}
use Rattle.walk.specs.declared.held.Held.{Held}
use Rattle.walk.specs.Shapes.{shape_meant}
use Rattle.judging.specs.Replies.{sizes_meant}
use Rattle.deciding.specs.declared.edit.Edit.{Edit}
use Rattle.deciding.specs.declared.edit.Edit.TheVariants.{InitStruct, InitList, InitStructList, GetStruct, GetStructList, Text, Clear}
use Rattle.deciding.specs.declared.edit.Making.{Making}
use Rattle.deciding.specs.declared.edit.Making.TheVariants.{Keep, Wipe, New, Spell, Rebuild}

abbrev pub edit_of : Edit → (bytes : List ℕ) → calls.Edit
edit_of (InitStruct s) bs = init_struct s.data s.pointers
edit_of (InitList code n) bs = init_list code n
edit_of (InitStructList n s) bs = init_rows n s.data s.pointers
edit_of (GetStruct s) bs = get_struct s.data s.pointers
edit_of (GetStructList s) bs = get_rows s.data s.pointers
edit_of Text bs = text bs
edit_of Clear bs = clear

abbrev pub making_of : Making → (bytes : List ℕ) → machine.Making
making_of Keep bs = keep
making_of Wipe bs = wipe
making_of (New sh) bs = new (shape_meant sh)
making_of Spell bs = spell bs
making_of (Rebuild h sh) bs = rebuild (shape_meant sh)

-- the shape that a making leaves at a slot that holds this, so far as it is told
abbrev pub shape_told : Making → Option Held → Option Shape
shape_told Keep o = option_map (λ (h : Held). h.shape) o
shape_told Wipe o = None
shape_told (New sh) o = Some sh
shape_told Spell o = None
shape_told (Rebuild h sh) o = Some sh

-- the answer of an edit to which this shape, or none, is told
abbrev pub says_of : Edit → Option Shape → Answer
says_of Text o = done
says_of Clear o = done
says_of e o = sizes_meant o
