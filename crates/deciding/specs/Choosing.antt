-- What is chosen at a slot that holds a value.
use Rattle.std.specs.Prelude.{◌≡◌, ℕ, true, false, cond, List, Some, Ok, Err, Option, Result}
use Rattle.wire.specs.declared.sizes.StructSize.{StructSize}
use Rattle.tree.specs.Value as value
use Rattle.tree.specs.Value.{Value}
use Rattle.law.specs.Machine as machine
use Rattle.law.specs.Machine.{enough, grown, keep, rebuild, making, made, effect, makes_too_large, ruling, fine, wrong, verdict, sizes_of, reply}
use Rattle.walk.specs.declared.held.Held.{Held}
use Rattle.judging.specs.declared.ruling.Ruling.{Ruling}
use Rattle.judging.specs.declared.ruling.Ruling.TheVariants.{TooLarge}
use Rattle.judging.specs.Rulings.{answer_of}
use Rattle.judging.specs.Replies.{sizes_meant}
use Rattle.deciding.specs.declared.edit.Edit.{Edit}
use Rattle.deciding.specs.declared.edit.Making.{Making}
use Rattle.deciding.specs.declared.edit.Making.TheVariants.{Rebuild}
use Rattle.deciding.specs.Edits.{edit_of, making_of, shape_told, says_of}

-- what is rebuilt is what is held
abbrev pub From : Option Held → Making → Type 0
From o (Rebuild h sh) = o ≡ Some h
From o m = Unit {0}

-- the edit meets no ruling at the value u, and this is what it makes of it and answers
pub record Chosen (e : Edit) (bs : List ℕ) (o : Option Held) (u : Value) (k : Making) : Type 0 where
  pub ruled : verdict (ruling (edit_of e bs) u) ≡ fine
  pub making_is : making_of k bs ≡ making (edit_of e bs) u
  pub says_is : says_of e (shape_told k o) ≡ reply (edit_of e bs) (effect (edit_of e bs) u)
  pub from : From o k

abbrev pub Chooses : Edit → List ℕ → Option Held → Value → Result Making Ruling → Type 0
Chooses e bs o u (Ok k) = Chosen e bs o u k
Chooses e bs o u (Err y) = verdict (ruling (edit_of e bs) u) ≡ wrong (answer_of y)

-- ## Edits that answer sizes

-- m is made of u, and the sizes of what comes of it are answered
pub record Given (m : machine.Making) (o : Option Held) (u : Value) (k : Making) : Type 0 where
  pub small : makes_too_large m ≡ false
  pub making_is : (bs : List ℕ) → making_of k bs ≡ m
  pub sizes_are : sizes_meant (shape_told k o) ≡ sizes_of (made m u)
  pub from : From o k

-- unless it is too large
abbrev pub Gives : machine.Making → Option Held → Value → Result Making Ruling → Type 0
Gives m o u (Ok k) = Given m o u k
Gives m o u (Err y) = (makes_too_large m ≡ true) × (y ≡ TooLarge)

-- what an object of this shape becomes that is to have such sections
abbrev pub growing : value.Shape → StructSize → machine.Making
growing sh s = cond (enough sh s.data s.pointers) keep (rebuild (grown sh s.data s.pointers))
