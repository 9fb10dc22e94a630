-- Decisions on words that show a tree.
use Rattle.std.specs.Prelude.{◌≡◌, ℕ, List, Some, Ok, Err, Result}
use Rattle.tree.specs.Value.{Value, Step, value_at}
use Rattle.tree.specs.Shows.{Memory, walk}
use Rattle.law.specs.Calls.{Home, Call, write, done}
use Rattle.law.specs.Machine.{making, effect, no_number_in, fine, wrong, judge, reply}
use Rattle.walk.specs.Spots.{spot_of}
use Rattle.walk.specs.Holding.{Leads, Holds}
use Rattle.judging.specs.declared.ruling.Ruling.{Ruling}
use Rattle.judging.specs.Rulings.{answer_of}
use Rattle.deciding.specs.declared.edit.Edit.{Edit}
use Rattle.deciding.specs.declared.edit.Making.{Making}
use Rattle.deciding.specs.declared.edit.Making.TheVariants.{Rebuild}
use Rattle.deciding.specs.declared.decision.Decision.{Decision}
use Rattle.deciding.specs.declared.numbers.NumberPlace.{NumberPlace}
use Rattle.deciding.specs.Edits.{edit_of, making_of, says_of}

abbrev pub call_of : List Step → Edit → (bytes : List ℕ) → Call
call_of p e bs = record { path = p; edit = edit_of e bs }

-- the object that is rebuilt is that of the slot (g, w)
abbrev pub Rebuilds : Memory → (g w : ℕ) → Making → Type 0
Rebuilds H g w (Rebuild h sh) = Leads H g w h
Rebuilds H g w m = Unit {0}

-- no ruling is met: where it is made, what, and what is answered
pub record Settled (H : Memory) (v : Value) (p : List Step) (e : Edit) (bs : List ℕ) (d : Decision) : Type 0 where
  pub judged : judge v (call_of p e bs) ≡ fine
  pub slot : spot_of d.site.slot ≡ walk H 0 0 v p
  pub held : Holds H d.site.slot.segment d.site.slot.word d.site.object
  pub making_is : making_of d.making bs ≡ making (edit_of e bs) (value_at v p)
  pub says_is : says_of e d.shape ≡ reply (edit_of e bs) (effect (edit_of e bs) (value_at v p))
  pub rebuilds : Rebuilds H d.site.slot.segment d.site.slot.word d.making

abbrev pub Decided : Memory → Value → List Step → Edit → (bytes : List ℕ) → Result Decision Ruling → Type 0
Decided H v p e bs (Ok d) = Settled H v p e bs d
Decided H v p e bs (Err y) = judge v (call_of p e bs) ≡ wrong (answer_of y)

-- ## Numbers

abbrev pub number_call : List Step → Home → (code index bits : ℕ) → Call
number_call p h code i x = record { path = p; edit = write h code i x }

-- whatever the number's bits x, no ruling is met, and the object at the slot has such a number
pub record Lodged (H : Memory) (v : Value) (p : List Step) (h : Home) (code i : ℕ) (n : NumberPlace) : Type 0 where
  pub judged : (x : ℕ) → judge v (number_call p h code i x) ≡ fine
  pub slot : spot_of n.site.slot ≡ walk H 0 0 v p
  pub held_is : n.site.object ≡ Some n.held
  pub leads : Leads H n.site.slot.segment n.site.slot.word n.held
  pub there : no_number_in h code i (value_at v p) ≡ 0
  pub says_is : (x : ℕ) → reply (write h code i x) (effect (write h code i x) (value_at v p)) ≡ done

abbrev pub Placed : Memory → Value → List Step → Home → (code index : ℕ) → Result NumberPlace Ruling → Type 0
Placed H v p h code i (Ok n) = Lodged H v p h code i n
Placed H v p h code i (Err y) = (x : ℕ) → judge v (number_call p h code i x) ≡ wrong (answer_of y)
