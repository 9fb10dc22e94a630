-- What an edit settles at a value, from its objection and what it makes.
use Rattle.std.proofs.Common.{◌≡◌, ℕ, Bool, true, false, cond, ltb, ◌≢◌, List, Some, None, Ok, Err, Option, Result, sym, ap, ◌∙◌, subst, ap₂, arith}
use Rattle.wire.specs.declared.sizes.StructSize.{StructSize}
use Rattle.tree.specs.Value as value
use Rattle.tree.specs.Value.{Value, null, object}
use Rattle.law.specs.Calls as calls
use Rattle.law.specs.Machine as machine
use Rattle.law.specs.Machine.{making, made, effect, makes_too_large, objection, ruling, wrong, verdict, sizes_of, reply}
use Rattle.walk.specs.declared.shape.Shape.{Shape}
use Rattle.walk.specs.declared.held.Held.{Held}
use Rattle.walk.specs.Shapes.{shape_meant}
use Rattle.judging.specs.declared.ruling.Ruling.{Ruling}
use Rattle.judging.specs.Rulings.{number_of, answer_of}
use Rattle.judging.specs.Sites.{shape_in, shape_held}
use Rattle.judging.specs.Replies.{sizes_meant}
use Rattle.judging.proofs.Looking.{answer_by_number}
use Rattle.deciding.specs.declared.edit.Edit.{Edit}
use Rattle.deciding.specs.declared.edit.Making.{Making}
use Rattle.deciding.specs.Edits.{edit_of, shape_told, says_of}
use Rattle.deciding.specs.Choosing.{Chooses, Gives, growing}

-- ## The ruling from its two parts

abbrev ruled : ℕ → Bool → ℕ
ruled n large = cond (ltb 0 n) n (cond large 10 0)

ruled_by : (y : Ruling) (large : Bool) → ruled (number_of y) large ≡ number_of y
ruled_by y large = grind arith

-- an objection comes first
pub refused_here : (e : calls.Edit) (u : Value) (y : Ruling) → objection e u ≢ 2 → number_of y ≡ objection e u → verdict (ruling e u) ≡ wrong (answer_of y)
refused_here e u y h q = grind (arith, answer_by_number, ruled_by)

-- with none, only what is made can be too large
pub unopposed : (e : calls.Edit) (u : Value) (large : Bool) → objection e u ≡ 0 → makes_too_large (making e u) ≡ large → ruling e u ≡ cond large 10 0
unopposed e u large n q = ap₂ ruled n q

-- ## Edits that answer sizes

module _ (e : Edit) (bs : List ℕ) (replies : (w : Value) → reply (edit_of e bs) w ≡ sizes_of w) (says : (s : Option Shape) → says_of e s ≡ sizes_meant s) where
  pub settled : (m : machine.Making) (o : Option Held) (u : Value) (r : Result Making Ruling) → objection (edit_of e bs) u ≡ 0 → making (edit_of e bs) u ≡ m → Gives m o u r → Chooses e bs o u r
  unfolding effect
  settled m o u (Ok w) n q k =
      record {
        ruled = ap verdict (unopposed (edit_of e bs) u false n (ap makes_too_large q ∙ k.small));
        making_is = k.making_is bs ∙ sym q;
        says_is = says (shape_told w o) ∙ (k.sizes_are ∙ (ap (λ (x : machine.Making). sizes_of (made x u)) (sym q) ∙ sym (replies (effect (edit_of e bs) u))));
        from = k.from;
      }
  settled m o u (Err y) n q k =
      ap verdict (unopposed (edit_of e bs) u true n (ap makes_too_large q ∙ k.0)) ∙ ap (λ (z : Ruling). wrong (answer_of z)) (sym k.1)

  -- an object that has to be large enough
  pub settled_grown : (size : StructSize) → ((sh : value.Shape) (dat : ℕ → ℕ → ℕ) (kid : ℕ → ℕ → Value) → making (edit_of e bs) (object sh dat kid) ≡ growing sh size) →
      (o : Option Held) (h : Held) (u : Value) (r : Result Making Ruling) → o ≡ Some h → shape_held o ≡ shape_in u → objection (edit_of e bs) u ≡ 0 →
      ((dat : ℕ → ℕ → ℕ) (kid : ℕ → ℕ → Value) → Gives (growing (shape_meant h.shape) size) (Some h) (object (shape_meant h.shape) dat kid) r) → Chooses e bs o u r
  settled_grown size makes o h null r i s n k = cc (s, ap shape_held i)
  settled_grown size makes o h (object sh dat kid) r i s n k =
      let same : shape_meant h.shape ≡ sh = cc (s, ap shape_held i) in
      settled (growing sh size) o (object sh dat kid) r n (makes sh dat kid)
      (subst (λ (x : value.Shape). Gives (growing x size) o (object x dat kid) r) same
      (subst (λ (x : Option Held). Gives (growing (shape_meant h.shape) size) x (object (shape_meant h.shape) dat kid) r) (sym i) (k dat kid)))

-- nothing is held
pub value_none : (o : Option Held) (u : Value) → o ≡ None → shape_held o ≡ shape_in u → u ≡ null
value_none o u i s = grind arith
