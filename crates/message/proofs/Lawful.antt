-- An edit, from its decision and what came of it to the law.
use Rattle.std.proofs.Common.{◌≡◌, ℕ, ◌%◌, ◌^◌, ◌<◌, ◌≤◌, List, Some, None, Err, Option, sym, refl, ap, ◌∙◌, subst, mod-eq_of_lt}
use Rattle.tree.specs.Value.{Value, value_at}
use Rattle.tree.specs.Shows.{Memory, Shows}
use Rattle.arena.specs.declared.NoSpace.{NoSpace}
use Rattle.law.specs.Calls.{Home, write, Call, Typed, Answer, done}
use Rattle.law.specs.Machine.{fine, wrong, judge, reply, effect}
use Rattle.law.specs.Law.{Source, State, memory, Holds, Reply}
use Rattle.law.specs.Enough.{PairIs}
use Rattle.walk.specs.declared.shape.Shape.{Shape}
use Rattle.walk.specs.declared.spot.Spot.{Spot}
use Rattle.walk.specs.Spots.{spot_of}
use Rattle.judging.specs.declared.ruling.Ruling.{Ruling}
use Rattle.judging.specs.Rulings.{answer_of}
use Rattle.judging.specs.Replies.{sizes_meant}
use Rattle.deciding.specs.declared.edit.Edit.{Edit}
use Rattle.deciding.specs.declared.edit.Edit.TheVariants.{InitStruct, InitList, InitStructList, GetStruct, GetStructList, Text, Clear}
use Rattle.deciding.specs.declared.decision.Decision.{Decision}
use Rattle.deciding.specs.declared.numbers.NumberPlace.{NumberPlace}
use Rattle.deciding.specs.Edits.{edit_of, says_of}
use Rattle.deciding.specs.Deciding.{Settled, Lodged}
use Rattle.walk.specs.Holding.{Leads}
use Rattle.performing.specs.Able.{Ready, ReadyNumber}
use Rattle.path.specs.declared.step.Step.{Step}
use Rattle.walk.specs.Slots.{steps_of}
use Rattle.walk.specs.Showing.{OfRoot}
use Rattle.law.specs.Exact.{call_outcome}
use Rattle.effects.specs.Parts.{Went}
use Rattle.effects.specs.Makes.{Performs}
use Rattle.effects.proofs.Calls.{lawful_rejected, lawful_accepted, lawful_crowded, holds_shows, holds_small}
use Rattle.message.specs.declared.refusal.Placed.{Placed}
use Rattle.message.specs.declared.refusal.Refused.TheVariants.{Crowded}
use Rattle.message.specs.Refusals.{refusal_of, placed_as, shape_placed, pair_placed}
use Rattle.message.specs.Drafts.{KeepsTheLaw, call_of}

-- the pair of an answer is that of its place
sized_pair : (o : Option Shape) (p : Spot) → PairIs (sizes_meant o) (pair_placed (placed_as o p)) (spot_of p)
sized_pair (Some sh) p = refl
sized_pair None p = refl

pair_of : (e : Edit) (o : Option Shape) (p : Spot) → PairIs (says_of e o) (pair_placed (placed_as o p)) (spot_of p)
pair_of (InitStruct s) o p = sized_pair o p
pair_of (InitList code n) o p = sized_pair o p
pair_of (InitStructList n s) o p = sized_pair o p
pair_of (GetStruct s) o p = sized_pair o p
pair_of (GetStructList s) o p = sized_pair o p
pair_of Text o p = tt
pair_of Clear o p = tt

same_shape : (o : Option Shape) (p : Spot) → shape_placed (placed_as o p) ≡ o
same_shape (Some sh) p = refl
same_shape None p = refl

module _ {X : Type 0} (S : Source X) (s : State) (c : Call) (typed : Typed c.edit) where
  -- a ruling
  pub ruled_keeps : (y : Ruling) → OfRoot (memory s) (λ v. judge v c ≡ wrong (answer_of y)) → KeepsTheLaw S s c (record { says = answer_of y; minimum = 0; pair = (0, 0) }) s
  ruled_keeps y d v h =
      lawful_rejected S s v c (record { says = answer_of y; minimum = 0; pair = (0, 0) }) typed h (d _ v (holds_small S s v h) (holds_shows S s v h))

  -- no space
  pub crowded_keeps : {F : Type 0} (s' : State) (y : NoSpace F) → OfRoot (memory s) (λ v. judge v c ≡ fine) → ((v : Value) → Holds S s v → Performs S s v c (Err y) s') →
      (x : X) × (S x ≡ s'.source) → KeepsTheLaw S s c (refusal_of (Crowded y)) s'
  crowded_keeps s' y d p x v h =
      lawful_crowded S s v c (refusal_of (Crowded y)) s' y typed h (d _ v (holds_small S s v h) (holds_shows S s v h)) (p v h) x refl refl

  -- made
  pub made_keeps : (s' : State) (y : Reply) (q : ℕ × ℕ) → OfRoot (memory s) (λ v. judge v c ≡ fine) →
      OfRoot (memory s) (λ v. y.says ≡ reply c.edit (effect c.edit (value_at v c.path))) → PairIs y.says y.pair q →
      ((v : Value) → Holds S s v → Went S (λ r. call_outcome (memory s) v r c) s (record { words = memory s'; pair = q }) s') → (x : X) × (S x ≡ s'.source) → KeepsTheLaw S s c y s'
  made_keeps s' y q d says pair p x v h =
      let small = holds_small S s v h in
      let shown = holds_shows S s v h in
      lawful_accepted S s v c y s' q typed h (d _ v small shown) (p v h) x (says _ v small shown) pair

-- ## What a decision settles

module _ {X : Type 0} (S : Source X) (s s' : State) (ss : List Step) (e : Edit) (bs : List ℕ) (typed : Typed (edit_of e bs)) (d : Decision)
    (settled : OfRoot (memory s) (λ v. Settled (memory s) v (steps_of ss) e bs d)) (valued : (x : X) × (S x ≡ s'.source)) where
  ready : (v : Value) → Holds S s v → Ready (memory s) v (call_of ss e bs) d.site d.making bs
  ready v h =
      let t = settled _ v (holds_small S s v h) (holds_shows S s v h) in
      record { typed = typed; judged = t.judged; slot = t.slot; making_is = t.making_is; rebuilds = t.rebuilds }

  pub edit_crowded : {F : Type 0} (y : NoSpace F) → ((v : Value) (c : Call) → Holds S s v → Ready (memory s) v c d.site d.making bs → Performs S s v c (Err y) s') →
      KeepsTheLaw S s (call_of ss e bs) (refusal_of (Crowded y)) s'
  edit_crowded y p = crowded_keeps S s (call_of ss e bs) typed s' y (λ a v small shown. (settled a v small shown).judged) (λ v h. p v (call_of ss e bs) h (ready v h)) valued

  pub edit_placed : (p : Spot) (o : Option Placed) → o ≡ placed_as d.shape p →
      ((v : Value) (c : Call) → Holds S s v → Ready (memory s) v c d.site d.making bs → Went S (λ r. call_outcome (memory s) v r c) s (record { words = memory s'; pair = spot_of p }) s') →
      KeepsTheLaw S s (call_of ss e bs) (record { says = says_of e (shape_placed o); minimum = 0; pair = pair_placed o }) s'
  edit_placed p o is w =
      let says : says_of e (shape_placed (placed_as d.shape p)) ≡ says_of e d.shape = ap (says_of e) (same_shape d.shape p) in
      subst (λ (q : Option Placed). KeepsTheLaw S s (call_of ss e bs) (record { says = says_of e (shape_placed q); minimum = 0; pair = pair_placed q }) s') (sym is)
      (made_keeps S s (call_of ss e bs) typed s' _ (spot_of p) (λ a v small shown. (settled a v small shown).judged)
      (λ a v small shown. says ∙ (settled a v small shown).says_is)
      (subst (λ (y : Answer). PairIs y (pair_placed (placed_as d.shape p)) (spot_of p)) (sym says) (pair_of e d.shape p))
      (λ v h. w v (call_of ss e bs) h (ready v h))
      valued)

-- ## Numbers

-- the write of a number
abbrev pub number_call : List Step → Home → (code i x : ℕ) → Call
number_call ss home code i x = record { path = steps_of ss; edit = write home code i x }

-- y is the number as the code has it
module _ {X : Type 0} (S : Source X) (s s' : State) (ss : List Step) (home : Home) (code i x y : ℕ) (typed : Typed (write home code i x)) (n : NumberPlace)
    (lodged : OfRoot (memory s) (λ v. Lodged (memory s) v (steps_of ss) home code i n)) (valued : (z : X) × (S z ≡ s'.source)) (same : y ≡ x) where
  ready_number : (v : Value) → Holds S s v → ReadyNumber (memory s) v (number_call ss home code i x) n.held home code i y
  ready_number v h =
      let t = lodged _ v (holds_small S s v h) (holds_shows S s v h) in
      subst (λ (z : ℕ). ReadyNumber (memory s) v (number_call ss home code i x) n.held home code i z) (sym same)
      (record {
        typed = typed;
        judged = t.judged x;
        edit_is = refl;
        leads = subst (λ (k : ℕ × ℕ). Leads (memory s) k.0 k.1 n.held) t.slot t.leads;
      })

  pub number_crowded : {F : Type 0} (e : NoSpace F) → ((v : Value) (c : Call) → Holds S s v → ReadyNumber (memory s) v c n.held home code i y → Performs S s v c (Err e) s') →
      KeepsTheLaw S s (number_call ss home code i x) (refusal_of (Crowded e)) s'
  number_crowded e p =
      crowded_keeps S s (number_call ss home code i x) typed s' e (λ a v small shown. (lodged a v small shown).judged x)
      (λ v h. p v (number_call ss home code i x) h (ready_number v h)) valued

  -- a number that is written is done
  pub number_done : (q : ℕ × ℕ) →
      ((v : Value) (c : Call) → Holds S s v → ReadyNumber (memory s) v c n.held home code i y → Went S (λ r. call_outcome (memory s) v r c) s (record { words = memory s'; pair = q }) s') →
      KeepsTheLaw S s (number_call ss home code i x) (record { says = done; minimum = 0; pair = (0, 0) }) s'
  number_done q w =
      made_keeps S s (number_call ss home code i x) typed s' _ q (λ a v small shown. (lodged a v small shown).judged x)
      (λ a v small shown. sym ((lodged a v small shown).says_is x)) tt
      (λ v h. w v (number_call ss home code i x) h (ready_number v h))
      valued

pub bits_back : (b x n : ℕ) → b ≡ x → x < 2 ^ n → b % 2 ^ n ≡ x
bits_back b x n e h = ap (λ (z : ℕ). z % 2 ^ n) e ∙ mod-eq_of_lt h
