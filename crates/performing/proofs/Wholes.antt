-- The root word and the edit, as one call.
use Rattle.std.proofs.Common.{◌≡◌, ℕ, ◌+◌, ◌^◌, ◌≤◌, ◌++◌, true, false, List, length, Some, Ok, Err, Result, sym, ap, ◌∙◌, subst, arith}
use Rattle.std.specs.Result.{is_err}
use Rattle.std.proofs.lemmas.Bool.{leb-false, true≢false}
use Rattle.tree.specs.Value.{Value, null, object, value_at}
use Rattle.tree.specs.Shows.{Memory, land, Shows, walk}
use Rattle.tree.proofs.Decoding.{describes_shape}
use Rattle.table.specs.declared.SegmentTable.{SegmentTable}
use Rattle.table.specs.Segments.{allocated_in, capacities}
use Rattle.table.specs.Placing.{root}
use Rattle.table.specs.Meaning.{table_of}
use Rattle.effects.proofs.Writing.{within_capacity}
use Rattle.arena.specs.declared.NoSpace.{NoSpace}
use Rattle.law.specs.Calls.{Call, Edit, write, Home}
use Rattle.law.specs.Machine as machine
use Rattle.law.specs.Machine.{fine, judge, too_large, makes_too_large, no_number_in, objection}
use Rattle.law.specs.Exact.{makes, call_outcome}
use Rattle.law.specs.Law.{Source, State, memory, Holds}
use Rattle.law.proofs.Judged.{fine_goes, fine_ruling}
use Rattle.walk.specs.Shapes.{shape_meant}
use Rattle.walk.specs.declared.spot.Spot.{Spot}
use Rattle.walk.specs.Spots.{spot_of}
use Rattle.walk.specs.declared.held.Held.{Held}
use Rattle.judging.specs.declared.site.Site.{Site}
use Rattle.walk.specs.Holding.{Leads}
use Rattle.judging.specs.Sites.{shape_in}
use Rattle.rebuilding.proofs.Growth.{larger_fine}
use Rattle.deciding.specs.declared.edit.Making.{Making}
use Rattle.deciding.specs.declared.edit.Making.TheVariants.{Keep, Wipe, New, Spell, Rebuild}
use Rattle.deciding.specs.Edits.{making_of}
use Rattle.effects.specs.States.{Sized, Prepared, Rewritten, Back}
use Rattle.effects.specs.Parts.{Went, Failed}
use Rattle.effects.specs.Makes.{Slot, Makes, Performs}
use Rattle.effects.proofs.Keeping.{prepared_none}
use Rattle.effects.proofs.Calls.{slot_of, performs_went, performs_failed, performs_back, root_failed, holds_clean, prepared_from}
use Rattle.making.specs.Numbers.{Numbers}
use Rattle.performing.proofs.Making.{made, number_makes}
use Rattle.performing.specs.Able.{Able, Ready, ReadyNumber, Prepares}

-- ## An accepted edit can be made

module _ (H : Memory) (v : Value) (c : Call) (site : Site) (bs : List ℕ) where
  small_making : (m : Making) → Ready H v c site m bs → makes_too_large (making_of m bs) ≡ false
  small_making m r = ap makes_too_large r.making_is ∙ (fine_ruling v c r.judged).1

-- the object that a slot leads to is the one that it shows
shape_led : (H : Memory) (a : ℕ → ℕ) (g w : ℕ) (u : Value) (h : Held) → Shows H a g w u → Leads H g w h → shape_in u ≡ Some (shape_meant h.shape)
shape_led H a g w null h shown leads = absurd (leads.live shown)
shape_led H a g w (object sh dat kid) h shown leads =
    let l = land H g w in
    ap Some (sym (leads.shaped ∙ describes_shape l.said (H l.seg l.pos) sh shown.1.described))

pub able_there : (s : State) (H : Memory) (v : Value) (c : Call) (site : Site) (m : Making) (bs : List ℕ) → memory s ≡ H → Ready H v c site m bs →
    Slot s site.slot.segment site.slot.word (value_at v c.path) → Able (memory s) site.slot.segment site.slot.word (value_at v c.path) m bs
able_there s H v c site Keep bs e r slot = tt
able_there s H v c site Wipe bs e r slot = tt
able_there s H v c site (New sh) bs e r slot = small_making H v c site bs (New sh) r
able_there s H v c site Spell bs e r slot = leb-false (2 ^ 29) (length bs + 1) (small_making H v c site bs Spell r)
able_there s H v c site (Rebuild h sh) bs e r slot =
    let leads : Leads (memory s) site.slot.segment site.slot.word h = subst (λ (M : Memory). Leads M site.slot.segment site.slot.word h) (sym e) r.rebuilds in
    let u : Value = value_at v c.path in
    let is = shape_led (memory s) (allocated_in s.table) site.slot.segment site.slot.word u h slot.shown leads in (
      leads,
      larger_fine v c (memory s) (allocated_in s.table) site.slot.segment site.slot.word (shape_meant h.shape) (shape_meant sh) r.typed r.judged slot.shown is (sym r.making_is),
      small_making H v c site bs (Rebuild h sh) r,
    )

-- at the same slot
pub slot_here : (s : State) (g w : ℕ) (at : ℕ × ℕ) (u : Value) → (g, w) ≡ at → Slot s at.0 at.1 u → Slot s g w u
slot_here s g w at u e h = subst (λ (k : ℕ × ℕ). Slot s k.0 k.1 u) (sym e) h

-- ## The slot of a call

-- the same slot and the same making
pub makes_at : {X : Type 0} (S : Source X) (s s' : State) (u : Value) (g w : ℕ) (at : ℕ × ℕ) (m n : machine.Making) (E : Type 0) (r : Result Spot (NoSpace E)) → (g, w) ≡ at → m ≡ n →
    Makes S s g w u m r s' → Makes S s at.0 at.1 u n r s'
makes_at S s s' u g w at m n E r e f h =
    subst (λ (k : machine.Making). Makes S s at.0 at.1 u k r s') f (subst (λ (k : ℕ × ℕ). Makes S s k.0 k.1 u m r s') e h)

pub slot_there : {X : Type 0} (S : Source X) (s s₁ : State) (v : Value) (c : Call) (q : ℕ × ℕ) → Holds S s v → Went S root s q s₁ → memory s₁ ≡ memory s →
    ((x : ℕ) → allocated_in s₁.table x ≤ 2 ^ 29) → judge v c ≡ fine → Slot s₁ (walk (memory s) 0 0 v c.path).0 (walk (memory s) 0 0 v c.path).1 (value_at v c.path)
slot_there S s s₁ v c q holds rooted same small judged = slot_of S s s₁ v c.path q holds rooted same (fine_goes v c judged) small

-- ## Root and edit

module _ {X : Type 0} (S : Source X) (s s₁ s' : State) (v : Value) (c : Call) (q : ℕ × ℕ) (rooted : Went S root s q s₁) (same : memory s₁ ≡ memory s) where
  pub whole : (E : Type 0) (r : Result Spot (NoSpace E)) →
      Makes S s₁ (walk (memory s) 0 0 v c.path).0 (walk (memory s) 0 0 v c.path).1 (value_at v c.path) (machine.making c.edit (value_at v c.path)) r s' → Prepares S s v c r s'
  whole E (Ok p) h = performs_went S s s₁ s' v c q rooted same (made (memory s') (spot_of p)) h
  whole E (Err y) h = (performs_failed S s s₁ s' v c q rooted same y.minimum h.0, prepared_from S s s₁ s' q rooted same h.1)

module _ {X : Type 0} (S : Source X) (s s₁ : State) (v : Value) (c : Call) (E : Type 0) where
  -- it went, and that is the call
  pub stays : (r : Result Spot (NoSpace E)) → is_err r ≡ false → Prepares S s v c r s₁ → Performs S s v c r s₁
  stays (Ok p) e h = h
  stays (Err y) e h = absurd (true≢false e)

  -- there was no space, and all goes back
  pub goes_back : (s' : State) (r : Result Spot (NoSpace E)) → is_err r ≡ true → Sized s → Prepares S s v c r s₁ →
      ((met : List ℕ) → Prepared s s₁ → capacities s₁.table ≡ capacities s.table ++ met → Back s met s₁ s') → Performs S s v c r s'
  goes_back s' (Ok p) e sized h back = absurd (true≢false (sym e))
  goes_back s' (Err y) e sized h back = performs_back S s s₁ s' v c y h.0 sized h.1.sized (back h.0.met h.1 h.0.capacities_are)

-- there is no root word and no space for it
pub no_root : {X : Type 0} (S : Source X) (s s₁ : State) (v : Value) (c : Call) (y n : ℕ) → Holds S s v → Failed S root s n s₁ → y ≡ n → s₁ ≡ s →
    Failed S (λ r. call_outcome (memory s) v r c) s y s₁ × Prepared s s₁
no_root S s s₁ v c y n h f e same = (
  subst (λ (k : ℕ). Failed S (λ r. call_outcome (memory s) v r c) s k s₁) (sym e) (root_failed S s s₁ v c n f),
  subst (Prepared s) (sym same) (prepared_none s h.stands.sizes_match (holds_clean S s v h)),
)

-- ## Numbers

-- a number is put into the object of the call's slot
pub number_made : {X : Type 0} (S : Source X) (s s' : State) (H : Memory) (v : Value) (c : Call) (held : Held) (home : Home) (code i x : ℕ) (E : Type 0) (r : Result Spot (NoSpace E)) →
    memory s ≡ H → ReadyNumber H v c held home code i x → Slot s (walk H 0 0 v c.path).0 (walk H 0 0 v c.path).1 (value_at v c.path) →
    r ≡ Ok held.landing.start → Rewritten s s' →
    ((g w : ℕ) (u : Value) → Slot s g w u → Leads (memory s) g w held → no_number_in home code i u ≡ 0 → Numbers (memory s) g w u (machine.making (write home code i x) u) (memory s')) →
    Makes S s (walk H 0 0 v c.path).0 (walk H 0 0 v c.path).1 (value_at v c.path) (machine.making c.edit (value_at v c.path)) r s'
number_made S s s' H v c held home code i x E r same ready slot is rewritten words =
    let g : ℕ = (walk H 0 0 v c.path).0 in
    let w : ℕ = (walk H 0 0 v c.path).1 in
    let u : Value = value_at v c.path in
    let leads : Leads (memory s) g w held = subst (λ (M : Memory). Leads M g w held) (sym same) ready.leads in
    let there : no_number_in home code i u ≡ 0 = ap (λ e. objection e u) (sym ready.edit_is) ∙ (fine_ruling v c ready.judged).0 in
    subst (λ (y : Result Spot (NoSpace E)). Makes S s g w u (machine.making c.edit u) y s') (sym is)
    (subst (λ (e : Edit). Went S (makes (memory s) g w u (machine.making e u)) s (made (memory s') (spot_of held.landing.start)) s') (sym ready.edit_is)
    (number_makes S s s' g w u (machine.making (write home code i x) u) held rewritten (words g w u slot leads there) leads))

-- the counts of a table are small
pub counts_small : (t : SegmentTable) (x : ℕ) → allocated_in (table_of t) x ≤ 2 ^ 29
counts_small t x = let b = within_capacity t x in omega arith
