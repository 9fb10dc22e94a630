-- The steps of a rebuild as parts of a call.
use Rattle.std.proofs.Common.{◌≡◌, ℕ, ◌≤◌, false, ◌≢◌, sym, ap, ◌∙◌, subst, arith}
use Rattle.tree.specs.Value.{Shape, Value, null, object}
use Rattle.tree.specs.Shows.{Memory, Landing, land, Body}
use Rattle.tree.specs.Decode.{shape_at}
use Rattle.tree.proofs.Decoding.{describes_shape}
use Rattle.table.specs.Segments.{Table, allocated_in}
use Rattle.table.specs.Placing.{Room, Outcome, got, then}
use Rattle.law.specs.Machine.{too_large, rebuild}
use Rattle.law.specs.Exact.{Written, place_shape, opened, copied, moves, closed, rebuilds, makes}
use Rattle.law.specs.Law.{Source, State, memory}
use Rattle.law.proofs.Rooms.{after_shape, after_moves}
use Rattle.layout.proofs.Emptying.{land_pads}
use Rattle.objects.specs.Rooms.{RoomThere}
use Rattle.effects.specs.States.{Rewritten, Prepared}
use Rattle.effects.specs.Parts.{Went, Failed}
use Rattle.effects.specs.Makes.{Slot}
use Rattle.effects.proofs.Joins.{joins, fails_first, fails_later, rewrites}
use Rattle.effects.proofs.Keeping.{went_grown, prepared_none}
use Rattle.widen.specs.Numbers.{Put}
use Rattle.rebuilding.specs.Steps.{Opens, Closes}

-- a live slot shows an object of the shape that its words have
pub as_object : (P : Value → Type 0) (e : State) (g w : ℕ) (u : Value) (sh : Shape) → Slot e g w u → memory e g w ≢ 0 →
    sh ≡ shape_at (memory e) (land (memory e) g w) → ((dat : ℕ → ℕ → ℕ) (kid : ℕ → ℕ → Value) → Slot e g w (object sh dat kid) → P (object sh dat kid)) → P u
as_object P e g w null sh slot live shaped k = absurd (live slot.shown)
as_object P e g w (object sh₀ dat kid) sh slot live shaped k =
    let l : Landing = land (memory e) g w in
    let i : sh ≡ sh₀ = shaped ∙ describes_shape l.said (memory e l.seg l.pos) sh₀ slot.shown.1.described in
    subst (λ (z : Shape). P (object z dat kid)) i (k dat kid (subst (λ (z : Shape). Slot e g w (object z dat kid)) (sym i) slot))

-- ## The rule, step by step

-- e is the state before; b has the room; m has the larger object with its numbers; n has the children moved. The steps speak of a mark d
-- with the words of e.
module _ {X : Type 0} (S : Source X) (e b m : State) (g w s t : ℕ) (l : Landing) (sh sh' : Shape) (dat : ℕ → ℕ → ℕ) (kid : ℕ → ℕ → Value)
    (slot : Slot e g w (object sh dat kid)) (lands : l ≡ land (memory e) g w) (fits : too_large sh' ≡ false)
    (placed : Went S (λ k. place_shape k g w sh') e (s, t) b × (memory b ≡ memory e)) (room : RoomThere b.table g s t sh') (written : Rewritten b m)
    (fill : (mark : State) → Opens mark b g l sh s t sh' → Put mark (copied (memory mark) l sh s t sh' (opened (memory mark) g s t sh')) m)
    (d : State) (like : memory d ≡ memory e) (opens : Opens d b g l sh s t sh') where
  abbrev N : Memory
  N = copied (memory e) l sh s t sh' (opened (memory e) g s t sh')

  pub filled_since : Prepared d m
  filled_since = (fill d opens).prepared

  words : memory m ≡ N
  words = (fill d opens).words ∙ ap (λ (H : Memory). copied H l sh s t sh' (opened H g s t sh')) like

  abbrev last : Room → Memory → Outcome Written
  last r M = got r (record { words = closed M g w l sh s t sh'; pair = (s, t) })

  abbrev rest : Room → ℕ × ℕ → Outcome Written
  rest r p =
      then (moves l sh p.0 p.1 sh' r (copied (memory e) l sh p.0 p.1 sh' (opened (memory e) g p.0 p.1 sh')))
      (λ r₂ M. got r₂ (record { words = closed M g w l sh p.0 p.1 sh'; pair = p }))

  -- no space for a child's pad
  pub rebuild_fails : (n : State) (k : ℕ) → Failed S (λ r. moves l sh s t sh' r (memory m)) m k n →
      Failed S (makes (memory e) g w (object sh dat kid) (rebuild sh')) e k n
  rebuild_fails n k h =
      let f = subst (λ (M : Memory). Failed S (λ r. moves l sh s t sh' r M) m k n) words h in
      let first = fails_first S (λ r. moves l sh s t sh' r N) last m n k f in
      let second : Failed S (λ r. rest r (s, t)) b k n = fails_later S (λ r. got r (tt {0})) (λ r _. rest r (s, t)) b m n tt k (rewrites S b m tt written) first in
      subst (λ (z : Landing). Failed S (rebuilds (memory e) g w z (object sh dat kid) sh') e k n) lands
      (fails_later S (λ r. place_shape r g w sh') rest e b n (s, t) k placed.0 second)

  -- all went
  module _ (n x : State) (moved : Went S (λ r. moves l sh s t sh' r (memory m)) m (memory n) n × Prepared d n) where
    body : Body (memory e) (allocated_in e.table) l sh dat
    body = subst (λ (z : Landing). Body (memory e) (allocated_in e.table) z sh dat) (sym lands) slot.shown.1

    -- counts never fall
    grown : (y : ℕ) → allocated_in b.table y ≤ allocated_in n.table y
    grown y =
        let k = ap (λ (z : Table). allocated_in z y) written.same_table in
        let f = went_grown S (λ r. moves l sh s t sh' r (memory m)) m n (memory n) moved.0 (λ r. after_moves l sh s t sh' r (memory m)) y in
        omega arith

    closes : Closes n g w l sh s t sh'
    closes = record {
      sized = moved.1.sized;
      first = memory e l.seg l.pos;
      described = body.described;
      low = omega (arith, body.inside, slot.small l.seg);
      low_pads = omega (arith, body.pads_inside, slot.small l.pad_seg);
      few_pads = subst (λ (z : Landing). z.pad_len ≤ 2) (sym lands) (land_pads (memory e) g w);
      inside = omega (arith, slot.inside, grown g, went_grown S (λ k. place_shape k g w sh') e b (s, t) placed.0 (λ r. after_shape r g w sh') g);
      room = record { object_inside = omega (arith, room.object_inside, grown s); pad_inside = room.pad_inside };
      fits = fits;
    }

    pub rebuilt : Rewritten n x → (Closes n g w l sh s t sh' → memory x ≡ closed (memory n) g w l sh s t sh') →
        Went S (makes (memory e) g w (object sh dat kid) (rebuild sh')) e (record { words = memory x; pair = (s, t) }) x
    rebuilt r close =
        let end : Written = record { words = memory x; pair = (s, t) } in
        let settled : Went S (λ k. last k (memory n)) n end x =
        subst (λ (M : Memory). Went S (λ k. got k (record { words = M; pair = (s, t) })) n end x) (close closes) (rewrites S n x end r) in
        let f = subst (λ (M : Memory). Went S (λ k. moves l sh s t sh' k M) m (memory n) n) words moved.0 in
        let first = joins S (λ k. moves l sh s t sh' k N) last m n x (memory n) end f settled in
        let second : Went S (λ k. rest k (s, t)) b end x = joins S (λ k. got k (tt {0})) (λ k _. rest k (s, t)) b m x tt end (rewrites S b m tt written) first in
        subst (λ (z : Landing). Went S (rebuilds (memory e) g w z (object sh dat kid) sh') e end x) lands
        (joins S (λ k. place_shape k g w sh') rest e b x (s, t) end placed.0 second)

-- no room for the larger object
pub fails_at_once : {X : Type 0} (S : Source X) (e b : State) (g w : ℕ) (sh sh' : Shape) (u : Value) (n k : ℕ) → Slot e g w u → memory e g w ≢ 0 →
    sh ≡ shape_at (memory e) (land (memory e) g w) → Failed S (λ r. place_shape r g w sh') e n b × (k ≡ n) × (b ≡ e) →
    Failed S (makes (memory e) g w u (rebuild sh')) e k b × Prepared e b
fails_at_once S e b g w sh sh' u n k slot live shaped f = (
  as_object (λ (v : Value). Failed S (makes (memory e) g w v (rebuild sh')) e k b) e g w u sh slot live shaped
      (λ dat kid o.
      subst (λ (z : ℕ). Failed S (makes (memory e) g w (object sh dat kid) (rebuild sh')) e z b) (sym f.1)
      (fails_first S (λ r. place_shape r g w sh') _ e b n f.0)),
  subst (Prepared e) (sym f.2) (prepared_none e slot.sized slot.clean),
)
