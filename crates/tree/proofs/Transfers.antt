-- The ways in which a child gets to a new slot.
use Rattle.std.proofs.Common.{◌≡◌, ℕ, ◌+◌, ◌^◌, ◌<◌, ◌≤◌, ◌≢◌, sym, refl, ap, ◌∙◌, subst, ap₂, ⊎_elim, arith}
use Rattle.wire.specs.Pointers.{high_half, pointer_kind, pointer_target, single_far, double_far, empty_struct, re_aimed, unaimed}
use Rattle.tree.specs.Value.{Shape, structure, plain, composite, Value, null, object, rows, pointers, size, slot}
use Rattle.tree.specs.Shows.{spare, span, Memory, Way, direct, single, double, way, landing, land, Road, Paved, Describes, within, reach}
use Rattle.tree.specs.Edits.{pads, Transferred, Steady}
use Rattle.tree.proofs.Count.{within_in, within_cases, within_none, totals_term}
use Rattle.tree.proofs.Shapes.{slot_in}
use Rattle.tree.proofs.PointerParts.{empty_parts}
use Rattle.tree.proofs.Frame.{Agree, PadsSame, landing_same, road_same, spare_empty, spare_alike}
use Rattle.tree.proofs.Context.{kids}
use Rattle.tree.proofs.Replace.{reach_inside}
use Rattle.tree.proofs.Roads.{land_direct, land_single, land_double, paved_direct, paved_single, paved_double}
use Rattle.tree.proofs.Carry.{Moved, moved_shows, moved_reach, describes_alike, described_kind, repoint_parts, repoint_target, flat_parts}

-- null: the zero word
pub transfer_null : (H H' : Memory) (a : ℕ → ℕ) (g w G W : ℕ) → H' G W ≡ 0 → ((x y : ℕ) → (x ≡ G → y ≡ W → ⊥) → H' x y ≡ H x y) →
    Transferred H H' a a g w G W 0 0 0 null
transfer_null H H' a g w G W e k = record {
  grown = λ x. omega arith;
  shown = e;
  reaches = λ x y. omega (arith, within_none 0 0 x y);
  new = λ h. absurd (omega arith);
  kept = λ x y _. k x y;
}

module _ (H H' : Memory) (a a' : ℕ → ℕ) (g w G W s q n : ℕ) (sh : Shape) (dat : ℕ → ℕ → ℕ) (kid : ℕ → ℕ → Value)
    (f : Steady H H' a a' g w G W s q n (object sh dat kid)) where
  reached_same : (x y : ℕ) → 1 ≤ reach H g w (object sh dat kid) x y → H' x y ≡ H x y
  reached_same x y h =
      let i = reach_inside H a (object sh dat kid) g w f.before x y h in
      f.kept x y
      (⊎_elim
      (λ (d : (within s q n x y ≡ 1) × (x ≡ s) × (q ≤ y) × (y < q + n)).
      absurd (omega (arith, f.new (omega (arith, d.2, d.3)), d.2, subst (λ z. y < a z) d.1 i)))
      (λ (d : within s q n x y ≡ 0). d)
      (within_cases s q n x y))
      (λ e k. omega (arith, f.free, h, ap₂ (reach H g w (object sh dat kid)) e k))

  body_same : (m : ℕ) → m < size sh → H' (land H g w).seg ((land H g w).pos + m) ≡ H (land H g w).seg ((land H g w).pos + m)
  body_same m h =
      let l = land H g w in
      reached_same l.seg (l.pos + m) (omega (arith, within_in l.seg l.pos (span l.said sh) l.seg (l.pos + m) refl (omega arith) (omega arith)))

  kid_same : (i j : ℕ) → i < rows sh → j < pointers sh → Agree H H' (land H g w).seg ((land H g w).pos + slot sh i j) (kid i j)
  kid_same i j hi hj = (
    body_same (slot sh i j) (slot_in sh i j hi hj),
    λ x y h. reached_same x y (omega (arith, totals_term (rows sh) (pointers sh) (kids H g w sh kid x y) i j hi hj)),
  )

  -- from the new landing
  by_landing : Paved H' G W →
      ((t : ℕ) → Describes (land H g w).said t sh → Describes (land H' G W).said t sh) →
      (spare (land H' G W).said sh ≡ spare (land H g w).said sh) →
      (1 ≤ size sh → (land H' G W).seg ≡ (land H g w).seg) →
      (1 ≤ size sh → (land H' G W).pos ≡ (land H g w).pos) →
      (size sh ≡ 0 → (land H' G W).pos ≤ a' (land H' G W).seg) →
      (land H' G W).pad_pos + (land H' G W).pad_len ≤ a' (land H' G W).pad_seg →
      ((x y : ℕ) → pads H' G W x y ≡ pads H g w x y + within s q n x y) →
      Transferred H H' a a' g w G W s q n (object sh dat kid)
  by_landing paved described spare_same to_seg to_pos inside pads_inside grows =
      let c : Moved H H' a a' g w G W sh kid = record {
        grown = f.grown;
        paved = paved;
        described = described;
        spare_same = spare_same;
        to_seg = to_seg;
        to_pos = to_pos;
        inside = inside;
        pads_inside = pads_inside;
        object_same = body_same;
        kid_same = kid_same;
      } in
      record {
        grown = f.grown;
        shown = moved_shows H H' a a' g w G W sh dat kid c f.before;
        reaches = λ x y. omega (arith, moved_reach H H' a a' g w G W sh dat kid c x y, grows x y);
        new = f.new;
        kept = f.kept;
      }

-- a far pointer is copied
far_landing : (H : Memory) (g w G W x : ℕ) (m : Way) → m ≢ direct → landing H G W x m ≡ landing H g w x m
far_landing H g w G W x direct k = absurd (k refl)
far_landing H g w G W x single k = refl
far_landing H g w G W x double k = refl

far_road : (H : Memory) (g w G W x : ℕ) (m : Way) → m ≢ direct → Road H g w x m → Road H G W x m
far_road H g w G W x direct k r = absurd (k refl)
far_road H g w G W x single k r = r
far_road H g w G W x double k r = r

pub transfer_far : (H H' : Memory) (a : ℕ → ℕ) (g w G W : ℕ) (sh : Shape) (dat : ℕ → ℕ → ℕ) (kid : ℕ → ℕ → Value) →
    Steady H H' a a g w G W 0 0 0 (object sh dat kid) → way (H g w) ≢ direct → H' G W ≡ H g w →
    Transferred H H' a a g w G W 0 0 0 (object sh dat kid)
unfolding land Paved
transfer_far H H' a g w G W sh dat kid f k e =
    let x = H g w in
    let m = way (H g w) in
    let same : PadsSame H H' (landing H g w x m) = λ b y h. reached_same H H' a a g w G W 0 0 0 sh dat kid f b y (omega arith) in
    let l : land H' G W ≡ land H g w =
    rw e (far_landing H' g w G W x m k ∙ landing_same H H' g w x m same) in
    by_landing H H' a a g w G W 0 0 0 sh dat kid f
    (rw e (far_road H' g w G W x m k (road_same H H' g w x m same f.before.0)))
    (λ t d. subst (λ z. Describes z.said t sh) (sym l) d)
    (ap (λ z. spare z.said sh) l)
    (λ h. ap (λ z. z.seg) l)
    (λ h. ap (λ z. z.pos) l)
    (λ h. subst (λ z. z.pos ≤ a z.seg) (sym l) (omega (arith, f.before.1.inside)))
    (subst (λ z. z.pad_pos + z.pad_len ≤ a z.pad_seg) (sym l) f.before.1.pads_inside)
    (λ x y. omega (arith, within_none 0 0 x y, ap (λ z. within z.pad_seg z.pad_pos z.pad_len x y) l))

-- ## A child that its slot leads to directly

module _ (H H' : Memory) (a a' : ℕ → ℕ) (g w G W s q n : ℕ) (sh : Shape) (dat : ℕ → ℕ → ℕ) (kid : ℕ → ℕ → Value)
    (f : Steady H H' a a' g w G W s q n (object sh dat kid)) (near : pointer_kind (H g w) ≢ 2) (small : (x : ℕ) → a' x < 2 ^ 29) where
  from : land H g w ≡ record { said = H g w; seg = g; pos = pointer_target w (H g w); pad_seg = g; pad_pos = w; pad_len = 0 }
  from = land_direct H g w (H g w) (pointer_target w (H g w)) refl near refl

  aim_inside : pointer_target w (H g w) + size sh ≤ a g
  aim_inside = let h = subst (λ z. z.pos + span z.said sh ≤ a z.seg) from f.before.1.inside in omega (arith, h)

  said_kind : pointer_kind (H g w) ≤ 1
  said_kind =
      described_kind (H g w) (H (land H g w).seg (land H g w).pos) sh
      (subst (λ z. Describes z.said (H (land H g w).seg (land H g w).pos) sh) from f.before.1.described)

  -- the new landing, with all that is left to see
  to : (x S P Q N : ℕ) → land H' G W ≡ record { said = x; seg = g; pos = pointer_target w (H g w); pad_seg = S; pad_pos = P; pad_len = N } →
      Paved H' G W → pointer_kind x ≡ pointer_kind (H g w) → high_half x ≡ high_half (H g w) → P + N ≤ a' S →
      ((b y : ℕ) → within S P N b y ≡ within s q n b y) →
      Transferred H H' a a' g w G W s q n (object sh dat kid)
  to x S P Q N l paved k h i same =
      by_landing H H' a a' g w G W s q n sh dat kid f paved
      (λ t d. subst (λ z. Describes z.said t sh) (sym l) (describes_alike (H g w) x t sh k h (subst (λ z. Describes z.said t sh) from d)))
      (rw (l, from) (spare_alike (H g w) x sh h))
      (λ _. rw (l, from))
      (λ _. rw (l, from))
      (λ _. rw l (omega (arith, aim_inside, f.grown g)))
      (rw l i)
      (λ b y. rw (l, from) (omega (arith, same b y, within_none g w b y)))

-- in the same segment: a new d
pub transfer_near : (H H' : Memory) (a a' : ℕ → ℕ) (g w W : ℕ) (sh : Shape) (dat : ℕ → ℕ → ℕ) (kid : ℕ → ℕ → Value) →
    Steady H H' a a' g w g W 0 0 0 (object sh dat kid) → pointer_kind (H g w) ≢ 2 → ((x : ℕ) → a' x < 2 ^ 29) →
    (pointer_kind (H g w) ≡ 0 → high_half (H g w) ≢ 0) →
    H' g W ≡ re_aimed (H g w) W (pointer_target w (H g w)) →
    Transferred H H' a a' g w g W 0 0 0 (object sh dat kid)
transfer_near H H' a a' g w W sh dat kid f near small full e =
    let x = H g w in
    let t = pointer_target w (H g w) in
    let ti = aim_inside H H' a a' g w g W 0 0 0 sh dat kid f near small in
    let wi : W < 2 ^ 29 = omega (arith, f.slot_inside, f.grown g, small g) in
    let tt' : t < 2 ^ 29 = omega (arith, ti, f.grown g, small g) in
    let k = repoint_parts x W t in
    let nf : pointer_kind (re_aimed x W t) ≢ 2 = omega (arith, k.0, near) in
    to H H' a a' g w g W 0 0 0 sh dat kid f near small (re_aimed x W t) g W 0 0
    (land_direct H' g W (re_aimed x W t) t e nf (repoint_target x W t wi tt'))
    (paved_direct H' g W (re_aimed x W t) e nf (λ z. full (omega (arith, z)) (omega (arith, z))))
    k.0
    k.1
    (omega (arith, f.slot_inside, f.grown g))
    (λ b y. omega (arith, within_none g W b y, within_none 0 0 b y))

-- an empty struct: its own form
empty_size : (x t : ℕ) (sh : Shape) → Describes x t sh → pointer_kind x ≡ 0 → high_half x ≡ 0 → (size sh ≡ 0) × ((z u : ℕ) → pointer_kind z ≡ 0 → high_half z ≡ 0 → Describes z u sh)
unfolding Describes
empty_size x t (structure dw pw) d k h =
    let e : dw ≡ 0 = omega (arith, d.1, h) in
    let f : pw ≡ 0 = omega (arith, d.2, h) in
    (omega arith, λ z u kz hz. (kz, omega (arith, hz, e), omega (arith, hz, f)))
empty_size x t (plain c n) d k h = absurd (omega (arith, d.0, k))
empty_size x t (composite n dw pw) d k h = absurd (omega (arith, d.0, k))

pub transfer_empty : (H H' : Memory) (a a' : ℕ → ℕ) (g w G W : ℕ) (sh : Shape) (dat : ℕ → ℕ → ℕ) (kid : ℕ → ℕ → Value) →
    Steady H H' a a' g w G W 0 0 0 (object sh dat kid) → ((x : ℕ) → a' x < 2 ^ 29) →
    pointer_kind (H g w) ≡ 0 → high_half (H g w) ≡ 0 → H' G W ≡ empty_struct →
    Transferred H H' a a' g w G W 0 0 0 (object sh dat kid)
transfer_empty H H' a a' g w G W sh dat kid f small k h e =
    let near : pointer_kind (H g w) ≢ 2 = omega (arith, k) in
    let from' = from H H' a a' g w G W 0 0 0 sh dat kid f near small in
    let wi : W < 2 ^ 29 = omega (arith, f.slot_inside, f.grown G, small G) in
    let z = empty_parts W wi in
    let l = land_direct H' G W empty_struct W e (omega arith) z.1 in
    let u = H (land H g w).seg (land H g w).pos in
    let es = empty_size (H g w) u sh (subst (λ z. Describes z.said u sh) from' f.before.1.described) k h in
    by_landing H H' a a' g w G W 0 0 0 sh dat kid f
    (paved_direct H' G W empty_struct e (omega arith) (omega arith))
    (λ t d. rw l (es.1 empty_struct t refl refl))
    (spare_empty (land H' G W).said sh es.0 ∙ sym (spare_empty (land H g w).said sh es.0))
    (λ q. absurd (omega (arith, es.0)))
    (λ q. absurd (omega (arith, es.0)))
    (λ _. rw l (omega (arith, f.slot_inside, f.grown G)))
    (rw l (omega (arith, f.slot_inside, f.grown G)))
    (λ b y. rw (l, from') (omega (arith, within_none g w b y, within_none G W b y, within_none 0 0 b y)))

-- in another segment: a pad in word q of the child's own
pub transfer_pad : (H H' : Memory) (a a' : ℕ → ℕ) (g w G W q : ℕ) (sh : Shape) (dat : ℕ → ℕ → ℕ) (kid : ℕ → ℕ → Value) →
    Steady H H' a a' g w G W g q 1 (object sh dat kid) → pointer_kind (H g w) ≢ 2 → ((x : ℕ) → a' x < 2 ^ 29) → q < a' g →
    H' G W ≡ single_far g q → H' g q ≡ re_aimed (H g w) q (pointer_target w (H g w)) →
    Transferred H H' a a' g w G W g q 1 (object sh dat kid)
transfer_pad H H' a a' g w G W q sh dat kid f near small qi e k =
    let x = H g w in
    let t = pointer_target w (H g w) in
    let ti = aim_inside H H' a a' g w G W g q 1 sh dat kid f near small in
    let qs : q < 2 ^ 29 = omega (arith, qi, small g) in
    let ts : t < 2 ^ 29 = omega (arith, ti, f.grown g, small g) in
    let z = repoint_parts x q t in
    let live : re_aimed x q t ≢ 0 = λ d. omega (arith, d, ti, f.new (omega arith), repoint_target x q t qs ts) in
    to H H' a a' g w G W g q 1 sh dat kid f near small (re_aimed x q t) g q 0 1
    (land_single H' G W g q (re_aimed x q t) t qs e k (repoint_target x q t qs ts))
    (paved_single H' G W g q qs e (λ d. live (sym k ∙ d)))
    z.0
    z.1
    (omega (arith, qi))
    (λ b y. refl)

-- in another segment, its own being full: two pads in words q and q + 1 of segment s
pub transfer_double : (H H' : Memory) (a a' : ℕ → ℕ) (g w G W s q : ℕ) (sh : Shape) (dat : ℕ → ℕ → ℕ) (kid : ℕ → ℕ → Value) →
    Steady H H' a a' g w G W s q 2 (object sh dat kid) → pointer_kind (H g w) ≢ 2 → ((x : ℕ) → a' x < 2 ^ 29) → q + 1 < a' s →
    H' G W ≡ double_far s q → H' s q ≡ single_far g (pointer_target w (H g w)) → H' s (q + 1) ≡ unaimed (H g w) →
    Transferred H H' a a' g w G W s q 2 (object sh dat kid)
transfer_double H H' a a' g w G W s q sh dat kid f near small qi e k j =
    let x = H g w in
    let t = pointer_target w (H g w) in
    let ti = aim_inside H H' a a' g w G W s q 2 sh dat kid f near small in
    let qs : q < 2 ^ 29 = omega (arith, qi, small s) in
    let ts : t < 2 ^ 29 = omega (arith, ti, f.grown g, small g) in
    let z = flat_parts x in
    to H H' a a' g w G W s q 2 sh dat kid f near small (unaimed x) s q 0 2
    (land_double H' G W s q (unaimed x) g t qs ts e k j)
    (paved_double H' G W s q g t qs ts e k (rw j z.2))
    z.0
    z.1
    (omega (arith, qi))
    (λ b y. refl)
