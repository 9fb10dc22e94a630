-- What is shown depends only on the slot and the words reached from it.
use Rattle.std.proofs.Common.{◌≡◌, ℕ, ◌+◌, ◌<◌, ◌≤◌, ◌≢◌, sym, refl, ◌∙◌, arith}
use Rattle.wire.specs.Pointers.{high_half, far_segment, far_word}
use Rattle.tree.specs.Value.{Shape, structure, plain, composite, Value, null, object, rows, pointers, size, slot, head}
use Rattle.tree.specs.Shows.{Memory, Way, direct, single, double, way, Landing, landing, land, Road, Paved, Describes, spare, span, Body, Shows, within, reach}
use Rattle.tree.proofs.Count.{within_in, totals_ext, totals_term}
use Rattle.tree.proofs.Shapes.{slot_in, number_local}

-- two memories agree on the pads of a landing
abbrev pub PadsSame : Memory → Memory → Landing → Type 0
PadsSame H H' l = (x y : ℕ) → 1 ≤ within l.pad_seg l.pad_pos l.pad_len x y → H' x y ≡ H x y

pub landing_same : (H H' : Memory) (g w x : ℕ) (m : Way) → PadsSame H H' (landing H g w x m) → landing H' g w x m ≡ landing H g w x m
landing_same H H' g w x direct e = refl
landing_same H H' g w x single e =
    let p : H' (far_segment x) (far_word x) ≡ H (far_segment x) (far_word x) =
    e (far_segment x) (far_word x) (omega (arith, within_in (far_segment x) (far_word x) 1 (far_segment x) (far_word x) refl (omega arith) (omega arith))) in
    rw p
landing_same H H' g w x double e =
    let p : H' (far_segment x) (far_word x) ≡ H (far_segment x) (far_word x) =
    e (far_segment x) (far_word x) (omega (arith, within_in (far_segment x) (far_word x) 2 (far_segment x) (far_word x) refl (omega arith) (omega arith))) in
    let q : H' (far_segment x) (far_word x + 1) ≡ H (far_segment x) (far_word x + 1) =
    e (far_segment x) (far_word x + 1) (omega (arith, within_in (far_segment x) (far_word x) 2 (far_segment x) (far_word x + 1) refl (omega arith) (omega arith))) in
    rw (p, q)

pub road_same : (H H' : Memory) (g w x : ℕ) (m : Way) → PadsSame H H' (landing H g w x m) → Road H g w x m → Road H' g w x m
road_same H H' g w x direct e r = r
road_same H H' g w x single e r =
    let p : H' (far_segment x) (far_word x) ≡ H (far_segment x) (far_word x) =
    e (far_segment x) (far_word x) (omega (arith, within_in (far_segment x) (far_word x) 1 (far_segment x) (far_word x) refl (omega arith) (omega arith))) in
    rw p r
road_same H H' g w x double e r =
    let p : H' (far_segment x) (far_word x) ≡ H (far_segment x) (far_word x) =
    e (far_segment x) (far_word x) (omega (arith, within_in (far_segment x) (far_word x) 2 (far_segment x) (far_word x) refl (omega arith) (omega arith))) in
    let q : H' (far_segment x) (far_word x + 1) ≡ H (far_segment x) (far_word x + 1) =
    e (far_segment x) (far_word x + 1) (omega (arith, within_in (far_segment x) (far_word x) 2 (far_segment x) (far_word x + 1) refl (omega arith) (omega arith))) in
    rw (p, q) r

pub land_same : (H H' : Memory) (g w : ℕ) → H' g w ≡ H g w → PadsSame H H' (land H g w) → land H' g w ≡ land H g w
unfolding land
land_same H H' g w s e = rw s (landing_same H H' g w (H g w) (way (H g w)) e)

pub paved_same : (H H' : Memory) (g w : ℕ) → H' g w ≡ H g w → PadsSame H H' (land H g w) → Paved H g w → Paved H' g w
unfolding land Paved
paved_same H H' g w s e r = rw s (road_same H H' g w (H g w) (way (H g w)) e r)

pub describes_same : (x t u : ℕ) (sh : Shape) → (1 ≤ size sh → u ≡ t) → Describes x t sh → Describes x u sh
unfolding Describes
describes_same x t u (structure dw pw) e d = d
describes_same x t u (plain c n) e d = d
describes_same x t u (composite n dw pw) e d = rw (e (omega arith)) d

pub describes_headed : (x t u : ℕ) (sh : Shape) → (1 ≤ head sh → u ≡ t) → Describes x t sh → Describes x u sh
unfolding Describes
describes_headed x t u (structure dw pw) e d = d
describes_headed x t u (plain c n) e d = d
describes_headed x t u (composite n dw pw) e d = rw (e (omega arith)) d

-- the object's words, but for its slots, are the same
abbrev pub BodySame : Memory → Memory → Landing → Shape → Type 0
BodySame H H' l sh =
    (n : ℕ) → n < size sh → ((i j : ℕ) → i < rows sh → j < pointers sh → n ≢ slot sh i j) → H' l.seg (l.pos + n) ≡ H l.seg (l.pos + n)

tag_same : (x : ℕ) (H H' : Memory) (g p : ℕ) (sh : Shape) →
    ((n : ℕ) → n < size sh → ((i j : ℕ) → i < rows sh → j < pointers sh → n ≢ slot sh i j) → H' g (p + n) ≡ H g (p + n)) →
    Describes x (H g p) sh → Describes x (H' g p) sh
unfolding Describes
tag_same x H H' g p (structure dw pw) e d = d
tag_same x H H' g p (plain c n) e d = d
tag_same x H H' g p (composite n dw pw) e d =
    let z : p + 0 ≡ p = omega arith in
    let q : H' g p ≡ H g p = rw z at (e 0 (omega arith) (λ i j hi hj. omega arith)) in
    rw q d

pub body_same : (H H' : Memory) (a a' : ℕ → ℕ) (l : Landing) (sh : Shape) (dat : ℕ → ℕ → ℕ) → ((x : ℕ) → a x ≤ a' x) →
    BodySame H H' l sh → Body H a l sh dat → Body H' a' l sh dat
body_same H H' a a' l sh dat le e b = record {
  described = tag_same l.said H H' l.seg l.pos sh e b.described;
  inside = omega (arith, b.inside, le l.seg);
  pads_inside = omega (arith, b.pads_inside, le l.pad_seg);
  numbers = λ i k hi hk. b.numbers i k hi hk ∙ sym (number_local sh (λ n. H l.seg (l.pos + n)) (λ n. H' l.seg (l.pos + n)) i k hi hk (λ n _. e n));
  no_more = b.no_more;
}

-- an object without words has none to spare
pub spare_empty : (x : ℕ) (sh : Shape) → size sh ≡ 0 → spare x sh ≡ 0
spare_empty x (structure dw pw) e = refl
spare_empty x (plain c n) e = refl
spare_empty x (composite n dw pw) e = absurd (omega arith)

pub spare_alike : (x y : ℕ) (sh : Shape) → high_half y ≡ high_half x → spare y sh ≡ spare x sh
spare_alike x y (structure dw pw) h = refl
spare_alike x y (plain c n) h = refl
spare_alike x y (composite n dw pw) h = rw h

-- a slot is a word of its object
pub slot_within : (g p z : ℕ) (sh : Shape) (i j : ℕ) → i < rows sh → j < pointers sh → within g p (span z sh) g (p + slot sh i j) ≡ 1
slot_within g p z sh i j hi hj = within_in g p (span z sh) g (p + slot sh i j) refl (omega arith) (omega (arith, slot_in sh i j hi hj))

-- ## The frame

module _ (H H' : Memory) where
  abbrev pub Agree : ℕ → ℕ → Value → Type 0
  Agree g w v = (H' g w ≡ H g w) × ((x y : ℕ) → 1 ≤ reach H g w v x y → H' x y ≡ H x y)

  pub agree_land : (sh : Shape) (dat : ℕ → ℕ → ℕ) (kid : ℕ → ℕ → Value) (g w : ℕ) → Agree g w (object sh dat kid) → PadsSame H H' (land H g w)
  agree_land sh dat kid g w e x y h = e.1 x y (omega arith)

  pub agree_body : (sh : Shape) (dat : ℕ → ℕ → ℕ) (kid : ℕ → ℕ → Value) (g w : ℕ) → Agree g w (object sh dat kid) →
      (n : ℕ) → n < size sh → H' (land H g w).seg ((land H g w).pos + n) ≡ H (land H g w).seg ((land H g w).pos + n)
  agree_body sh dat kid g w e n h =
      let l = land H g w in
      e.1 l.seg (l.pos + n) (omega (arith, within_in l.seg l.pos (span l.said sh) l.seg (l.pos + n) refl (omega arith) (omega arith)))

  pub agree_kid : (sh : Shape) (dat : ℕ → ℕ → ℕ) (kid : ℕ → ℕ → Value) (g w : ℕ) → Agree g w (object sh dat kid) →
      (i j : ℕ) → i < rows sh → j < pointers sh → Agree (land H g w).seg ((land H g w).pos + slot sh i j) (kid i j)
  agree_kid sh dat kid g w e i j hi hj =
      let l = land H g w in (
        agree_body sh dat kid g w e (slot sh i j) (slot_in sh i j hi hj),
        λ x y h. e.1 x y (omega (arith, totals_term (rows sh) (pointers sh) (λ i j. reach H l.seg (l.pos + slot sh i j) (kid i j) x y) i j hi hj)),
      )

  pub frame_reach : (v : Value) (g w : ℕ) → Agree g w v → (x y : ℕ) → reach H' g w v x y ≡ reach H g w v x y
  frame_reach null g w e x y = refl
  frame_reach (object sh dat kid) g w e x y =
      rw (land_same H H' g w e.0 (agree_land sh dat kid g w e))
      (omega (
        arith,
        totals_ext (rows sh) (pointers sh)
            (λ i j. reach H' (land H g w).seg ((land H g w).pos + slot sh i j) (kid i j) x y)
            (λ i j. reach H (land H g w).seg ((land H g w).pos + slot sh i j) (kid i j) x y)
            (λ i j hi hj. frame_reach (kid i j) (land H g w).seg ((land H g w).pos + slot sh i j) (agree_kid sh dat kid g w e i j hi hj) x y),
      ))

  module _ (a a' : ℕ → ℕ) (le : (x : ℕ) → a x ≤ a' x) where
    pub frame : (v : Value) (g w : ℕ) → Agree g w v → Shows H a g w v → Shows H' a' g w v
    frame null g w e s = e.0 ∙ s
    frame (object sh dat kid) g w e s =
        let pads = agree_land sh dat kid g w e in (
          paved_same H H' g w e.0 pads s.0,
          rw (land_same H H' g w e.0 pads)
              (body_same H H' a a' (land H g w) sh dat le (λ n h _. agree_body sh dat kid g w e n h) s.1),
          rw (land_same H H' g w e.0 pads)
              (λ i j hi hj. frame (kid i j) (land H g w).seg ((land H g w).pos + slot sh i j) (agree_kid sh dat kid g w e i j hi hj) (s.2 i j hi hj)),
          s.3,
        )
