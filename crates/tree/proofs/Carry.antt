-- A child moves to another slot: its object stays where it is, and only the way there changes.
use Rattle.std.proofs.Common.{◌≡◌, ℕ, ◌+◌, ◌^◌, ◌<◌, ◌≤◌, sym, refl, ap, ◌∙◌, ⊎_elim, arith}
use Rattle.std.proofs.lemmas.Bool.{cases_lt}
use Rattle.wire.specs.Pointers.{aimed_at, high_half, pointer_kind, offset_field, pointer_target, offset_between, re_aimed, unaimed}
use Rattle.tree.specs.Value.{Shape, structure, plain, composite, Value, object, rows, pointers, size, slot}
use Rattle.tree.specs.Shows.{spare, Memory, land, Paved, Describes, Shows, reach}
use Rattle.tree.specs.Edits.{pads, words}
use Rattle.tree.proofs.Count.{within_none, totals_ext}
use Rattle.tree.proofs.Shapes.{slot_in, number_local}
use Rattle.tree.proofs.Frame.{Agree, frame, frame_reach, describes_same, spare_empty}
use Rattle.tree.proofs.PointerParts.{aim_offset}

-- ## The move, whatever the way

-- The slot (G, W) leads in H' to where (g, w) led in H (which does not matter for an object without words), and the object and
-- all below it are the same.
pub record Moved (H H' : Memory) (a a' : ℕ → ℕ) (g w G W : ℕ) (sh : Shape) (kid : ℕ → ℕ → Value) : Type 0 where
  pub grown : (x : ℕ) → a x ≤ a' x
  pub paved : Paved H' G W
  pub described : (t : ℕ) → Describes (land H g w).said t sh → Describes (land H' G W).said t sh
  pub spare_same : spare (land H' G W).said sh ≡ spare (land H g w).said sh
  pub to_seg : 1 ≤ size sh → (land H' G W).seg ≡ (land H g w).seg
  pub to_pos : 1 ≤ size sh → (land H' G W).pos ≡ (land H g w).pos
  pub inside : size sh ≡ 0 → (land H' G W).pos ≤ a' (land H' G W).seg
  pub pads_inside : (land H' G W).pad_pos + (land H' G W).pad_len ≤ a' (land H' G W).pad_seg
  pub object_same : (n : ℕ) → n < size sh → H' (land H g w).seg ((land H g w).pos + n) ≡ H (land H g w).seg ((land H g w).pos + n)
  pub kid_same : (i j : ℕ) → i < rows sh → j < pointers sh → Agree H H' (land H g w).seg ((land H g w).pos + slot sh i j) (kid i j)

module _ (H H' : Memory) (a a' : ℕ → ℕ) (g w G W : ℕ) (sh : Shape) (dat : ℕ → ℕ → ℕ) (kid : ℕ → ℕ → Value) (c : Moved H H' a a' g w G W sh kid) where
  tag_moved : (sz : ℕ) → sz ≡ size sh → Describes (land H g w).said (H (land H g w).seg (land H g w).pos) sh →
      Describes (land H' G W).said (H' (land H' G W).seg (land H' G W).pos) sh
  tag_moved sz e d =
      c.described (H' (land H' G W).seg (land H' G W).pos)
      (describes_same (land H g w).said (H (land H g w).seg (land H g w).pos) (H' (land H' G W).seg (land H' G W).pos) sh
      (λ h. rw (c.to_seg h, c.to_pos h)
      (let z : (land H g w).pos + 0 ≡ (land H g w).pos = omega arith in
      rw z at (c.object_same 0 (omega arith))))
      d)

  pub moved_shows : Shows H a g w (object sh dat kid) → Shows H' a' G W (object sh dat kid)
  moved_shows s = (
    c.paved,
    record {
      described = tag_moved (size sh) refl s.1.described;
      inside = ⊎_elim
          (λ (h : 0 < size sh). rw (c.to_seg h, c.to_pos h) (omega (arith, s.1.inside, c.spare_same, c.grown (land H g w).seg)))
          (λ (h : size sh ≤ 0). omega (arith, c.inside (omega arith), spare_empty (land H' G W).said sh (omega arith)))
          (cases_lt 0 (size sh));
      pads_inside = c.pads_inside;
      numbers = λ i k hi hk.
          s.1.numbers i k hi hk ∙
          sym
          (number_local sh (λ n. H (land H g w).seg ((land H g w).pos + n)) (λ n. H' (land H' G W).seg ((land H' G W).pos + n)) i k hi hk
          (λ n _ h _. rw (c.to_seg (omega arith), c.to_pos (omega arith)) (c.object_same n h)));
      no_more = s.1.no_more;
    },
    λ i j hi hj.
        let h : 1 ≤ size sh = omega (arith, slot_in sh i j hi hj) in
        rw (c.to_seg h, c.to_pos h)
        (frame H H' a a' c.grown (kid i j) (land H g w).seg ((land H g w).pos + slot sh i j) (c.kid_same i j hi hj) (s.2 i j hi hj)),
    s.3,
  )

  words_moved : (x y : ℕ) → words H' G W sh x y ≡ words H g w sh x y
  words_moved x y =
      ⊎_elim
      (λ (h : 0 < size sh). rw (c.to_seg h, c.to_pos h, c.spare_same))
      (λ (h : size sh ≤ 0).
      let e : size sh ≡ 0 = omega arith in
      rw (e, spare_empty (land H' G W).said sh e, spare_empty (land H g w).said sh e) (within_none (land H' G W).seg (land H' G W).pos x y ∙ sym (within_none (land H g w).seg (land H g w).pos x y)))
      (cases_lt 0 (size sh))

  pub moved_reach : (x y : ℕ) →
      reach H' G W (object sh dat kid) x y + pads H g w x y ≡ reach H g w (object sh dat kid) x y + pads H' G W x y
  moved_reach x y =
      omega (
        arith,
        words_moved x y,
        totals_ext (rows sh) (pointers sh)
            (λ i j. reach H' (land H' G W).seg ((land H' G W).pos + slot sh i j) (kid i j) x y)
            (λ i j. reach H (land H g w).seg ((land H g w).pos + slot sh i j) (kid i j) x y)
            (λ i j hi hj.
            let h : 1 ≤ size sh = omega (arith, slot_in sh i j hi hj) in
            rw (c.to_seg h, c.to_pos h)
            (frame_reach H H' (kid i j) (land H g w).seg ((land H g w).pos + slot sh i j) (c.kid_same i j hi hj) x y)),
      )

-- ## The ways

-- what says the same of an object
pub describes_alike : (x y t : ℕ) (sh : Shape) → pointer_kind y ≡ pointer_kind x → high_half y ≡ high_half x → Describes x t sh → Describes y t sh
unfolding Describes
describes_alike x y t (structure dw pw) k h d = (k ∙ d.0, rw h d.1, rw h d.2)
describes_alike x y t (plain c n) k h d = (k ∙ d.0, rw h d.1, rw h d.2)
describes_alike x y t (composite n dw pw) k h d = (k ∙ d.0, rw h d.1, rw h d.2, d.3, d.4, d.5, d.6)

pub repoint_parts : (x p t : ℕ) → (pointer_kind (re_aimed x p t) ≡ pointer_kind x) × (high_half (re_aimed x p t) ≡ high_half x)
repoint_parts x p t = (omega arith, omega arith)

pub repoint_target : (x p t : ℕ) → p < 2 ^ 29 → t < 2 ^ 29 → pointer_target p (re_aimed x p t) ≡ t
repoint_target x p t hp ht =
    let e : offset_field (re_aimed x p t) ≡ offset_between p t = omega arith in
    ap (aimed_at p) e ∙ aim_offset p t hp ht

pub flat_parts : (x : ℕ) → (pointer_kind (unaimed x) ≡ pointer_kind x) × (high_half (unaimed x) ≡ high_half x) × (offset_field (unaimed x) ≡ 0)
flat_parts x = (omega arith, omega arith, omega arith)

-- what describes an object is a struct or list pointer
pub described_kind : (x t : ℕ) (sh : Shape) → Describes x t sh → pointer_kind x ≤ 1
unfolding Describes
described_kind x t (structure dw pw) d = omega (arith, d.0)
described_kind x t (plain c n) d = omega (arith, d.0)
described_kind x t (composite n dw pw) d = omega (arith, d.0)
