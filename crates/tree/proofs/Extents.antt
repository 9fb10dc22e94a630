-- Extents that do not overlap, and words that are counted at most once.
use Rattle.std.proofs.Common.{◌≡◌, ℕ, zero, suc, ◌+◌, ◌<◌, ◌≤◌, List, [], ◌∷◌, ◌++◌, refl, ◌∙◌, ⊎_elim, arith}
use Rattle.tree.specs.Value.{Value, null, object, rows, pointers, slot}
use Rattle.tree.specs.Shows.{Memory, land, Shows, within, total, reach, Sound}
use Rattle.tree.specs.Extents.{Extent, Has, Every, Disjoint, gather, extents, parts, WellLaid}
use Rattle.tree.proofs.Count.{within_in, within_cases, total_ext}

-- how many extents have the word
unfoldable pub cover : List Extent → ℕ → ℕ → ℕ
cover [] x y = 0
cover (e ∷ es) x y = within e.seg e.start e.len x y + cover es x y

pub cover_append : (es fs : List Extent) (x y : ℕ) → cover (es ++ fs) x y ≡ cover es x y + cover fs x y
unfolding cover
cover_append [] fs x y = omega arith
cover_append (e ∷ es) fs x y = omega (arith, cover_append es fs x y)

pub cover_gather : (n : ℕ) (f : ℕ → List Extent) (x y : ℕ) → cover (gather n f) x y ≡ total n (λ i. cover (f i) x y)
unfolding cover gather total
cover_gather zero f x y = refl
cover_gather (suc n) f x y = omega (arith, cover_append (gather n f) (f n) x y, cover_gather n f x y)

pub cover_extents : (H : Memory) (v : Value) (g w x y : ℕ) → cover (extents H g w v) x y ≡ reach H g w v x y
unfolding cover extents
cover_extents H null g w x y = refl
cover_extents H (object sh dat kid) g w x y =
    let l = land H g w in
    omega (
      arith,
      cover_gather (rows sh) (λ i. gather (pointers sh) (λ j. extents H l.seg (l.pos + slot sh i j) (kid i j))) x y,
      total_ext (rows sh)
          (λ i. cover (gather (pointers sh) (λ j. extents H l.seg (l.pos + slot sh i j) (kid i j))) x y)
          (λ i. total (pointers sh) (λ j. reach H l.seg (l.pos + slot sh i j) (kid i j) x y))
          (λ i _.
          cover_gather (pointers sh) (λ j. extents H l.seg (l.pos + slot sh i j) (kid i j)) x y ∙
          total_ext (pointers sh)
          (λ j. cover (extents H l.seg (l.pos + slot sh i j) (kid i j)) x y)
          (λ j. reach H l.seg (l.pos + slot sh i j) (kid i j) x y)
          (λ j _. cover_extents H (kid i j) l.seg (l.pos + slot sh i j) x y)),
    )

-- ## Every

pub every_append : (P : Extent → Type 0) (es fs : List Extent) → Every P es → Every P fs → Every P (es ++ fs)
every_append P [] fs h k = k
every_append P (e ∷ es) fs h k = (h.0, every_append P es fs h.1 k)

pub every_gather : (P : Extent → Type 0) (n : ℕ) (f : ℕ → List Extent) → ((i : ℕ) → i < n → Every P (f i)) → Every P (gather n f)
unfolding gather
every_gather P zero f h = tt
every_gather P (suc n) f h = every_append P (gather n f) (f n) (every_gather P n f (λ i k. h i (omega arith))) (h n (omega arith))

-- a word that no extent has is counted 0 times
pub cover_none : (es : List Extent) (x y : ℕ) → Every (λ e. Has e x y → ⊥) es → cover es x y ≡ 0
unfolding cover
cover_none [] x y h = refl
cover_none (e ∷ es) x y h =
    ⊎_elim
    (λ (d : (within e.seg e.start e.len x y ≡ 1) × (x ≡ e.seg) × (e.start ≤ y) × (y < e.start + e.len)). absurd (h.0 (d.1, d.2, d.3)))
    (λ (d : within e.seg e.start e.len x y ≡ 0). omega (arith, cover_none es x y h.1))
    (within_cases e.seg e.start e.len x y)

pub none_cover : (es : List Extent) (x y : ℕ) → cover es x y ≡ 0 → Every (λ e. Has e x y → ⊥) es
unfolding cover
none_cover [] x y h = tt
none_cover (e ∷ es) x y h =
    (λ k. omega (arith, h, within_in e.seg e.start e.len x y k.0 k.1 k.2), none_cover es x y (omega arith))

-- ## At most once is the same as no overlap

once_every : (e : Extent) (es : List Extent) → ((x y : ℕ) → within e.seg e.start e.len x y + cover es x y ≤ 1) →
    Every (λ f. (x y : ℕ) → Has e x y → Has f x y → ⊥) es
unfolding cover
once_every e [] h = tt
once_every e (f ∷ es) h = (
  λ x y p q. omega (arith, h x y, within_in e.seg e.start e.len x y p.0 p.1 p.2, within_in f.seg f.start f.len x y q.0 q.1 q.2),
  once_every e es (λ x y. omega (arith, h x y)),
)

every_at : (e : Extent) (es : List Extent) (x y : ℕ) → Has e x y → Every (λ f. (x y : ℕ) → Has e x y → Has f x y → ⊥) es → Every (λ f. Has f x y → ⊥) es
every_at e [] x y h k = tt
every_at e (f ∷ es) x y h k = (k.0 x y h, every_at e es x y h k.1)

pub once_disjoint : (es : List Extent) → ((x y : ℕ) → cover es x y ≤ 1) → Disjoint es
unfolding cover
once_disjoint [] h = tt
once_disjoint (e ∷ es) h = (once_every e es h, once_disjoint es (λ x y. omega (arith, h x y)))

pub disjoint_once : (es : List Extent) → Disjoint es → (x y : ℕ) → cover es x y ≤ 1
unfolding cover
disjoint_once [] h x y = omega arith
disjoint_once (e ∷ es) h x y =
    ⊎_elim
    (λ (d : (within e.seg e.start e.len x y ≡ 1) × (x ≡ e.seg) × (e.start ≤ y) × (y < e.start + e.len)).
    omega (arith, d.0, cover_none es x y (every_at e es x y (d.1, d.2, d.3) h.0)))
    (λ (d : within e.seg e.start e.len x y ≡ 0). omega (arith, disjoint_once es h.1 x y))
    (within_cases e.seg e.start e.len x y)

pub foot_inside : (H : Memory) (a : ℕ → ℕ) (v : Value) (g w : ℕ) → Shows H a g w v → Every (λ e. e.start + e.len ≤ a e.seg) (extents H g w v)
unfolding extents
foot_inside H a null g w s = tt
foot_inside H a (object sh dat kid) g w s = (
  s.1.pads_inside,
  (
    s.1.inside,
    every_gather (λ e. e.start + e.len ≤ a e.seg) (rows sh)
        (λ i. gather (pointers sh) (λ j. extents H (land H g w).seg ((land H g w).pos + slot sh i j) (kid i j)))
        (λ i hi.
        every_gather (λ e. e.start + e.len ≤ a e.seg) (pointers sh)
        (λ j. extents H (land H g w).seg ((land H g w).pos + slot sh i j) (kid i j))
        (λ j hj. foot_inside H a (kid i j) (land H g w).seg ((land H g w).pos + slot sh i j) (s.2 i j hi hj))),
  ),
)

cover_parts : (H : Memory) (v : Value) (x y : ℕ) → cover (parts H v) x y ≡ within 0 0 1 x y + reach H 0 0 v x y
unfolding cover
cover_parts H v x y = omega (arith, cover_extents H v 0 0 x y)

pub well_laid : (H : Memory) (a : ℕ → ℕ) (v : Value) → Sound H a v → WellLaid H a v
well_laid H a v ok = record {
  shown = ok.shown;
  inside = (ok.rooted, foot_inside H a v 0 0 ok.shown);
  apart = once_disjoint (parts H v) (λ x y. omega (arith, cover_parts H v x y, ok.once x y));
  clean = λ x y h. ok.clean x y (omega (arith, cover_parts H v x y, cover_none (parts H v) x y h));
}

pub sound : (H : Memory) (a : ℕ → ℕ) (v : Value) → WellLaid H a v → Sound H a v
sound H a v ok = record {
  rooted = ok.inside.0;
  shown = ok.shown;
  once = λ x y. omega (arith, cover_parts H v x y, disjoint_once (parts H v) ok.apart x y);
  clean = λ x y h. ok.clean x y (none_cover (parts H v) x y (omega (arith, cover_parts H v x y, h)));
}
