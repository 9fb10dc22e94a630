-- A new object of zeros and nulls.
use Rattle.std.proofs.Common.{◌≡◌, ℕ, ◌+◌, ◌<◌, ◌≤◌, List, sym, refl, ◌∙◌, ⊎_elim, arith}
use Rattle.std.proofs.lemmas.Bool.{cases_lt}
use Rattle.tree.specs.Value.{Shape, Value, null, rows, pointers, slot, Step, Goes, value_at, put, blank}
use Rattle.tree.specs.Shows.{span, Memory, Landing, Shows, within, reach, walk, Sound}
use Rattle.tree.specs.Edits.{pads, words, Filled, Placed, New, Beside, Behind}
use Rattle.tree.proofs.Count.{within_le, within_from, within_view, within_none, totals_zero}
use Rattle.tree.proofs.Shapes.{slot_in, slot_head, number_zero}
use Rattle.tree.proofs.Roads.{land_direct, land_single, paved_direct, paved_single}
use Rattle.tree.proofs.Edits.{fill}

pub blank_reach : (H : Memory) (g w : ℕ) (sh : Shape) (x y : ℕ) → reach H g w (blank sh) x y ≡ pads H g w x y + words H g w sh x y
blank_reach H g w sh x y = omega (arith, totals_zero (rows sh) (pointers sh) (λ i j. 0) (λ i j _ _. refl))

pub blank_shows : (H : Memory) (a : ℕ → ℕ) (g w : ℕ) (l : Landing) (sh : Shape) → Placed H a g w l sh → Shows H a g w (blank sh)
blank_shows H a g w l sh c = (
  c.paved,
  rw c.leads
      (record {
        described = c.described;
        inside = c.inside;
        pads_inside = c.pads_inside;
        numbers = λ i k hi hk. sym (number_zero sh (λ n. H l.seg (l.pos + n)) i k hi hk (λ n h k. c.zeros n h (omega arith)));
        no_more = λ i k _. refl;
      }),
  rw c.leads (λ i j hi hj. c.zeros (slot sh i j) (slot_head sh i j) (omega (arith, slot_in sh i j hi hj))),
  λ i j _. refl,
)

-- words of an extent that begins at or after the allocated ones
pub fresh_within : (a : ℕ → ℕ) (g s n x y : ℕ) → (1 ≤ n → a g ≤ s) → 1 ≤ within g s n x y → a x ≤ y
fresh_within a g s n x y h k =
    let f = within_from g s n x y k in
    rw f.0 (omega (arith, h (omega (arith, f.1, f.2)), f.1))

pub new_filled : (H H' : Memory) (a a' : ℕ → ℕ) (g w : ℕ) (l : Landing) (sh : Shape) → New H H' a a' g w l sh → Filled H H' a a' g w (blank sh)
new_filled H H' a a' g w l sh c =
    let r : (x y : ℕ) → reach H' g w (blank sh) x y ≡ within l.pad_seg l.pad_pos l.pad_len x y + within l.seg l.pos (span l.said sh) x y =
    λ x y. blank_reach H' g w sh x y ∙ rw c.placed.leads in
    record {
      grown = c.grown;
      shown = blank_shows H' a' g w l sh c.placed;
      fresh = λ x y h.
          ⊎_elim
          (λ (d : 0 < within l.pad_seg l.pad_pos l.pad_len x y). fresh_within a l.pad_seg l.pad_pos l.pad_len x y c.new_pads d)
          (λ (d : within l.pad_seg l.pad_pos l.pad_len x y ≤ 0).
          fresh_within a l.seg l.pos (span l.said sh) x y c.new_words (omega (arith, r x y)))
          (cases_lt 0 (within l.pad_seg l.pad_pos l.pad_len x y));
      single = λ x y. omega (arith, r x y, c.apart x y);
      kept = λ x y h n. c.kept x y (omega (arith, r x y)) n;
    }

pub init : (H H' : Memory) (a a' : ℕ → ℕ) (v : Value) (p : List Step) (l : Landing) (sh : Shape) → Goes v p → Sound H a v → value_at v p ≡ null →
    New H H' a a' (walk H 0 0 v p).0 (walk H 0 0 v p).1 l sh → Sound H' a' (put v p (blank sh))
init H H' a a' v p l sh go ok none c =
    fill H H' a a' v p (blank sh) go ok none (new_filled H H' a a' (walk H 0 0 v p).0 (walk H 0 0 v p).1 l sh c)

-- ## In the slot's segment

pub beside_new : (H H' : Memory) (a a' : ℕ → ℕ) (g w t x : ℕ) (sh : Shape) → Beside H H' a a' g w t x sh →
    New H H' a a' g w (record { said = x; seg = g; pos = t; pad_seg = g; pad_pos = w; pad_len = 0 }) sh
beside_new H H' a a' g w t x sh c = record {
  grown = c.grown;
  placed = record {
    leads = land_direct H' g w x t c.pointer_is c.no_far c.aims;
    paved = paved_direct H' g w x c.pointer_is c.no_far c.live;
    described = c.described;
    inside = c.inside;
    pads_inside = omega (arith, c.slot_inside, c.grown g);
    zeros = c.zeros;
  };
  new_pads = λ h. absurd (omega arith);
  new_words = c.new;
  apart = λ b y. omega (arith, within_none g w b y, within_le g t (span x sh) b y);
  kept = λ b y h. c.kept b y (omega arith);
}

-- ## Behind a pad, which stands in word q of segment s, right before the object

-- an extent cut in two
pub within_cut : (g s m n x y : ℕ) → within g s (m + n) x y ≡ within g s m x y + within g (s + m) n x y
within_cut g s m n x y = omega (arith, within_view g s (m + n) x y, within_view g s m x y, within_view g (s + m) n x y)

pub behind_new : (H H' : Memory) (a a' : ℕ → ℕ) (g w s q x : ℕ) (sh : Shape) → Behind H H' a a' g w s q x sh →
    New H H' a a' g w (record { said = x; seg = s; pos = q + 1; pad_seg = s; pad_pos = q; pad_len = 1 }) sh
behind_new H H' a a' g w s q x sh c = record {
  grown = c.grown;
  placed = record {
    leads = land_single H' g w s q x (q + 1) c.low_enough c.far_is c.pad_is c.aims;
    paved = paved_single H' g w s q c.low_enough c.far_is (λ e. c.live (sym c.pad_is ∙ e));
    described = c.described;
    inside = c.inside;
    pads_inside = omega (arith, c.inside);
    zeros = c.zeros;
  };
  new_pads = λ h. c.new;
  new_words = λ h. omega (arith, c.new);
  apart = λ b y. omega (arith, within_cut s q 1 (span x sh) b y, within_le s q (1 + span x sh) b y);
  kept = λ b y h. c.kept b y (omega (arith, within_cut s q 1 (span x sh) b y));
}
