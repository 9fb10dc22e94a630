-- New objects: the words of the definition show them.
use Rattle.std.proofs.Common.{◌≡◌, ℕ, ◌+◌, ◌^◌, ◌<◌, ◌≤◌, Bool, true, false, cond, eqb, sym, refl, ◌∙◌, subst, ⊎_elim, arith}
use Rattle.std.proofs.lemmas.Bool.{lt-ltb, le-ltb, cases_lt}
use Rattle.tree.specs.Value.{Shape, structure, plain, composite, Value, size, head, change}
use Rattle.tree.specs.Shows.{Memory, Landing, span, within, reach}
use Rattle.tree.specs.Edits.{Cleared, New, taken}
use Rattle.tree.proofs.Count.{within_in, within_from}
use Rattle.tree.proofs.Context.{change_here, change_else}
use Rattle.table.specs.Segments.{allocated_in}
use Rattle.table.specs.Placing.{Room, Outcome, got, no_space, place}
use Rattle.table.specs.Laws.{Got, Fresh, Placed}
use Rattle.table.proofs.Allocations.{fresh_place}
use Rattle.law.specs.Exact.{zeroed, wiped, no_words, place_shape, opened, slot_word}
use Rattle.law.proofs.Spots.{Describable, tag_of, Spot, spot_empty, spot_near, spot_behind}

-- ## Where an object is placed

abbrev pub counts : Room → ℕ → ℕ
counts r = allocated_in r.table

abbrev pub Small : Room → Type 0
Small r = (x : ℕ) → counts r x < 2 ^ 29

-- what is got, looked at once more
pub got_look : {A : Type 0} (P Q : Room → A → Type 0) (o : Outcome A) → ((r : Room) (a : A) → P r a → Q r a) → Got P o → Got Q o
unfolding Got
got_look P Q (got r a) k h = k r a h
got_look P Q (no_space r m) k h = tt

pub got_here : {A : Type 0} (P : Room → A → Type 0) (r : Room) (a : A) → P r a → Got P (got r a)
unfolding Got
got_here P r a h = h

abbrev pub AtSpot : (r : Room) (g w : ℕ) (sh : Shape) → Room → ℕ × ℕ → Type 0
AtSpot r g w sh r' p = Small r' → Spot g w p.0 p.1 sh (counts r) (counts r')

by_place : (r : Room) (g w : ℕ) (sh : Shape) → no_words sh ≡ false → Describable sh → w < counts r g → Got (AtSpot r g w sh) (place r g (size sh))
by_place r g w sh some d hw =
    got_look (Placed r g (size sh)) (AtSpot r g w sh) (place r g (size sh))
    (λ r' p h small.
    ⊎_elim
    (λ (n : (p.0 ≡ g) × Fresh r r' g p.1 (size sh)).
    subst (λ s. Spot g w s p.1 sh (counts r) (counts r')) (sym n.0)
    (spot_near g w p.1 sh (counts r) (counts r') some d hw small n.1.later.grown n.1.unused n.1.inside))
    (λ (b : (p.0 ≡ g → ⊥) × ((q : ℕ) × (p.1 ≡ q + 1) × Fresh r r' p.0 q (1 + size sh))).
    subst (λ t. Spot g w p.0 t sh (counts r) (counts r')) (sym b.1.1)
    (spot_behind g w p.0 b.1.0 sh (counts r) (counts r') some d b.0 small b.1.2.later.grown b.1.2.unused b.1.2.inside))
    h)
    (fresh_place r g (size sh) (omega arith))

pub spots : (r : Room) (g w : ℕ) (sh : Shape) → Describable sh → w < counts r g → Got (AtSpot r g w sh) (place_shape r g w sh)
spots r g w (structure dw pw) d hw = go (eqb (dw + pw) 0) refl
  where
    go : (b : Bool) → eqb (dw + pw) 0 ≡ b → Got (AtSpot r g w (structure dw pw)) (cond b (got r (g, w)) (place r g (dw + pw)))
    go true e = got_here (AtSpot r g w (structure dw pw)) r (g, w) (λ small. spot_empty g w dw pw (counts r) e hw small)
    go false e = by_place r g w (structure dw pw) e d hw
spots r g w (plain c n) d hw = by_place r g w (plain c n) refl d hw
spots r g w (composite n dw pw) d hw = by_place r g w (composite n dw pw) refl d hw

-- ## Zeroed words

pub zero_there : (H : Memory) (n : ℕ → ℕ → ℕ) (x y : ℕ) → 0 < n x y → zeroed H n x y ≡ 0
zero_there H n x y h = rw (lt-ltb 0 (n x y) h)

pub same_there : (H : Memory) (n : ℕ → ℕ → ℕ) (x y : ℕ) → n x y ≡ 0 → zeroed H n x y ≡ H x y
same_there H n x y h = rw (le-ltb 0 (n x y) (omega arith))

pub wiped_cleared : (H : Memory) (g w : ℕ) (u : Value) → Cleared H (wiped H g w u) g w u
wiped_cleared H g w u =
    let n : ℕ → ℕ → ℕ = λ x y. within g w 1 x y + reach H g w u x y in
    record {
      slot_zero = zero_there H n g w (omega (arith, within_in g w 1 g w refl (omega arith) (omega arith)));
      zeroed = λ x y h. zero_there H n x y (omega arith);
      kept = λ x y h m.
          same_there H n x y
          (⊎_elim
          (λ (c : 0 < within g w 1 x y). let f = within_from g w 1 x y c in absurd (m f.0 (omega (arith, f.1, f.2))))
          (λ (c : within g w 1 x y ≤ 0). omega arith)
          (cases_lt 0 (within g w 1 x y)));
    }

-- ## A new object on fresh words

pub taken_in : (l : Landing) (sh : Shape) (x y : ℕ) → x ≡ l.seg → l.pos ≤ y → y < l.pos + span l.said sh → 1 ≤ taken l sh x y
taken_in l sh x y e h k = omega (arith, within_in l.seg l.pos (span l.said sh) x y e h k)

pub head_size : (sh : Shape) → head sh ≡ 1 → 1 ≤ size sh
head_size (structure dw pw) h = absurd (omega arith)
head_size (plain c n) h = absurd (omega arith)
head_size (composite n dw pw) h = omega arith

module _ (N : Memory) (g w s t : ℕ) (sh : Shape) (a a' : ℕ → ℕ) (o : Spot g w s t sh a a') (hw : w < a g) where
  -- the slot is none of the new words
  pub slot_apart_new : (x y : ℕ) → 1 ≤ taken o.l sh x y → x ≡ g → y ≡ w → ⊥
  slot_apart_new x y h e f = omega (arith, o.new x y h, subst (λ z. w < a z) (sym e) hw)

  -- the tag
  pub tag_there : head sh ≡ 1 → opened N g s t sh o.l.seg o.l.pos ≡ tag_of sh
  tag_there h = rw (o.seg_is, o.pos_is) (o.opened_tag N h)

  -- all else stays
  pub opened_same : (x y : ℕ) → taken o.l sh x y ≡ 0 → opened N g s t sh x y ≡ N x y
  opened_same x y h =
      o.opened_else N x y (omega arith)
      (λ one e f.
      omega (arith, h, o.span_is, head_size sh one, taken_in o.l sh x y (e ∙ sym o.seg_is) (omega (arith, o.pos_is)) (omega (arith, o.pos_is, o.span_is, head_size sh one))))

  -- the words after the tag
  pub opened_body : (n : ℕ) → head sh ≤ n → n < size sh → opened N g s t sh o.l.seg (o.l.pos + n) ≡ N o.l.seg (o.l.pos + n)
  opened_body n h k =
      o.opened_else N o.l.seg (o.l.pos + n)
      (omega (arith, o.single o.l.seg (o.l.pos + n), within_in o.l.seg o.l.pos (span o.l.said sh) o.l.seg (o.l.pos + n) refl (omega arith) (omega (arith, o.span_is))))
      (λ one e f. omega (arith, o.pos_is))

pub spot_new : (Hm : Memory) (g w s t : ℕ) (sh : Shape) (a a' : ℕ → ℕ) (o : Spot g w s t sh a a') → w < a g → ((x y : ℕ) → a x ≤ y → Hm x y ≡ 0) →
    New Hm (change (opened Hm g s t sh) g w (slot_word g w s t sh)) a a' g w o.l sh
spot_new Hm g w s t sh a a' o hw zero-beyond =
    let x : ℕ = slot_word g w s t sh in
    let O : Memory = opened Hm g s t sh in
    let l : Landing = o.l in
    let keep : (b y : ℕ) → 1 ≤ taken l sh b y → change O g w x b y ≡ O b y =
    λ b y h. change_else O g w x b y (slot_apart_new Hm g w s t sh a a' o hw b y h) in
    let at : (n : ℕ) → n < size sh → 1 ≤ taken l sh l.seg (l.pos + n) =
    λ n h. taken_in l sh l.seg (l.pos + n) refl (omega arith) (omega (arith, o.span_is)) in
    let landed = o.lands (change O g w x) (change_here O g w x)
    (λ h. keep l.pad_seg l.pad_pos (omega (arith, within_in l.pad_seg l.pad_pos l.pad_len l.pad_seg l.pad_pos refl (omega arith) (omega arith))) ∙
    o.opened_pad Hm h) in
    record {
      grown = o.grown;
      placed = record {
        leads = landed.0;
        paved = landed.1;
        described = o.described (change O g w x l.seg l.pos)
            (λ h.
            let here : l.pos + 0 ≡ l.pos = omega arith in
            keep l.seg l.pos (subst (λ z. 1 ≤ taken l sh l.seg z) here (at 0 (omega (arith, head_size sh h)))) ∙
            tag_there Hm g w s t sh a a' o hw h);
        inside = omega (arith, o.inside, o.span_is);
        pads_inside = o.pads_inside;
        zeros = λ n h k.
            let m : n < size sh = omega (arith, o.span_is) in
            keep l.seg (l.pos + n) (at n m) ∙ opened_body Hm g w s t sh a a' o hw n h m ∙
            zero-beyond l.seg (l.pos + n) (o.new l.seg (l.pos + n) (at n m));
      };
      new_pads = λ h.
          o.new l.pad_seg l.pad_pos (omega (arith, within_in l.pad_seg l.pad_pos l.pad_len l.pad_seg l.pad_pos refl (omega arith) (omega arith)));
      new_words = λ h. o.new l.seg l.pos (taken_in l sh l.seg l.pos refl (omega arith) (omega arith));
      apart = o.single;
      kept = λ b y h m. change_else O g w x b y m ∙ opened_same Hm g w s t sh a a' o hw b y h;
    }
