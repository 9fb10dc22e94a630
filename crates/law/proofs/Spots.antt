-- A new object for a slot, wherever it is placed: in the slot itself (an empty struct), in the slot's segment, or behind a landing pad.
use Rattle.std.proofs.Common.{◌≡◌, ℕ, ◌+◌, ◌-◌, ◌*◌, ◌^◌, ◌<◌, ◌≤◌, true, false, cond, ◌||◌, eqb, ◌≢◌, sym, refl, ap, ◌∙◌, subst, ⊎_elim, arith}
use Rattle.std.proofs.lemmas.Bool.{eq-eqb, ne_eqb, eqb-true, cases_eq}
use Rattle.wire.specs.Pointers.{pointer_kind, pointer_target, struct_pointer, list_pointer, struct_list_tag, single_far, empty_struct}
use Rattle.tree.specs.Value.{Shape, structure, plain, composite, size, head, element_code, change}
use Rattle.tree.specs.Shows.{Memory, Landing, land, Paved, Describes, span, within}
use Rattle.tree.specs.Edits.{taken}
use Rattle.tree.proofs.PointerParts.{struct_kind, struct_target, list_kind, list_target, empty_parts}
use Rattle.tree.proofs.Count.{within_le, within_in, within_from, within_none}
use Rattle.tree.proofs.Blank.{within_cut}
use Rattle.tree.proofs.Context.{change_here, change_else}
use Rattle.tree.proofs.Roads.{land_direct, land_single, paved_direct, paved_single, describes_struct, describes_empty, describes_plain, describes_composite}
use Rattle.law.specs.Exact.{no_words, pointer_word, padded, tagged, opened, slot_word}

-- ## Shapes that a pointer can describe

abbrev pub Describable : Shape → Type 0
Describable (structure dw pw) = dw < 65536
Describable (plain c n) = Unit {0}
Describable (composite n dw pw) = (n < 2 ^ 30) × (dw < 65536)

abbrev pub tag_of : Shape → ℕ
tag_of (structure dw pw) = 0
tag_of (plain c n) = 0
tag_of (composite n dw pw) = struct_list_tag n dw pw

pointer_near : (sh : Shape) (p t : ℕ) → pointer_kind (pointer_word sh p t) ≢ 2
pointer_near (structure dw pw) p t = omega (arith, struct_kind p t dw pw)
pointer_near (plain c n) p t = omega (arith, list_kind p t (element_code c) n)
pointer_near (composite n dw pw) p t = omega (arith, list_kind p t 7 (n * (dw + pw)))

not_empty : (dw pw : ℕ) → eqb (dw + pw) 0 ≡ false → 1 ≤ dw + pw
not_empty dw pw e =
    ⊎_elim
    (λ (z : dw + pw ≡ 0). let q : true ≡ false = sym (eq-eqb (dw + pw) 0 z) ∙ e in let k : ◌≡◌ {A = ℕ} 0 1 = cc in omega arith)
    (λ (z : dw + pw ≡ 0 → ⊥). omega arith)
    (cases_eq (dw + pw) 0)

pub pointer_live : (sh : Shape) (p t : ℕ) → no_words sh ≡ false → pointer_word sh p t ≢ 0
pointer_live (structure dw pw) p t e = let h = not_empty dw pw e in omega arith
pointer_live (plain c n) p t e = omega arith
pointer_live (composite n dw pw) p t e = omega arith

pointer_aims : (sh : Shape) (p t : ℕ) → p < 2 ^ 29 → t < 2 ^ 29 → pointer_target p (pointer_word sh p t) ≡ t
pointer_aims (structure dw pw) p t hp ht = struct_target p t dw pw hp ht
pointer_aims (plain c n) p t hp ht = list_target p t (element_code c) n hp ht
pointer_aims (composite n dw pw) p t hp ht = list_target p t 7 (n * (dw + pw)) hp ht

pointer_describes : (sh : Shape) (p t z : ℕ) → Describable sh → (head sh ≡ 1 → z ≡ tag_of sh) → Describes (pointer_word sh p t) z sh
pointer_describes (structure dw pw) p t z d h = describes_struct p t dw pw z d
pointer_describes (plain c n) p t z d h = describes_plain p t c n z
pointer_describes (composite n dw pw) p t z d h =
    subst (λ y. Describes (list_pointer p t 7 (n * (dw + pw))) y (composite n dw pw)) (sym (h refl)) (describes_composite p t n dw pw d.0 d.1)

pointer_span : (sh : Shape) (p t : ℕ) → span (pointer_word sh p t) sh ≡ size sh
pointer_span (structure dw pw) p t = omega arith
pointer_span (plain c n) p t = omega arith
pointer_span (composite n dw pw) p t = omega arith

-- ## The spot

-- The slot (g, w) is to lead to an object of the shape in word t of segment s; `a` and `a'` count the words allocated before and after.
pub record Spot (g w s t : ℕ) (sh : Shape) (a a' : ℕ → ℕ) : Type 0 where
  pub l : Landing
  pub seg_is : l.seg ≡ s
  pub pos_is : l.pos ≡ t
  pub grown : (x : ℕ) → a x ≤ a' x
  pub span_is : span l.said sh ≡ size sh
  pub single : (x y : ℕ) → taken l sh x y ≤ 1
  pub new : (x y : ℕ) → 1 ≤ taken l sh x y → a x ≤ y
  pub inside : l.pos + size sh ≤ a' l.seg
  pub pads_inside : l.pad_pos + l.pad_len ≤ a' l.pad_seg
  pub described : (z : ℕ) → (head sh ≡ 1 → z ≡ tag_of sh) → Describes l.said z sh
  pub lands : (N : Memory) → N g w ≡ slot_word g w s t sh → (1 ≤ l.pad_len → N l.pad_seg l.pad_pos ≡ l.said) →
      (land N g w ≡ l) × Paved N g w
  pub opened_pad : (N : Memory) → 1 ≤ l.pad_len → opened N g s t sh l.pad_seg l.pad_pos ≡ l.said
  pub opened_tag : (N : Memory) → head sh ≡ 1 → opened N g s t sh s t ≡ tag_of sh
  pub opened_else : (N : Memory) (x y : ℕ) → within l.pad_seg l.pad_pos l.pad_len x y ≡ 0 →
      (head sh ≡ 1 → x ≡ s → y ≡ t → ⊥) → opened N g s t sh x y ≡ N x y

-- the tag's part
tagged_here : (N : Memory) (s t : ℕ) (sh : Shape) → head sh ≡ 1 → tagged N s t sh s t ≡ tag_of sh
tagged_here N s t (structure dw pw) h = absurd (omega arith)
tagged_here N s t (plain c n) h = absurd (omega arith)
tagged_here N s t (composite n dw pw) h = change_here N s t (struct_list_tag n dw pw)

tagged_else : (N : Memory) (s t : ℕ) (sh : Shape) (x y : ℕ) → (head sh ≡ 1 → x ≡ s → y ≡ t → ⊥) → tagged N s t sh x y ≡ N x y
tagged_else N s t (structure dw pw) x y h = refl
tagged_else N s t (plain c n) x y h = refl
tagged_else N s t (composite n dw pw) x y h = change_else N s t (struct_list_tag n dw pw) x y (h refl)

-- an extent of fresh words
fresh_from : (a : ℕ → ℕ) (s t n x y : ℕ) → a s ≤ t → 1 ≤ within s t n x y → a x ≤ y
fresh_from a s t n x y h k = let f = within_from s t n x y k in rw f.0 (omega (arith, f.1))

-- ## The three ways

-- an empty struct in its slot
pub spot_empty : (g w dw pw : ℕ) (a : ℕ → ℕ) → eqb (dw + pw) 0 ≡ true → w < a g → ((x : ℕ) → a x < 2 ^ 29) → Spot g w g w (structure dw pw) a a
spot_empty g w dw pw a e hw small =
    let z : dw + pw ≡ 0 = eqb-true (dw + pw) 0 e in
    let d0 : dw ≡ 0 = omega arith in
    let p0 : pw ≡ 0 = omega arith in
    let parts = empty_parts w (omega (arith, small g)) in
    record {
      l = record { said = empty_struct; seg = g; pos = w; pad_seg = g; pad_pos = w; pad_len = 0 };
      seg_is = refl;
      pos_is = refl;
      grown = λ x. omega arith;
      span_is = omega arith;
      single = λ x y. rw (d0, p0) (omega (arith, within_none g w x y));
      new = λ x y h. absurd (omega (arith, subst (λ k. 1 ≤ within g w 0 x y + within g w (k + 0) x y) z h, within_none g w x y));
      inside = omega arith;
      pads_inside = omega arith;
      described = λ y _. rw (d0, p0) (describes_empty y);
      lands = λ N h _.
          let k : N g w ≡ empty_struct = h ∙ ap (λ b. cond b empty_struct (cond (eqb g g) (struct_pointer w w dw pw) (single_far g (w - 1)))) e in
          (land_direct N g w empty_struct w k (omega arith) parts.1, paved_direct N g w empty_struct k (omega arith) (omega arith));
      opened_pad = λ N h. absurd (omega arith);
      opened_tag = λ N h. absurd (omega arith);
      opened_else = λ N x y _ _. ap (λ b. cond (b || eqb g g) N (change N g (w - 1) (struct_pointer (w - 1) w dw pw)) x y) e;
    }

-- in the slot's segment
pub spot_near : (g w t : ℕ) (sh : Shape) (a a' : ℕ → ℕ) → no_words sh ≡ false → Describable sh → w < a g → ((x : ℕ) → a' x < 2 ^ 29) →
    ((x : ℕ) → a x ≤ a' x) → a g ≤ t → t + size sh ≤ a' g → Spot g w g t sh a a'
spot_near g w t sh a a' some d hw small more unused fits =
    let x : ℕ = pointer_word sh w t in
    let span_of : span x sh ≡ size sh = pointer_span sh w t in
    let same : (N : Memory) → padded N g g t sh ≡ N = λ N. rw (some, eq-eqb g g refl) in
    record {
      l = record { said = x; seg = g; pos = t; pad_seg = g; pad_pos = w; pad_len = 0 };
      seg_is = refl;
      pos_is = refl;
      grown = more;
      span_is = span_of;
      single = λ b y. omega (arith, within_none g w b y, within_le g t (span x sh) b y);
      new = λ b y h. fresh_from a g t (span x sh) b y unused (omega (arith, h, within_none g w b y));
      inside = fits;
      pads_inside = omega (arith, more g);
      described = λ z h. pointer_describes sh w t z d h;
      lands = λ N h _.
          let k : N g w ≡ x = h ∙ rw (some, eq-eqb g g refl) in
          let aims : pointer_target w x ≡ t = pointer_aims sh w t (omega (arith, more g, small g)) (omega (arith, small g)) in
          (land_direct N g w x t k (pointer_near sh w t) aims, paved_direct N g w x k (pointer_near sh w t) (pointer_live sh w t some));
      opened_pad = λ N h. absurd (omega arith);
      opened_tag = λ N h. tagged_here (padded N g g t sh) g t sh h;
      opened_else = λ N b y _ h. tagged_else (padded N g g t sh) g t sh b y h ∙ ap (λ M. M b y) (same N);
    }

-- in segment s, behind a pad in word q
pub spot_behind : (g w s q : ℕ) (sh : Shape) (a a' : ℕ → ℕ) → no_words sh ≡ false → Describable sh → (s ≡ g → ⊥) → ((x : ℕ) → a' x < 2 ^ 29) →
    ((x : ℕ) → a x ≤ a' x) → a s ≤ q → q + (1 + size sh) ≤ a' s → Spot g w s (q + 1) sh a a'
spot_behind g w s q sh a a' some d other small more unused fits =
    let x : ℕ = pointer_word sh q (q + 1) in
    let back : q + 1 - 1 ≡ q = omega arith in
    let span_of : span x sh ≡ size sh = pointer_span sh q (q + 1) in
    let is : (N : Memory) → padded N g s (q + 1) sh ≡ change N s q x = λ N. rw (some, ne_eqb s g other, back) in
    record {
      l = record { said = x; seg = s; pos = q + 1; pad_seg = s; pad_pos = q; pad_len = 1 };
      seg_is = refl;
      pos_is = refl;
      grown = more;
      span_is = span_of;
      single = λ b y. omega (arith, within_cut s q 1 (span x sh) b y, within_le s q (1 + span x sh) b y);
      new = λ b y h. fresh_from a s q (1 + span x sh) b y unused (omega (arith, h, within_cut s q 1 (span x sh) b y));
      inside = omega arith;
      pads_inside = omega arith;
      described = λ z h. pointer_describes sh q (q + 1) z d h;
      lands = λ N h k.
          let slot : N g w ≡ single_far s q = h ∙ rw (some, ne_eqb s g other, back) in
          let low : q < 2 ^ 29 = omega (arith, small s) in
          let aims : pointer_target q x ≡ q + 1 = pointer_aims sh q (q + 1) low (omega (arith, small s)) in
          let pad : N s q ≡ x = k (omega arith) in
          (land_single N g w s q x (q + 1) low slot pad aims, paved_single N g w s q low slot (λ e. pointer_live sh q (q + 1) some (sym pad ∙ e)));
      opened_pad = λ N _.
          tagged_else (padded N g s (q + 1) sh) s (q + 1) sh s q (λ _ _ e. omega arith) ∙ ap (λ M. M s q) (is N) ∙ change_here N s q x;
      opened_tag = λ N h. tagged_here (padded N g s (q + 1) sh) s (q + 1) sh h;
      opened_else = λ N b y h k.
          tagged_else (padded N g s (q + 1) sh) s (q + 1) sh b y k ∙ ap (λ M. M b y) (is N) ∙
          change_else N s q x b y (λ e f. omega (arith, h, within_in s q 1 b y e (omega arith) (omega arith)));
    }
