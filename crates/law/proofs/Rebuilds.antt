-- An object is rebuilt in a larger shape: the words of the definition show it with its numbers and children.
use Rattle.std.proofs.Common.{◌≡◌, ℕ, ◌+◌, ◌*◌, ◌<◌, ◌≤◌, min, ◌≢◌, ◌⊎◌, List, sym, refl, ap, ◌∙◌, subst, inl, inr, ⊎_elim, arith}
use Rattle.std.proofs.lemmas.Bool.{cases_lt}
use Rattle.tree.specs.Value.{Shape, structure, plain, composite, Value, object, rows, pointers, places, size, head, slot, place_word, number, Step, value_at}
use Rattle.tree.specs.Shows.{Memory, Landing, land, span, Paved, Body, Shows, within, walk}
use Rattle.tree.specs.Edits.{outer, taken, Opened, Closed}
use Rattle.tree.specs.Numbers.{place_bits}
use Rattle.tree.proofs.Count.{within_in, within_from}
use Rattle.tree.proofs.Shapes.{row_fits, row_apart, slot_in, slot_apart, slot_head}
use Rattle.tree.proofs.Context.{change_here, change_else, reached}
use Rattle.tree.proofs.Relocate.{open_object, close_object}
use Rattle.tree.proofs.Replace.{slot_outer, outer_inside, beyond}
use Rattle.tree.proofs.Loop.{moving_start, moving_end}
use Rattle.table.specs.Placing.{Room}
use Rattle.law.specs.Exact.{zeroed, opened, slot_word, copied, closed}
use Rattle.law.proofs.Spots.{Spot, tag_of}
use Rattle.law.proofs.Inits.{counts, taken_in, slot_apart_new, tag_there, opened_same, opened_body, zero_there, same_there, head_size}
use Rattle.law.proofs.Makings.{Site, Turned, slot_allocated, still_there}
use Rattle.law.proofs.Copies.{all_else, all_here}
use Rattle.law.proofs.Moving.{Inv}

-- ## Shapes that grow

-- rows of data words and pointers
abbrev pub Rowed : Shape → Type 0
Rowed (structure dw pw) = Unit {0}
Rowed (plain c n) = ⊥
Rowed (composite n dw pw) = Unit {0}

-- the rows stay and each has at least as many pointers and places, unless the places had no bits
pub record Grows (sh sh' : Shape) : Type 0 where
  pub rowed : Rowed sh'
  pub rows_same : rows sh ≡ rows sh'
  pub more_pointers : pointers sh ≤ pointers sh'
  pub more_places : (places sh ≤ places sh') ⊎ (place_bits sh ≡ 0)

rowed_number : (sh : Shape) → Rowed sh → (ws : ℕ → ℕ) (i k : ℕ) → number sh ws i k ≡ ws (place_word sh i k)
rowed_number (structure dw pw) r ws i k = refl
rowed_number (plain c n) r ws i k = absurd r
rowed_number (composite n dw pw) r ws i k = refl

rowed_word : (sh : Shape) → Rowed sh → (i k : ℕ) → i < rows sh → k < places sh → (head sh ≤ place_word sh i k) × (place_word sh i k < size sh)
rowed_word (structure dw pw) r i k hi hk = (omega arith, omega arith)
rowed_word (plain c n) r i k hi hk = absurd r
rowed_word (composite n dw pw) r i k hi hk = (omega arith, omega (arith, row_fits i n (dw + pw) hi))

rowed_apart : (sh : Shape) → Rowed sh → (i k a b : ℕ) → i < rows sh → k < places sh → a < rows sh → b < places sh →
    place_word sh i k ≡ place_word sh a b → (i ≡ a) × (k ≡ b)
rowed_apart (structure dw pw) r i k a b hi hk ha hb e = (omega arith, e)
rowed_apart (plain c n) r i k a b hi hk ha hb e = absurd r
rowed_apart (composite n dw pw) r i k a b hi hk ha hb e =
    let q : i ≡ a = row_apart i a (dw + pw) k b (omega arith) (omega arith) (omega arith) in
    (q, omega (arith, ap (λ z. z * (dw + pw)) q))

rowed_slot : (sh : Shape) → Rowed sh → (i k a b : ℕ) → i < rows sh → k < places sh → a < rows sh → b < pointers sh → place_word sh i k ≢ slot sh a b
rowed_slot (structure dw pw) r i k a b hi hk ha hb e = omega arith
rowed_slot (plain c n) r i k a b hi hk ha hb e = absurd r
rowed_slot (composite n dw pw) r i k a b hi hk ha hb e =
    let q : i ≡ a = row_apart i a (dw + pw) k (dw + b) (omega arith) (omega arith) (omega arith) in
    omega (arith, ap (λ z. z * (dw + pw)) q)

-- a place without bits is 0
bitless : (sh : Shape) (ws : ℕ → ℕ) (i k : ℕ) → place_bits sh ≡ 0 → number sh ws i k ≡ 0
bitless (structure dw pw) ws i k e = absurd (omega arith)
bitless (plain c n) ws i k e = rw e (omega arith)
bitless (composite n dw pw) ws i k e = absurd (omega arith)

-- ## The steps

module _ (H : Memory) (a : ℕ → ℕ) (v : Value) (p : List Step) (c : Site H a v p) (sh : Shape) (dat : ℕ → ℕ → ℕ) (kid : ℕ → ℕ → Value)
    (is : value_at v p ≡ object sh dat kid) (sh' : Shape) (grows : Grows sh sh') (s t : ℕ) (a₁ : ℕ → ℕ)
    (o : Spot (walk H 0 0 v p).0 (walk H 0 0 v p).1 s t sh' a a₁) where
  abbrev g : ℕ
  g = (walk H 0 0 v p).0

  abbrev w : ℕ
  w = (walk H 0 0 v p).1

  abbrev old : Landing
  old = land H (walk H 0 0 v p).0 (walk H 0 0 v p).1

  abbrev l : Landing
  l = o.l

  abbrev Ho : Memory
  Ho = opened H (walk H 0 0 v p).0 s t sh'

  abbrev pub Hc : Memory
  Hc = copied H (land H (walk H 0 0 v p).0 (walk H 0 0 v p).1) sh s t sh' (opened H (walk H 0 0 v p).0 s t sh')

  hw : (walk H 0 0 v p).1 < a (walk H 0 0 v p).0
  hw = slot_allocated H a v p c

  shown : Shows H a (walk H 0 0 v p).0 (walk H 0 0 v p).1 (object sh dat kid)
  shown = subst (λ u. Shows H a g w u) is (reached H a p v 0 0 c.goes c.sound.shown)

  -- the new words were zero
  was_zero : (x y : ℕ) → 1 ≤ taken l sh' x y → H x y ≡ 0
  was_zero x y h = beyond H a v c.sound x y (o.new x y h)

  in_object : (n : ℕ) → n < size sh' → 1 ≤ taken l sh' l.seg (l.pos + n)
  in_object n h = taken_in l sh' l.seg (l.pos + n) refl (omega arith) (omega (arith, o.span_is))

  taken_inside : (x y : ℕ) → 1 ≤ taken l sh' x y → y < a₁ x
  taken_inside x y h =
      ⊎_elim
      (λ (d : 0 < within l.pad_seg l.pad_pos l.pad_len x y).
      let f = within_from l.pad_seg l.pad_pos l.pad_len x y d in rw f.0 (omega (arith, f.2, o.pads_inside)))
      (λ (d : within l.pad_seg l.pad_pos l.pad_len x y ≤ 0).
      let f = within_from l.seg l.pos (span l.said sh') x y (omega (arith, h)) in
      rw f.0 (omega (arith, f.2, o.inside, o.span_is)))
      (cases_lt 0 (within l.pad_seg l.pad_pos l.pad_len x y))

  -- what is copied
  copied_else : (x y : ℕ) → ((i k : ℕ) → i < rows sh → k < min (places sh) (places sh') → x ≡ s → y ≡ t + place_word sh' i k → ⊥) → Hc x y ≡ Ho x y
  copied_else x y h =
      all_else s (rows sh) (min (places sh) (places sh')) (λ i k. t + place_word sh' i k) (λ i k. number sh (λ n. H old.seg (old.pos + n)) i k) Ho x y h

  copied_here : (i k : ℕ) → i < rows sh → k < min (places sh) (places sh') → Hc s (t + place_word sh' i k) ≡ number sh (λ n. H old.seg (old.pos + n)) i k
  copied_here i k hi hk =
      all_here s (rows sh) (min (places sh) (places sh')) (λ i k. t + place_word sh' i k) (λ i k. number sh (λ n. H old.seg (old.pos + n)) i k) Ho i k hi hk
      (λ x b y d hx hb hy hd e.
      rowed_apart sh' grows.rowed x b y d (omega (arith, grows.rows_same)) (omega arith) (omega (arith, grows.rows_same)) (omega arith) (omega arith))

  -- the words that are no places
  else_kept : (x y : ℕ) → ((i k : ℕ) → i < rows sh' → k < places sh' → x ≡ l.seg → y ≡ l.pos + place_word sh' i k → ⊥) → Hc x y ≡ Ho x y
  else_kept x y h =
      copied_else x y (λ i k hi hk e f. h i k (omega (arith, grows.rows_same)) (omega arith) (e ∙ sym o.seg_is) (omega (arith, f, o.pos_is)))

  is_opened : Opened H Hc a a₁ l sh'
  is_opened = record {
    grown = o.grown;
    single = o.single;
    new = o.new;
    inside = taken_inside;
    kept = λ x y h.
        else_kept x y
        (λ i k hi hk e f.
        let q = rowed_word sh' grows.rowed i k hi hk in
        omega (arith, h, taken_in l sh' x y e (omega (arith, f)) (omega (arith, f, q.1, o.span_is)))) ∙
        opened_same H g w s t sh' a a₁ o hw x y h;
  }

  -- the slots are null
  pub slots_null : (i j : ℕ) → i < rows sh' → j < pointers sh' → Hc l.seg (l.pos + slot sh' i j) ≡ 0
  slots_null i j hi hj =
      let m = slot_in sh' i j hi hj in
      else_kept l.seg (l.pos + slot sh' i j) (λ x k hx hk _ f. rowed_slot sh' grows.rowed x k i j hx hk hi hj (omega arith)) ∙
      opened_body H g w s t sh' a a₁ o hw (slot sh' i j) (slot_head sh' i j) m ∙
      was_zero l.seg (l.pos + slot sh' i j) (in_object (slot sh' i j) m)

  pub slots_inside : (i j : ℕ) → i < rows sh' → j < pointers sh' → o.l.pos + slot sh' i j < a₁ o.l.seg
  slots_inside i j hi hj = taken_inside l.seg (l.pos + slot sh' i j) (in_object (slot sh' i j) (slot_in sh' i j hi hj))

  pad_kept : 1 ≤ l.pad_len → Hc l.pad_seg l.pad_pos ≡ l.said
  pad_kept h =
      else_kept l.pad_seg l.pad_pos
      (λ i k hi hk e f.
      let q = rowed_word sh' grows.rowed i k hi hk in
      omega (
        arith,
        o.single l.pad_seg l.pad_pos,
        within_in l.pad_seg l.pad_pos l.pad_len l.pad_seg l.pad_pos refl (omega arith) (omega arith),
        within_in l.seg l.pos (span l.said sh') l.pad_seg l.pad_pos e (omega (arith, f)) (omega (arith, f, q.1, o.span_is)),
      )) ∙
      o.opened_pad H h

  tag_kept : head sh' ≡ 1 → Hc l.seg l.pos ≡ tag_of sh'
  tag_kept h =
      else_kept l.seg l.pos (λ i k hi hk _ f. let q = rowed_word sh' grows.rowed i k hi hk in omega (arith, f, q.0)) ∙
      tag_there H g w s t sh' a a₁ o hw h

  -- the places have the numbers
  places_filled : (i k : ℕ) → i < rows sh' → k < places sh' → Hc l.seg (l.pos + place_word sh' i k) ≡ dat i k
  places_filled i k hi hk =
      ⊎_elim
      (λ (h : k < places sh).
      ap (λ z. Hc z (l.pos + place_word sh' i k)) o.seg_is ∙ ap (λ z. Hc s (z + place_word sh' i k)) o.pos_is ∙
      copied_here i k (omega (arith, grows.rows_same)) (omega arith) ∙ sym (shown.1.numbers i k (omega (arith, grows.rows_same)) h))
      (λ (h : places sh ≤ k).
      let q = rowed_word sh' grows.rowed i k hi hk in
      copied_else l.seg (l.pos + place_word sh' i k)
      (λ x b hx hb _ f.
      let same = rowed_apart sh' grows.rowed i k x b hi hk (omega (arith, grows.rows_same)) (omega arith) (omega (arith, f, o.pos_is)) in
      omega (arith, same.1, hb)) ∙
      opened_body H g w s t sh' a a₁ o hw (place_word sh' i k) q.0 q.1 ∙
      was_zero l.seg (l.pos + place_word sh' i k) (in_object (place_word sh' i k) q.1) ∙
      sym (shown.1.no_more i k (inr h)))
      (cases_lt k (places sh))

  no_more_numbers : (i k : ℕ) → (rows sh' ≤ i) ⊎ (places sh' ≤ k) → dat i k ≡ 0
  no_more_numbers i k (inl h) = shown.1.no_more i k (inl (omega (arith, grows.rows_same)))
  no_more_numbers i k (inr h) =
      ⊎_elim
      (λ (d : i < rows sh).
      ⊎_elim
      (λ (e : k < places sh).
      ⊎_elim
      (λ (f : places sh ≤ places sh'). absurd (omega arith))
      (λ (f : place_bits sh ≡ 0). shown.1.numbers i k d e ∙ bitless sh (λ n. H old.seg (old.pos + n)) i k f)
      grows.more_places)
      (λ (e : places sh ≤ k). shown.1.no_more i k (inr e))
      (cases_lt k (places sh)))
      (λ (d : rows sh ≤ i). shown.1.no_more i k (inl d))
      (cases_lt i (rows sh))

  pub more_rows : rows sh ≤ rows sh'
  more_rows = omega (arith, grows.rows_same)

  -- before the first child moves
  pub begins : (r : Room) → ((x : ℕ) → counts r x ≡ a₁ x) →
      Inv H v p sh o.l sh' kid more_rows grows.more_pointers Hc a₁ 0 0 r Hc
  begins r same = record {
    moving = moving_start H v p sh l sh' kid more_rows grows.more_pointers Hc (counts r)
        (open_object H a v p sh dat kid c.goes c.sound is l sh' Hc (counts r)
        (record {
          grown = λ x. omega (arith, o.grown x, same x);
          single = o.single;
          new = o.new;
          inside = λ x y h. omega (arith, taken_inside x y h, same x);
          kept = is_opened.kept;
        }));
    later = λ x. omega (arith, same x);
    still = λ x y _ _. refl;
  }

  -- ## When all children have moved

  module _ (r : Room) (N : Memory)
      (done : Inv H v p sh o.l sh' kid more_rows grows.more_pointers Hc a₁ (rows sh) 0 r N) where
    abbrev pub last_words : Memory
    last_words = closed N (walk H 0 0 v p).0 (walk H 0 0 v p).1 (land H (walk H 0 0 v p).0 (walk H 0 0 v p).1) sh s t sh'

    -- what surrounds, the old words and the new ones are apart
    parted : (x y : ℕ) → outer H v p x y + taken old sh x y + taken l sh' x y ≤ 1
    parted x y = omega (arith, done.moving.once x y)

    -- a word that is no slot of a moved child
    unmoved : (x y : ℕ) → y < a₁ x → ((i j : ℕ) → i < rows sh → j < pointers sh → x ≡ l.seg → y ≡ l.pos + slot sh' i j → ⊥) → N x y ≡ Hc x y
    unmoved x y h away = done.still x y h (λ i j hi hj _. away i j hi hj)

    new_kept : (x y : ℕ) → 1 ≤ taken l sh' x y → last_words x y ≡ N x y
    new_kept x y h =
        change_else (zeroed N (taken old sh)) g w (slot_word g w s t sh') x y (slot_apart_new H g w s t sh' a a₁ o hw x y h) ∙
        same_there N (taken old sh) x y (omega (arith, parted x y))

    -- of the new words, those that are no slots are as they were written
    written_kept : (x y : ℕ) → 1 ≤ taken l sh' x y → ((i j : ℕ) → i < rows sh → j < pointers sh → x ≡ l.seg → y ≡ l.pos + slot sh' i j → ⊥) →
        last_words x y ≡ Hc x y
    written_kept x y h away = new_kept x y h ∙ unmoved x y (taken_inside x y h) away

    pad_taken : 1 ≤ l.pad_len → 1 ≤ within l.pad_seg l.pad_pos l.pad_len l.pad_seg l.pad_pos
    pad_taken h = omega (arith, within_in l.pad_seg l.pad_pos l.pad_len l.pad_seg l.pad_pos refl (omega arith) (omega arith))

    slot_taken : (i j : ℕ) → i < rows sh → j < pointers sh → (x y : ℕ) → x ≡ l.seg → y ≡ l.pos + slot sh' i j →
        1 ≤ within l.seg l.pos (span l.said sh') x y
    slot_taken i j hi hj x y e f =
        let m = slot_in sh' i j (omega (arith, grows.rows_same)) (omega (arith, grows.more_pointers)) in
        omega (arith, within_in l.seg l.pos (span l.said sh') x y e (omega arith) (omega (arith, f, m, o.span_is)))

    landed : (land last_words (walk H 0 0 v p).0 (walk H 0 0 v p).1 ≡ o.l) × Paved last_words (walk H 0 0 v p).0 (walk H 0 0 v p).1
    landed =
        o.lands last_words (change_here (zeroed N (taken old sh)) g w (slot_word g w s t sh'))
        (λ h.
        written_kept l.pad_seg l.pad_pos (omega (arith, pad_taken h))
        (λ i j hi hj e f. omega (arith, o.single l.pad_seg l.pad_pos, pad_taken h, slot_taken i j hi hj l.pad_seg l.pad_pos e f)) ∙
        pad_kept h)

    new_body : Body last_words (counts r) o.l sh' dat
    new_body = record {
      described = o.described (last_words l.seg l.pos)
          (λ h.
          let one : 1 ≤ size sh' = head_size sh' h in
          let here : l.pos + 0 ≡ l.pos = omega arith in
          written_kept l.seg l.pos (subst (λ z. 1 ≤ taken l sh' l.seg z) here (in_object 0 one))
          (λ i j hi hj _ f. omega (arith, f, h, slot_head sh' i j)) ∙
          tag_kept h);
      inside = omega (arith, o.inside, o.span_is, done.later l.seg);
      pads_inside = omega (arith, o.pads_inside, done.later l.pad_seg);
      numbers = λ i k hi hk.
          let q = rowed_word sh' grows.rowed i k hi hk in
          sym
          (rowed_number sh' grows.rowed (λ n. last_words l.seg (l.pos + n)) i k ∙
          written_kept l.seg (l.pos + place_word sh' i k) (in_object (place_word sh' i k) q.1)
          (λ x j hx hj _ f.
          rowed_slot sh' grows.rowed i k x j hi hk (omega (arith, grows.rows_same)) (omega (arith, grows.more_pointers)) (omega arith)) ∙
          places_filled i k hi hk);
      no_more = no_more_numbers;
    }

    is_closed : Closed H a v p sh dat o.l sh' N last_words (counts r)
    is_closed = record {
      grown = λ x. omega (arith, o.grown x, done.later x);
      more_rows = more_rows;
      more_pointers = grows.more_pointers;
      leads = landed.0;
      paved = landed.1;
      body = new_body;
      nulls = λ i j hi hj out.
          let m = slot_in sh' i j hi hj in
          written_kept l.seg (l.pos + slot sh' i j) (in_object (slot sh' i j) m)
          (λ x k hx hk _ f.
          let same = slot_apart sh' i j x k hi hj (omega (arith, grows.rows_same)) (omega (arith, grows.more_pointers)) (omega arith) in
          ⊎_elim (λ (d : rows sh ≤ i). omega (arith, same.0)) (λ (d : pointers sh ≤ j). omega (arith, same.1)) out) ∙
          slots_null i j hi hj;
      wiped = λ x y h.
          change_else (zeroed N (taken old sh)) g w (slot_word g w s t sh') x y
          (λ e f. omega (arith, parted g w, slot_outer H H a a v p c.goes c.sound, subst (λ z. 1 ≤ taken old sh z w) e (subst (λ z. 1 ≤ taken old sh x z) f h))) ∙
          zero_there N (taken old sh) x y h;
      kept = λ x y h m. change_else (zeroed N (taken old sh)) g w (slot_word g w s t sh') x y m ∙ same_there N (taken old sh) x y h;
      around = λ x y h m.
          unmoved x y (omega (arith, outer_inside H H a a v p c.goes c.sound x y h, o.grown x))
          (λ i j hi hj e f. omega (arith, parted x y, slot_taken i j hi hj x y e f)) ∙
          is_opened.kept x y (omega (arith, parted x y));
    }

    pub turn_larger : Turned H last_words (counts r) v p (object sh' dat kid)
    turn_larger = record {
      sound = close_object H a v p sh dat kid c.goes c.sound is o.l sh' N last_words (counts r)
          (moving_end H v p sh o.l sh' kid more_rows grows.more_pointers N (counts r) done.moving)
          is_closed;
      there = still_there H a v p c last_words (object sh' dat kid)
          (λ x y h m. is_closed.kept x y (omega (arith, parted x y)) m ∙ is_closed.around x y h m);
    }

    pub larger_leads : land last_words (walk H 0 0 v p).0 (walk H 0 0 v p).1 ≡ o.l
    larger_leads = landed.0
