-- Texts: a new list of bytes, with its bytes written.
use Rattle.std.proofs.Common.{◌≡◌, ℕ, zero, suc, ◌+◌, ◌-◌, ◌<◌, ◌≤◌, ◌⊎◌, List, length, sym, refl, ap, ◌∙◌, subst, inl, inr, arith}
use Rattle.std.proofs.lemmas.List.{get_or_past}
use Rattle.wire.specs.Elements.{element_word, element_in}
use Rattle.tree.specs.Value.{Shape, Value, null, object, size, Step, Goes, value_at, put, blank}
use Rattle.tree.specs.Shows.{Memory, span, Body, within, reach, walk, Sound}
use Rattle.tree.specs.Edits.{outer, Renumbered}
use Rattle.tree.proofs.Count.{within_in}
use Rattle.tree.proofs.Edits as edits
use Rattle.tree.proofs.Frame.{describes_headed}
use Rattle.tree.proofs.Values.{goes_put, value_at_put, put_put}
use Rattle.law.specs.Calls.{Bytes}
use Rattle.law.specs.Machine.{text_shape, letters}
use Rattle.law.specs.Exact.{placed, spelled, text_word}
use Rattle.law.proofs.Spots.{Spot}
use Rattle.law.proofs.Letters.{letter_back}
use Rattle.law.proofs.Makings.{Site, Turned, turn_new, new_leads, still_there, around_only}

spelled_here : (H : Memory) (s t : ℕ) (bytes : List ℕ) (n : ℕ) → n < size (text_shape bytes) → spelled H s t bytes s (t + n) ≡ text_word bytes n
spelled_here H s t bytes n h =
    let one = within_in s t (size (text_shape bytes)) s (t + n) refl (omega arith) (omega arith) in
    let back : t + n - t ≡ n = omega arith in
    rw (one, back)

spelled_else : (H : Memory) (s t : ℕ) (bytes : List ℕ) (x y : ℕ) → within s t (size (text_shape bytes)) x y ≡ 0 → spelled H s t bytes x y ≡ H x y
spelled_else H s t bytes x y h = rw h

no_letter : (bytes : List ℕ) (i k : ℕ) → (length bytes + 1 ≤ i) ⊎ (1 ≤ k) → letters bytes i k ≡ 0
no_letter bytes i zero (inl h) = get_or_past bytes i 0 (omega arith)
no_letter bytes i zero (inr h) = absurd (omega arith)
no_letter bytes i (suc k) o = refl

module _ (H : Memory) (a : ℕ → ℕ) (v : Value) (p : List Step) (c : Site H a v p) (a' : ℕ → ℕ) (s t : ℕ) (bytes : List ℕ)
    (o : Spot (walk H 0 0 v p).0 (walk H 0 0 v p).1 s t (text_shape bytes) a a') (small : Bytes bytes) where
  abbrev sh : Shape
  sh = text_shape bytes

  abbrev Hn : Memory
  Hn = placed H (walk H 0 0 v p).0 (walk H 0 0 v p).1 (value_at v p) s t sh

  abbrev Ht : Memory
  Ht = spelled Hn s t bytes

  lettered : (i k : ℕ) → i < length bytes + 1 → k < 1 → letters bytes i k ≡ element_in (Ht s (t + element_word 2 i)) 2 i
  lettered i (suc k) hi hk = absurd (omega arith)
  lettered i zero hi hk =
      sym (ap (λ z. element_in z 2 i) (spelled_here Hn s t bytes (element_word 2 i) (omega arith)) ∙ letter_back bytes i small)

  body : Body Ht a' o.l sh (letters bytes)
  body = record {
    described = describes_headed o.l.said 0 (Ht o.l.seg o.l.pos) sh (λ h. absurd (omega arith)) (o.described 0 (λ h. absurd (omega arith)));
    inside = omega (arith, o.inside, o.span_is);
    pads_inside = o.pads_inside;
    numbers = λ i k hi hk. rw (o.seg_is, o.pos_is) (lettered i k hi hk);
    no_more = λ i k h. no_letter bytes i k h;
  }

  lettering : Renumbered Hn Ht a' (walk H 0 0 v p).0 (walk H 0 0 v p).1 sh (letters bytes)
  lettering = record {
    now = subst (λ l. Body Ht a' l sh (letters bytes)) (sym (new_leads H a v p c a' s t sh o)) body;
    slots = λ i j hi hj. absurd (omega arith);
    kept = λ x y h.
        spelled_else Hn s t bytes x y
        (subst (λ n. within s t n x y ≡ 0) o.span_is
        (subst (λ q. within s q (span o.l.said sh) x y ≡ 0) o.pos_is
        (subst (λ g. within g o.l.pos (span o.l.said sh) x y ≡ 0) o.seg_is
        (subst (λ l. within l.seg l.pos (span l.said sh) x y ≡ 0) (new_leads H a v p c a' s t sh o) h))));
  }

  pub turn_text : Turned H Ht a' v p (object sh (letters bytes) (λ i j. null))
  turn_text =
      let made = turn_new H a v p c a' s t sh o in
      let w : Value = put v p (blank sh) in
      let go : Goes w p = goes_put p v (blank sh) c.goes in
      let here : Renumbered Hn Ht a' (walk Hn 0 0 w p).0 (walk Hn 0 0 w p).1 sh (letters bytes) =
      subst (λ q. Renumbered Hn Ht a' q.0 q.1 sh (letters bytes)) (sym made.there) lettering in
      let twice : put w p (object sh (letters bytes) (λ i j. null)) ≡ put v p (object sh (letters bytes) (λ i j. null)) = put_put p v (blank sh) _ c.goes in
      let site : Site Hn a' w p = record { goes = go; sound = made.sound } in
      record {
        sound = subst (Sound Ht a') twice
            (edits.renumber Hn Ht a' w p sh (λ i k. 0) (letters bytes) (λ i j. null) go made.sound (value_at_put p v (blank sh) c.goes) here);
        there = ap (λ u. walk Ht 0 0 u p) (sym twice) ∙
            still_there Hn a' w p site Ht _
            (λ x y h _.
            here.kept x y
            (let none : reach Hn (walk Hn 0 0 w p).0 (walk Hn 0 0 w p).1 (value_at w p) x y ≡ 0 = around_none x y h in
            let k : reach Hn (walk Hn 0 0 w p).0 (walk Hn 0 0 w p).1 (blank sh) x y ≡ 0 =
            subst (λ u. reach Hn (walk Hn 0 0 w p).0 (walk Hn 0 0 w p).1 u x y ≡ 0) (value_at_put p v (blank sh) c.goes) none in
            omega (arith, k))) ∙
            made.there;
      }
    where
      around_none : (x y : ℕ) → 1 ≤ outer Hn (put v p (blank sh)) p x y →
          reach Hn (walk Hn 0 0 (put v p (blank sh)) p).0 (walk Hn 0 0 (put v p (blank sh)) p).1 (value_at (put v p (blank sh)) p) x y ≡ 0
      around_none x y h =
          around_only Hn a' (put v p (blank sh)) p (record { goes = goes_put p v (blank sh) c.goes; sound = (turn_new H a v p c a' s t sh o).sound }) x y h
