-- Zeroing on words that show a value: each event keeps what the loop keeps.
use Rattle.std.proofs.Common.{◌≡◌, ℕ, suc, ◌+◌, ◌-◌, ◌^◌, ◌<◌, ◌≤◌, true, ltb, ◌≢◌, List, [], ◌∷◌, map, length, sym, refl, ap, ◌∙◌, subst, ap₂, ⊎_elim, arith}
use Rattle.std.proofs.lemmas.Bool.{cond-true, lt-ltb}
use Rattle.std.proofs.lemmas.List.{length-map}
use Rattle.tree.specs.Words.{word}
use Rattle.tree.specs.Value.{Value, null, object, rows, pointers, slot}
use Rattle.tree.specs.Shows.{Memory, Landing, land, span, Shows, reach}
use Rattle.tree.specs.Decode.{Deep}
use Rattle.tree.specs.Loops.{Pending, left_of, left_in, Wiping}
use Rattle.tree.proofs.Shapes.{slot_in}
use Rattle.tree.proofs.Frame.{Agree, frame, slot_within}
use Rattle.tree.proofs.Wipe.{wipe_recount, left_begin, left_step, stack_up}
use Rattle.cursor.specs.Begun.{Begun, begun_of, begun, next_word, passed}
use Rattle.cursor.specs.Steps.{pointed, Null, Entered, TooDeep, Left, Happened}
use Rattle.cursor.specs.declared.Event.{Event}
use Rattle.cursor.specs.declared.Event.TheVariants as events
use Rattle.layout.specs.Emptied.{object_words, emptied, Handled}
use Rattle.layout.proofs.Emptying.{object_span, land_pads, emptied_zero, emptied_same}
use Rattle.layout.proofs.Pendings.{begun_by, Stands, Standing, on_by, left_by, further, further_begun, further_left, further_stands, first_of, first_left, first_stands}
use Rattle.layout.proofs.Walks.{not_empty, head_is, tail_is, live_object, dead_null, begins_as, Walking}

module _ (H₀ : Memory) (a : ℕ → ℕ) (small : (x : ℕ) → a x ≤ 2 ^ 29) (g w : ℕ) (u : Value) (H : Memory) (p : Pending) (ps : List Pending)
    (top : Stands H₀ a (length ps) p) (below : Standing H₀ a ps) (ok : Wiping H₀ g w u H (left_in H₀ (p ∷ ps))) where
  abbrev l : Landing
  l = land H₀ p.g p.w

  -- ## A pointer comes next

  module _ (hi : p.i < rows p.sh) where
    hj : p.j < pointers p.sh
    hj = ⊎_elim
        (λ (n : (p.i < rows p.sh) × (p.j < pointers p.sh)). n.1)
        (λ (n : (p.i ≡ rows p.sh) × (p.j ≡ 0)). let e = n.0 in absurd (omega arith))
        top.next

    -- its slot and its value
    abbrev s : ℕ
    s = l.seg

    abbrev q : ℕ
    q = l.pos + slot p.sh p.i p.j

    abbrev child : Value
    child = p.kid p.i p.j

    shown_first : Shows H₀ a s q child
    shown_first = top.shown.2 p.i p.j hi hj

    split : (x y : ℕ) → left_by H₀ p x y ≡ left_by H₀ (on_by true p) x y + reach H₀ s q child x y
    split x y = left_step H₀ p.g p.w p.sh p.kid p.i p.j hi hj x y

    -- it is as it was
    same : Agree H₀ H s q child
    same = (
      ok.stands s q (omega (arith, slot_within s l.pos l.said p.sh p.i p.j hi hj)),
      λ x y h. ok.stands x y (omega (arith, split x y)),
    )

    shown_now : Shows H a s q child
    shown_now = frame H₀ H a a (λ x. omega arith) child s q same shown_first

    pointed_is : pointed H (begun_by H₀ p) ≡ H s q
    pointed_is =
        let i = slot_in p.sh p.i p.j hi hj in
        let n = top.shown.1.inside in
        let b = small s in
        let c : q < 2 ^ 64 = omega arith in
        cond-true (ltb q (2 ^ 64)) (H s q) 0 (lt-ltb q (2 ^ 64) c)

    pub turn_null : (bs' : List Begun) → pointed H (begun_by H₀ p) ≡ 0 → bs' ≡ passed (begun_by H₀ p) ∷ map (begun_by H₀) ps → Walking H₀ a g w u H bs'
    turn_null bs' z after =
        let e : child ≡ null = dead_null H a s q child shown_now (sym pointed_is ∙ z) in
        record {
          stacked = further p ∷ ps;
          frames = after ∙ ap (λ (b : Begun). b ∷ map (begun_by H₀) ps) (sym (further_begun H₀ p));
          standing = (further_stands H₀ a (length ps) p hi hj top, below);
          wiping = wipe_recount H₀ g w u H (left_in H₀ (p ∷ ps)) (left_in H₀ (further p ∷ ps))
              (λ x y. omega (arith, split x y, further_left H₀ p hj x y, ap (λ z. reach H₀ s q z x y) e))
              ok;
        }

    pub turn_entered : (bs' : List Begun) → pointed H (begun_by H₀ p) ≢ 0 → length ps < 63 →
        bs' ≡ begun H s q ∷ (passed (begun_by H₀ p) ∷ map (begun_by H₀) ps) → Walking H₀ a g w u H bs'
    turn_entered bs' live few after =
        let o = live_object H a s q child shown_now (λ z. live (pointed_is ∙ z)) in
        let e = o.is in
        let first : Pending = first_of s q o.shape o.children in
        let shown' : Shows H₀ a s q (object o.shape o.numbers o.children) = subst (Shows H₀ a s q) e shown_first in
        let same' : Agree H₀ H s q (object o.shape o.numbers o.children) = subst (Agree H₀ H s q) e same in
        let d : 63 - length ps ≡ 64 - suc (length ps) = omega arith in
        let deep' : Deep (64 - suc (length ps)) (object o.shape o.numbers o.children) = subst (λ (k : ℕ). Deep k (object o.shape o.numbers o.children)) d (subst (Deep (63 - length ps)) e (top.deep p.i p.j)) in
        record {
          stacked = first ∷ (further p ∷ ps);
          frames = after ∙
              ap₂ (λ (b c : Begun). b ∷ (c ∷ map (begun_by H₀) ps)) (begins_as H₀ H a s q o.shape o.numbers o.children same' shown') (sym (further_begun H₀ p));
          standing = (
            first_stands H₀ a (suc (length ps)) s q o.shape o.numbers o.children (omega arith) shown' deep',
            (further_stands H₀ a (length ps) p hi hj top, below),
          );
          wiping = wipe_recount H₀ g w u H (left_in H₀ (p ∷ ps)) (left_in H₀ (first ∷ (further p ∷ ps)))
              (λ x y.
              omega (
                arith,
                split x y,
                further_left H₀ p hj x y,
                ap (λ z. reach H₀ s q z x y) e,
                first_left H₀ s q o.shape o.children x y,
                left_begin H₀ s q o.shape o.numbers o.children x y,
              ))
              ok;
        }

    pub never_too_deep : pointed H (begun_by H₀ p) ≢ 0 → length ps ≡ 63 → ⊥
    never_too_deep live full =
        let o = live_object H a s q child shown_now (λ z. live (pointed_is ∙ z)) in
        let d : 63 - length ps ≡ 0 = omega arith in
        subst (λ (k : ℕ). Deep k (object o.shape o.numbers o.children)) d (subst (Deep (63 - length ps)) o.is (top.deep p.i p.j))

  -- ## The object ends

  at_end : rows p.sh ≤ p.i → (p.i ≡ rows p.sh) × (p.j ≡ 0)
  at_end done =
      ⊎_elim
      (λ (n : (p.i < rows p.sh) × (p.j < pointers p.sh)). let e = n.0 in absurd (omega arith))
      (λ (n : (p.i ≡ rows p.sh) × (p.j ≡ 0)). n)
      top.next

  pub turn_left : (m : List (List ℕ)) → word m ≡ H → ((x y : ℕ) → reach H₀ g w u x y ≤ 1) → rows p.sh ≤ p.i → (bs' : List Begun) → bs' ≡ map (begun_by H₀) ps →
      Walking H₀ a g w u (word (emptied m (land H₀ p.g p.w) p.sh)) bs'
  turn_left m here once done bs' after =
      let n : ℕ = span l.said p.sh in
      let body = top.shown.1 in
      let c : object_words l.said p.sh ≡ span l.said p.sh = object_span l.said (H₀ l.seg l.pos) p.sh body.described in
      let low : l.pos < 2 ^ 32 = let i = body.inside in let k = small l.seg in omega arith in
      let low_pads : l.pad_pos < 2 ^ 32 = let i = body.pads_inside in let k = small l.pad_seg in omega arith in
      let few = land_pads H₀ p.g p.w in
      let e = at_end done in
      record {
        stacked = ps;
        frames = after;
        standing = below;
        wiping = stack_up H₀ g w u H p.g p.w p.sh p.kid p.i ps (word (emptied m l p.sh)) once
            (λ x y h. emptied_zero m l p.sh n c low low_pads few x y h)
            (λ x y h. emptied_same m l p.sh n c low low_pads few x y h ∙ ap (λ (M : Memory). M x y) here)
            (wipe_recount H₀ g w u H (left_in H₀ (p ∷ ps))
            (left_in H₀ (record { g = p.g; w = p.w; sh = p.sh; kid = p.kid; i = rows p.sh; j = 0 } ∷ ps))
            (λ x y. ap₂ (λ (i j : ℕ). left_of H₀ p.g p.w p.sh p.kid i j x y + left_in H₀ ps x y) (sym e.0) (sym e.1))
            ok);
      }

-- ## Every event

module _ (H₀ : Memory) (a : ℕ → ℕ) (small : (x : ℕ) → a x ≤ 2 ^ 29) (g w : ℕ) (u : Value) (once : (x y : ℕ) → reach H₀ g w u x y ≤ 1) (m n : List (List ℕ)) (bs bs' : List Begun) where
  null_by : Null (word m) bs bs' → (ps : List Pending) → bs ≡ map (begun_by H₀) ps → Standing H₀ a ps → Wiping H₀ g w u (word m) (left_in H₀ ps) → Walking H₀ a g w u (word m) bs'
  null_by k [] e st ok = not_empty H₀ k.newest k.others bs k.before e
  null_by k (p ∷ ps) e st ok =
      let b = head_is H₀ k.newest k.others p ps bs k.before e in
      let o = tail_is H₀ k.newest k.others p ps bs k.before e in
      turn_null H₀ a small g w u (word m) p ps st.0 st.1 ok
      (subst (λ (z : Begun). z.row < rows z.shape) b k.more)
      bs'
      (subst (λ (z : Begun). pointed (word m) z ≡ 0) b k.null)
      (k.after ∙ ap₂ (λ (z : Begun) (zs : List Begun). passed z ∷ zs) b o)

  entered_by : (new : Begun) → Entered (word m) new bs bs' → (ps : List Pending) → bs ≡ map (begun_by H₀) ps → Standing H₀ a ps → Wiping H₀ g w u (word m) (left_in H₀ ps) → Walking H₀ a g w u (word m) bs'
  entered_by new k [] e st ok = not_empty H₀ k.newest k.others bs k.before e
  entered_by new k (p ∷ ps) e st ok =
      let b = head_is H₀ k.newest k.others p ps bs k.before e in
      let o = tail_is H₀ k.newest k.others p ps bs k.before e in
      let f : length ps < 63 = let c = ap length e in let d = length-map ps (begun_by H₀) in let h = k.few in omega arith in
      turn_entered H₀ a small g w u (word m) p ps st.0 st.1 ok
      (subst (λ (z : Begun). z.row < rows z.shape) b k.more)
      bs'
      (subst (λ (z : Begun). pointed (word m) z ≢ 0) b k.live)
      f
      (k.after ∙
      (ap (λ (z : Begun). z ∷ (passed k.newest ∷ k.others)) k.begins ∙
      ap₂ (λ (z : Begun) (zs : List Begun). begun (word m) z.place.seg (next_word z) ∷ (passed z ∷ zs)) b o))

  deep_by : TooDeep (word m) bs bs' → (ps : List Pending) → bs ≡ map (begun_by H₀) ps → Standing H₀ a ps → Wiping H₀ g w u (word m) (left_in H₀ ps) → Walking H₀ a g w u (word m) bs'
  deep_by k [] e st ok = not_empty H₀ k.newest k.others bs k.before e
  deep_by k (p ∷ ps) e st ok =
      let b = head_is H₀ k.newest k.others p ps bs k.before e in
      let f : length ps ≡ 63 = let c = ap length e in let d = length-map ps (begun_by H₀) in let h = k.full in omega arith in
      absurd (never_too_deep H₀ a small g w u (word m) p ps st.0 st.1 ok
      (subst (λ (z : Begun). z.row < rows z.shape) b k.more)
      (subst (λ (z : Begun). pointed (word m) z ≢ 0) b k.live)
      f)

  left_behind : (old : Begun) → Left old bs bs' → (ps : List Pending) → bs ≡ map (begun_by H₀) ps → Standing H₀ a ps → Wiping H₀ g w u (word m) (left_in H₀ ps) → Walking H₀ a g w u (word (emptied m old.place old.shape)) bs'
  left_behind old k [] e st ok = not_empty H₀ old bs' bs k.before e
  left_behind old k (p ∷ ps) e st ok =
      let b = head_is H₀ old bs' p ps bs k.before e in
      let o = tail_is H₀ old bs' p ps bs k.before e in
      subst (λ (z : Begun). Walking H₀ a g w u (word (emptied m z.place z.shape)) bs') (sym b)
      (turn_left H₀ a small g w u (word m) p ps st.0 st.1 ok m refl once (subst (λ (z : Begun). rows z.shape ≤ z.row) b k.done) bs' o)

  pub walk_turns : (e : Event) → Happened (word m) e bs bs' → Handled e m n → Walking H₀ a g w u (word m) bs → Walking H₀ a g w u (word n) bs'
  walk_turns events.Null k h ok = subst (λ (z : List (List ℕ)). Walking H₀ a g w u (word z) bs') (sym h) (null_by k ok.stacked ok.frames ok.standing ok.wiping)
  walk_turns (events.Entered f) k h ok = subst (λ (z : List (List ℕ)). Walking H₀ a g w u (word z) bs') (sym h) (entered_by (begun_of f) k ok.stacked ok.frames ok.standing ok.wiping)
  walk_turns events.TooDeep k h ok = subst (λ (z : List (List ℕ)). Walking H₀ a g w u (word z) bs') (sym h) (deep_by k ok.stacked ok.frames ok.standing ok.wiping)
  walk_turns (events.Left f) k h ok = subst (λ (z : List (List ℕ)). Walking H₀ a g w u (word z) bs') (sym h) (left_behind (begun_of f) k ok.stacked ok.frames ok.standing ok.wiping)
