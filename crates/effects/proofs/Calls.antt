-- From parts to whole calls, and from whole calls to the law.
use Rattle.std.proofs.Common.{◌≡◌, ℕ, zero, suc, ◌^◌, ◌≤◌, List, [], ◌∷◌, ◌++◌, map, length, None, Err, sym, refl, ap, ◌∙◌, subst, inl, inr, ⊎_elim, arith}
use lib.ListN.{length-replicate}
use Rattle.tree.specs.Value.{Value, null, object, Step, Goes, value_at}
use Rattle.tree.specs.Shows.{Memory, Shows, walk, Sound}
use Rattle.tree.specs.Decode.{Deep}
use Rattle.tree.proofs.Extents.{sound}
use Rattle.tree.proofs.Context.{reached, Once}
use Rattle.tree.proofs.Replace.{once_end, beyond}
use Rattle.table.specs.Segments.{allocated_in, capacities, all_fresh}
use Rattle.table.specs.Placing.{Room, room, Outcome, no_space, root}
use Rattle.std.proofs.lemmas.List.{append-nil}
use Rattle.table.proofs.Tables.{capacities_length, capacities_append, capacities_fresh}
use Rattle.arena.specs.declared.NoSpace.{NoSpace}
use Rattle.law.specs.Calls.{Call, Typed, refused}
use Rattle.law.specs.Machine.{making, fine, wrong, judge, reply, effect}
use Rattle.law.specs.Exact.{Written, makes, call_outcome}
use Rattle.law.specs.Law.{Source, State, memory, lengths, Granted, zero_segments, Bare, Holds, Reply, met_in, Lawful}
use Rattle.tree.specs.Extents.{WellLaid}
use Rattle.table.proofs.Allocations.{after_root}
use Rattle.law.specs.Enough.{PairIs}
use Rattle.law.proofs.Makings as makings
use Rattle.law.proofs.Grants.{granted_join}
use Rattle.law.proofs.Tables.{tables}
use Rattle.law.proofs.Enough.{roots, exact, bounded_small}
use Rattle.walk.specs.Spots.{spot_of}
use Rattle.effects.specs.States.{Sized, Clean, Prepared, Back}
use Rattle.effects.specs.Parts.{Went, Failed}
use Rattle.effects.specs.Makes.{Slot, Performs}
use Rattle.effects.specs.Whole.{WholeCallsKeepTheLaw}
use Rattle.effects.proofs.Joins.{room_of, joins, fails_first, fails_later}
use Rattle.effects.proofs.Keeping.{went_sized, went_grown}

-- ## Nesting along a path

deep_less : (d : ℕ) (u : Value) → Deep d u → Deep (suc d) u
deep_less d null h = tt
deep_less zero (object sh dat kid) h = absurd h
deep_less (suc d) (object sh dat kid) h = λ i j. deep_less d (kid i j) (h i j)

deep_at : (p : List Step) (v : Value) (d : ℕ) → Deep d v → Deep d (value_at v p)
deep_at [] v d h = h
deep_at (s ∷ p) null d h = tt
deep_at (s ∷ p) (object sh dat kid) zero h = absurd h
deep_at (s ∷ p) (object sh dat kid) (suc d) h =
    deep_less d (value_at (kid s.element s.pointer_number) p) (deep_at p (kid s.element s.pointer_number) d (h s.element s.pointer_number))

module _ {X : Type 0} (S : Source X) where
  -- ## The slot of a call, once the root word is there

  pub slot_of : (s s₁ : State) (v : Value) (p : List Step) (q : ℕ × ℕ) → Holds S s v → Went S root s q s₁ → memory s₁ ≡ memory s → Goes v p →
      ((x : ℕ) → allocated_in s₁.table x ≤ 2 ^ 29) → Slot s₁ (walk (memory s) 0 0 v p).0 (walk (memory s) 0 0 v p).1 (value_at v p)
  slot_of s s₁ v p q h w same go small =
      let a : ℕ → ℕ = allocated_in s₁.table in
      let ok : Sound (memory s) a v = sound (memory s) a v (roots S s v (w.met ++ []) (room_of s₁.table [] ([] ++ w.asked)) q h (w.rule [] [])) in
      let g : ℕ = (walk (memory s) 0 0 v p).0 in
      let k : ℕ = (walk (memory s) 0 0 v p).1 in
      let u : Value = value_at v p in
      record {
        sized = went_sized S root s s₁ q w h.stands.sizes_match;
        clean = λ x y l. ap (λ (H : Memory). H x y) same ∙ beyond (memory s) a v ok x y l;
        small = small;
        inside = makings.slot_allocated (memory s) a v p (record { goes = go; sound = ok });
        shown = subst (λ (H : Memory). Shows H a g k u) (sym same) (reached (memory s) a p v 0 0 go ok.shown);
        once = subst (λ (H : Memory). Once H g k u) (sym same) (once_end (memory s) (memory s) a a v p go ok);
        nested = deep_at p v 64 h.nested;
      }

  -- ## Root and edit together

  module _ (s s₁ s₂ : State) (v : Value) (c : Call) (q : ℕ × ℕ) (w : Went S root s q s₁) (same : memory s₁ ≡ memory s) where
    abbrev edits : Memory → Room → Outcome Written
    edits H = makes H (walk (memory s) 0 0 v c.path).0 (walk (memory s) 0 0 v c.path).1 (value_at v c.path) (making c.edit (value_at v c.path))

    pub performs_went : (a : Written) → Went S (edits (memory s₁)) s₁ a s₂ → Went S (λ r. call_outcome (memory s) v r c) s a s₂
    unfolding call_outcome
    performs_went a m =
        joins S root (λ r _. edits (memory s) r) s s₁ s₂ q a w (subst (λ (H : Memory). Went S (edits H) s₁ a s₂) same m)

    pub performs_failed : (n : ℕ) → Failed S (edits (memory s₁)) s₁ n s₂ → Failed S (λ r. call_outcome (memory s) v r c) s n s₂
    unfolding call_outcome
    performs_failed n m =
        fails_later S root (λ r _. edits (memory s) r) s s₁ s₂ q n w (subst (λ (H : Memory). Failed S (edits H) s₁ n s₂) same m)

  pub root_failed : (s s₁ : State) (v : Value) (c : Call) (n : ℕ) → Failed S root s n s₁ → Failed S (λ r. call_outcome (memory s) v r c) s n s₁
  unfolding call_outcome
  root_failed s s₁ v c n f = fails_first S root _ s s₁ n f

  -- ## Back at the mark

  zero_sizes : (cs : List ℕ) → map length (zero_segments cs) ≡ cs
  zero_sizes [] = refl
  zero_sizes (d ∷ cs) = let e = length-replicate {A = ℕ} d 0 in let f = zero_sizes cs in cc

  map_append : (m n : List (List ℕ)) → map length (m ++ n) ≡ map length m ++ map length n
  map_append [] n = refl
  map_append (x ∷ m) n = ap (λ (l : List ℕ). length x ∷ l) (map_append m n)

  back_lengths : (s s₁ s' : State) (met : List ℕ) → Sized s → Sized s₁ → capacities s₁.table ≡ capacities s.table ++ met → Back s met s₁ s' →
      lengths s'.source ≡ lengths s₁.source
  back_lengths s s₁ s' met e f caps b =
      ap (map length) b.segments_are ∙ (map_append s.source.segments (zero_segments met) ∙
      (ap (λ (l : List ℕ). map length s.source.segments ++ l) (zero_sizes met) ∙ (ap (λ (l : List ℕ). l ++ met) e ∙ (sym caps ∙ sym f))))

  -- a failed part, after going back
  pub failed_back : {A : Type 0} (F : Room → Outcome A) (s s₁ s' : State) (n : ℕ) (f : Failed S F s n s₁) → Sized s → Sized s₁ → Back s f.met s₁ s' → Failed S F s n s'
  failed_back F s s₁ s' n f e k b =
      let fresh_caps : capacities (s.table ++ all_fresh f.met) ≡ capacities s.table ++ f.met =
      capacities_append s.table (all_fresh f.met) ∙ ap (λ (l : List ℕ). capacities s.table ++ l) (capacities_fresh f.met) in
      let caps : capacities s'.table ≡ capacities s.table ++ f.met = ap capacities b.table_is ∙ fresh_caps in
      let long : length s'.table ≡ length s₁.table =
      sym (capacities_length s'.table) ∙ (ap length (caps ∙ sym f.capacities_are) ∙ capacities_length s₁.table) in
      let joined : Granted S s.source (f.asked ++ []) (f.met ++ []) s'.source =
      granted_join S s.source s₁.source s'.source f.asked [] f.met [] f.granted
      (back_lengths s s₁ s' f.met e k f.capacities_are b, b.same_offers, b.same_first) in
      record {
        met = f.met;
        asked = f.asked;
        reached = f.reached;
        rule = f.rule;
        granted =
            subst (λ (l : List ℕ). Granted S s.source l f.met s'.source) (append-nil f.asked)
            (subst (λ (l : List ℕ). Granted S s.source (f.asked ++ []) l s'.source) (append-nil f.met) joined);
        capacities_are = caps;
        no_more = ⊎_elim (λ (h : length s₁.table ≡ 64). inl (long ∙ h)) (λ (h : s₁.source.offers n ≡ None). inr (ap (λ (o : ℕ → _). o n) b.same_offers ∙ h)) f.no_more;
      }

  pub performs_back : {E : Type 0} (s s₁ s' : State) (v : Value) (c : Call) (y : NoSpace E) (f : Failed S (λ r. call_outcome (memory s) v r c) s y.minimum s₁) →
      Sized s → Sized s₁ → Back s f.met s₁ s' → Performs S s v c (Err y) s'
  unfolding failed_back
  performs_back s s₁ s' v c y f e k b = (failed_back (λ r. call_outcome (memory s) v r c) s s₁ s' y.minimum f e k b, b.table_is, b.segments_are)

  -- ## A state that holds a tree

  pub holds_clean : (s : State) (v : Value) → Holds S s v → Clean s
  holds_clean s v h x y l =
      ⊎_elim
      (λ (w : WellLaid (memory s) (allocated_in s.table) v). beyond (memory s) (allocated_in s.table) v (sound (memory s) (allocated_in s.table) v w) x y l)
      (λ (b : Bare (memory s) (allocated_in s.table) v). b.zeros x y)
      h.laid

  pub holds_shows : (s : State) (v : Value) → Holds S s v → Shows (memory s) (allocated_in s.table) 0 0 v
  holds_shows s v h =
      ⊎_elim
      (λ (w : WellLaid (memory s) (allocated_in s.table) v). w.shown)
      (λ (b : Bare (memory s) (allocated_in s.table) v). subst (λ (u : Value). Shows (memory s) (allocated_in s.table) 0 0 u) (sym b.no_tree) (b.zeros 0 0))
      h.laid

  pub holds_small : (s : State) (v : Value) → Holds S s v → (x : ℕ) → allocated_in s.table x ≤ 2 ^ 29
  holds_small s v h x = let b = bounded_small S s.table x h.stands.bounded in omega arith

  -- what is prepared after the root word is prepared from the start
  pub prepared_from : (s s₁ s₂ : State) (q : ℕ × ℕ) → Went S root s q s₁ → memory s₁ ≡ memory s → Prepared s₁ s₂ → Prepared s s₂
  prepared_from s s₁ s₂ q w same p =
      let more : (x : ℕ) → allocated_in s.table x ≤ allocated_in s₁.table x = went_grown S root s s₁ q w after_root in
      record {
        kept = λ x y h. p.kept x y (omega (arith, more x)) ∙ ap (λ (H : Memory). H x y) same;
        clean = p.clean;
        grown = λ x. omega (arith, more x, p.grown x);
        sized = p.sized;
      }

  -- ## The law

  met_at : (s : State) (v : Value) (c : Call) (met : List ℕ) (y : Reply) (s' : State) → Lawful S s v c met y s' → Lawful S s v c (met_in s s') y s'
  met_at s v c met y s' h = subst (λ (l : List ℕ). Lawful S s v c l y s') ((tables X).met_is S s v c met y s' h) h

  pub lawful_rejected : (s : State) (v : Value) (c : Call) (y : Reply) → Typed c.edit → Holds S s v → judge v c ≡ wrong y.says → Lawful S s v c (met_in s s) y s
  lawful_rejected s v c y t h e = met_at s v c [] y s ((exact X).rejects S s v c y t h e)

  pub lawful_accepted : (s : State) (v : Value) (c : Call) (y : Reply) (s' : State) (p : ℕ × ℕ) → Typed c.edit → Holds S s v → judge v c ≡ fine →
      Went S (λ r. call_outcome (memory s) v r c) s (record { words = memory s'; pair = p }) s' → (x : X) × (S x ≡ s'.source) →
      y.says ≡ reply c.edit (effect c.edit (value_at v c.path)) → PairIs y.says y.pair p → Lawful S s v c (met_in s s') y s'
  lawful_accepted s v c y s' p t h j w x says pair =
      met_at s v c w.met y s'
      ((exact X).accepts S s v c w.met y s' (room_of s'.table [] ([] ++ w.asked)) (record { words = memory s'; pair = p })
      (record {
        typed = t;
        before = h;
        judged_fine = j;
        outcome = ap (λ (l : List ℕ). call_outcome (memory s) v (room s.table l) c) (sym (append-nil w.met)) ∙ w.rule [] [];
        all_used = refl;
        granted = w.granted;
        table_is = refl;
        valued = x;
        words_are = refl;
        says_is = says;
        pair_is = pair;
      }))

  pub lawful_crowded : {E : Type 0} (s : State) (v : Value) (c : Call) (y : Reply) (s' : State) (e : NoSpace E) → Typed c.edit → Holds S s v → judge v c ≡ fine →
      Performs S s v c (Err e) s' → (x : X) × (S x ≡ s'.source) → y.says ≡ refused 11 → y.minimum ≡ e.minimum → Lawful S s v c (met_in s s') y s'
  lawful_crowded s v c y s' e t h j b x says least =
      let f = b.0 in
      met_at s v c f.met y s'
      ((exact X).crowds S s v c f.met y s' (room_of f.reached [] ([] ++ f.asked))
      (record {
        typed = t;
        before = h;
        judged_fine = j;
        outcome = f.rule [] ∙ ap (λ (n : ℕ). no_space (room_of f.reached [] ([] ++ f.asked)) n) (sym least);
        all_used = refl;
        granted = f.granted;
        no_more = ⊎_elim (λ (k : length s'.table ≡ 64). inl k) (λ (k : s'.source.offers e.minimum ≡ None). inr (ap s'.source.offers least ∙ k)) f.no_more;
        segments_are = b.2;
        table_is = b.1;
        valued = x;
        says_is = says;
      }))

pub whole_calls : (X E : Type 0) → WholeCallsKeepTheLaw X E
whole_calls X E = record { rejected = lawful_rejected; accepted = λ S s v c y s' p. lawful_accepted S s v c y s' (spot_of p); crowded = λ S. lawful_crowded S {E = E} }
