-- After a call table and source fit together again: all follows from the outcome and the grants.
use Rattle.std.proofs.Common.{◌≡◌, ℕ, ◌+◌, eqb, List, [], ◌∷◌, ◌++◌, length, sym, ap, ◌∙◌, subst, arith}
use Rattle.wire.specs.Pointers.{pointer_kind}
use Rattle.tree.specs.Value.{Shape, Value, null, object, rows, pointers, size, slot, value_at}
use Rattle.tree.specs.Shows.{Memory, Landing, land, walk}
use Rattle.table.specs.Segments.{Table, capacities, all_fresh, Bounded}
use Rattle.table.specs.Placing.{Room, room, got, no_space, pad, root}
use Rattle.table.specs.Laws.{Later, After}
use Rattle.std.proofs.lemmas.List.{append-nil, append_assoc}
use Rattle.table.proofs.Tables.{capacities_length, capacities_append, capacities_fresh}
use Rattle.table.proofs.Bounds.{firsts, seconds, Fair, Fits, Ends, fresh_bounded, ends_got, ends_then, ends_if, ends_each, ends_place, ends_pad, ends_root}
use Rattle.law.specs.Calls.{Call}
use Rattle.law.specs.Machine.{Making, keep, wipe, set, new, spell, rebuild, making, text_shape}
use Rattle.law.specs.Exact.{Written, no_words, place_shape, moved, moves, rebuilds, makes, call_outcome}
use Rattle.law.specs.Law.{Meaning, Offered, lengths, Source, State, memory, Stands, Granted}
use Rattle.law.proofs.Rooms.{after_call}
use Rattle.law.proofs.Tables.{granted_first}

-- ## The room of a call

ends_shape : (r : Room) (g w : ℕ) (sh : Shape) → Ends r (place_shape r g w sh)
ends_shape r g w sh = ends_if r (no_words sh) _ _ (λ _. ends_got r (g, w)) (ends_place r g (size sh))

ends_moved : (g w s q : ℕ) (r : Room) (H : Memory) → Ends r (moved g w s q r H)
unfolding moved
ends_moved g w s q r H =
    ends_if r (eqb (H g w) 0) _ _ (λ _. ends_got r H)
    (ends_if r (eqb (pointer_kind (H g w)) 2) _ _ (λ _. ends_got r _)
    (ends_if r (eqb s g) _ _ (λ _. ends_got r _) (ends_then r (pad r g) _ (ends_pad r g) (λ r' p. ends_got r' _))))

ends_moves : (l : Landing) (sh : Shape) (s t : ℕ) (sh' : Shape) (r : Room) (H : Memory) → Ends r (moves l sh s t sh' r H)
ends_moves l sh s t sh' r H =
    ends_each (rows sh) _ r H
    (λ i r₁ H₁. ends_each (pointers sh) _ r₁ H₁ (λ j r₂ H₂. ends_moved l.seg (l.pos + slot sh i j) s (t + slot sh' i j) r₂ H₂))

ends_rebuilds : (H : Memory) (g w : ℕ) (l : Landing) (u : Value) (sh' : Shape) (r : Room) → Ends r (rebuilds H g w l u sh' r)
ends_rebuilds H g w l null sh' r = ends_got r _
ends_rebuilds H g w l (object sh dat kid) sh' r =
    ends_then r (place_shape r g w sh') _ (ends_shape r g w sh')
    (λ r₁ p. ends_then r₁ _ _ (ends_moves l sh p.0 p.1 sh' r₁ _) (λ r₂ N. ends_got r₂ _))

ends_makes : (H : Memory) (g w : ℕ) (u : Value) (m : Making) (r : Room) → Ends r (makes H g w u m r)
ends_makes H g w u keep r = ends_got r _
ends_makes H g w u wipe r = ends_got r _
ends_makes H g w u (set i k x) r = ends_got r _
ends_makes H g w u (new sh) r = ends_then r (place_shape r g w sh) _ (ends_shape r g w sh) (λ r' p. ends_got r' _)
ends_makes H g w u (spell bytes) r =
    ends_then r (place_shape r g w (text_shape bytes)) _ (ends_shape r g w (text_shape bytes)) (λ r' p. ends_got r' _)
ends_makes H g w u (rebuild sh) r = ends_rebuilds H g w (land H g w) u sh r

ends_call : (H : Memory) (v : Value) (r : Room) (c : Call) → Ends r (call_outcome H v r c)
unfolding call_outcome
ends_call H v r c =
    ends_then r (root r) _ (ends_root r)
    (λ r₁ _. ends_makes H (walk H 0 0 v c.path).0 (walk H 0 0 v c.path).1 (value_at v c.path) (making c.edit (value_at v c.path)) r₁)

call_fits : (H : Memory) (v : Value) (t : Table) (met : List ℕ) (c : Call) (r : Room) (x : Written) → call_outcome H v (room t met) c ≡ got r x → Fits (room t met) r
unfolding Ends
call_fits H v t met c r x e = subst (Ends (room t met)) e (ends_call H v (room t met) c)

crowded_fits : (H : Memory) (v : Value) (t : Table) (met : List ℕ) (c : Call) (r : Room) (m : ℕ) → call_outcome H v (room t met) c ≡ no_space r m → Fits (room t met) r
unfolding Ends
crowded_fits H v t met c r m e = subst (Ends (room t met)) e (ends_call H v (room t met) c)

call_later : (H : Memory) (v : Value) (t : Table) (met : List ℕ) (c : Call) (r : Room) (x : Written) → call_outcome H v (room t met) c ≡ got r x → Later (room t met) r
unfolding After
call_later H v t met c r x e = subst (After (room t met)) e (after_call H v (room t met) c)

crowded_later : (H : Memory) (v : Value) (t : Table) (met : List ℕ) (c : Call) (r : Room) (m : ℕ) → call_outcome H v (room t met) c ≡ no_space r m → Later (room t met) r
unfolding After
crowded_later H v t met c r m e = subst (After (room t met)) e (after_call H v (room t met) c)

-- ## The grants

module _ {X : Type 0} (S : Source X) where
  granted_offered : (from to : Meaning) (ms cs : List ℕ) → Offered from.offers → Granted S from ms cs to → Offered to.offers
  granted_offered from to [] [] o h = subst Offered (sym h.1) o
  granted_offered from to [] (c ∷ cs) o h = absurd h
  granted_offered from to (m ∷ ms) [] o h = absurd h
  granted_offered from to (m ∷ ms) (c ∷ cs) o h = granted_offered (S h.1.0) to ms cs h.1.2 h.1.4

  pub granted_lengths : (from to : Meaning) (ms cs : List ℕ) → Granted S from ms cs to → lengths to ≡ lengths from ++ cs
  granted_lengths from to [] [] h = h.0 ∙ sym (append-nil (lengths from))
  granted_lengths from to [] (c ∷ cs) h = absurd h
  granted_lengths from to (m ∷ ms) [] h = absurd h
  granted_lengths from to (m ∷ ms) (c ∷ cs) h =
      granted_lengths (S h.1.0) to ms cs h.1.4 ∙ ap (λ l. l ++ cs) h.1.1 ∙ append_assoc (lengths from) (c ∷ []) cs

  granted_fair : (from to : Meaning) (gs : List (ℕ × ℕ)) → Offered from.offers → Granted S from (firsts gs) (seconds gs) to → Fair gs
  granted_fair from to [] o h = tt
  granted_fair from to (g ∷ gs) o h =
      let q = o g.0 g.1 h.0 in
      (omega (arith, q.0, q.1), q.1, q.2, granted_fair (S h.1.0) to gs h.1.2 h.1.4)

  fair_by : (s s' : State) (met : List ℕ) (r : Room) → Stands S s → (f : Fits (room s.table met) r) → r.coming ≡ [] →
      Granted S s.source r.asked met s'.source → Fair f.grants
  fair_by s s' met r st f used g =
      let all : met ≡ seconds f.grants = f.coming_is ∙ ap (λ l. seconds f.grants ++ l) used ∙ append-nil (seconds f.grants) in
      granted_fair s.source s'.source f.grants st.offered
      (subst (λ l. Granted S s.source (firsts f.grants) l s'.source) all (subst (λ l. Granted S s.source l met s'.source) f.asked_is g))

  sized_by : (s s' : State) (met : List ℕ) (r : Room) → Stands S s → Granted S s.source r.asked met s'.source →
      lengths s'.source ≡ capacities s.table ++ met
  sized_by s s' met r st g = granted_lengths s.source s'.source r.asked met g ∙ ap (λ l. l ++ met) st.sizes_match

  pub stands_accepted : (s : State) (v : Value) (c : Call) (met : List ℕ) (s' : State) (r : Room) (x : Written) → Stands S s →
      call_outcome (memory s) v (room s.table met) c ≡ got r x → r.coming ≡ [] → Granted S s.source r.asked met s'.source → s'.table ≡ r.table →
      (z : X) × (S z ≡ s'.source) → Stands S s'
  stands_accepted s v c met s' r x st e used g tab valued =
      let f : Fits (room s.table met) r = call_fits (memory s) v s.table met c r x e in
      let l : Later (room s.table met) r = call_later (memory s) v s.table met c r x e in
      record {
        valued = valued;
        sizes_match = sized_by s s' met r st g ∙ sym l.capacities_same ∙ ap (λ z. capacities r.table ++ z) used ∙ append-nil (capacities r.table) ∙
            ap capacities (sym tab);
        at_most = rw tab (f.at_most st.at_most);
        bounded = rw tab (f.bounded st.bounded (fair_by s s' met r st f used g));
        offered = granted_offered s.source s'.source r.asked met st.offered g;
        first_offered = subst Offered (sym (granted_first S s.source s'.source r.asked met g)) st.first_offered;
      }

  pub stands_crowded : (s : State) (v : Value) (c : Call) (met : List ℕ) (s' : State) (r : Room) (m : ℕ) → Stands S s →
      call_outcome (memory s) v (room s.table met) c ≡ no_space r m → r.coming ≡ [] → Granted S s.source r.asked met s'.source →
      s'.table ≡ s.table ++ all_fresh met → (z : X) × (S z ≡ s'.source) → Stands S s'
  stands_crowded s v c met s' r m st e used g tab valued =
      let f : Fits (room s.table met) r = crowded_fits (memory s) v s.table met c r m e in
      let l : Later (room s.table met) r = crowded_later (memory s) v s.table met c r m e in
      let all : met ≡ seconds f.grants = f.coming_is ∙ ap (λ z. seconds f.grants ++ z) used ∙ append-nil (seconds f.grants) in
      let caps : capacities (s.table ++ all_fresh met) ≡ capacities s.table ++ met = capacities_append s.table (all_fresh met) ∙ ap (λ z. capacities s.table ++ z) (capacities_fresh met) in
      let last : capacities r.table ≡ capacities s.table ++ met = sym (append-nil (capacities r.table)) ∙ ap (λ z. capacities r.table ++ z) (sym used) ∙ l.capacities_same in
      let long : length (s.table ++ all_fresh met) ≡ length r.table =
      sym (capacities_length (s.table ++ all_fresh met)) ∙ ap length (caps ∙ sym last) ∙ capacities_length r.table in
      record {
        valued = valued;
        sizes_match = sized_by s s' met r st g ∙ sym caps ∙ ap capacities (sym tab);
        at_most = rw (tab, long) (f.at_most st.at_most);
        bounded = rw tab (subst (λ z. Bounded (s.table ++ all_fresh z)) (sym all) (fresh_bounded s.table f.grants st.bounded (fair_by s s' met r st f used g)));
        offered = granted_offered s.source s'.source r.asked met st.offered g;
        first_offered = subst Offered (sym (granted_first S s.source s'.source r.asked met g)) st.first_offered;
      }
