-- What follows from the law of a call for tables and refusals.
use Rattle.std.proofs.Common.{◌≡◌, ℕ, zero, suc, ◌≤◌, List, [], ◌∷◌, ◌++◌, get_or, replicate, sym, refl, ap, ◌∙◌, subst, arith}
use mathlib.Core.Path.{fun_ext}
use Rattle.tree.specs.Value.{Value, null, object, value_at}
use Rattle.tree.specs.Words.{word}
use Rattle.table.specs.Segments.{allocated_in, capacities}
use Rattle.table.specs.Placing.{Room, room, Outcome, got, no_space}
use Rattle.table.specs.Laws.{After}
use Rattle.std.proofs.lemmas.List.{append-nil}
use Rattle.std.proofs.Math.Seq.{drop-append_seam}
use Rattle.table.proofs.Tables.{capacities_length, capacities_append, capacities_fresh, append_more, append_fresh}
use Rattle.law.specs.Calls.{Edit, init_struct, init_list, init_rows, get_struct, get_rows, text, clear, write, Call, Refusal}
use Rattle.law.specs.Machine.{Verdict, fine, wrong, judge, judged, reply, effect}
use Rattle.law.specs.Exact.{Written}
use Rattle.law.specs.Law.{Source, State, memory, Meaning, Granted, zero_segments, met_in, Reply, told, Placing, Lawful}
use Rattle.law.specs.Drafts.{TablesStand}
use Rattle.law.proofs.Rooms.{after_call}

-- ## Zero segments

zero_read : (n w : ℕ) → ◌≡◌ {A = ℕ} (get_or (replicate n 0) w 0) 0
zero_read zero w = refl
zero_read (suc n) zero = refl
zero_read (suc n) (suc w) = zero_read n w

zeros_read : (cs : List ℕ) (g w : ℕ) → get_or (get_or (zero_segments cs) g []) w 0 ≡ 0
zeros_read [] g w = refl
zeros_read (c ∷ cs) zero w = zero_read c w
zeros_read (c ∷ cs) (suc g) w = zeros_read cs g w

more_read : (m : List (List ℕ)) (cs : List ℕ) (g w : ℕ) → get_or (get_or (m ++ zero_segments cs) g []) w 0 ≡ get_or (get_or m g []) w 0
more_read [] cs g w = zeros_read cs g w
more_read (l ∷ m) cs zero w = refl
more_read (l ∷ m) cs (suc g) w = more_read m cs g w

pub same_memory : (m : List (List ℕ)) (cs : List ℕ) → word (m ++ zero_segments cs) ≡ word m
unfolding word
same_memory m cs = fun_ext (λ g. fun_ext (λ w. more_read m cs g w))

-- ## Answers

pub accepted_no_refusal : (e : Edit) (u : Value) → Refusal (reply e u) → ⊥
accepted_no_refusal (init_struct dw pw) null h = h
accepted_no_refusal (init_struct dw pw) (object sh dat kid) h = h
accepted_no_refusal (init_list code n) null h = h
accepted_no_refusal (init_list code n) (object sh dat kid) h = h
accepted_no_refusal (init_rows n dw pw) null h = h
accepted_no_refusal (init_rows n dw pw) (object sh dat kid) h = h
accepted_no_refusal (get_struct dw pw) null h = h
accepted_no_refusal (get_struct dw pw) (object sh dat kid) h = h
accepted_no_refusal (get_rows dw pw) null h = h
accepted_no_refusal (get_rows dw pw) (object sh dat kid) h = h
accepted_no_refusal (text bytes) u h = h
accepted_no_refusal clear u h = h
accepted_no_refusal (write k code i x) u h = h

module _ {X : Type 0} (S : Source X) where
  pub granted_first : (from to : Meaning) (ms cs : List ℕ) → Granted S from ms cs to → to.first_offers ≡ from.first_offers
  granted_first from to [] [] h = h.2
  granted_first from to [] (c ∷ cs) h = absurd h
  granted_first from to (m ∷ ms) [] h = absurd h
  granted_first from to (m ∷ ms) (c ∷ cs) h = granted_first (S h.1.0) to ms cs h.1.4 ∙ h.1.3

  -- ## By what the judge says and placing gives

  module _ (s : State) (v : Value) (c : Call) (met : List ℕ) (y : Reply) (s' : State) where
    abbrev start : Room
    start = room s.table met

    kept_by : (d : Verdict) (o : Outcome Written) → After start o → Placing S s v c met y s' d o → capacities s'.table ≡ capacities s.table ++ met
    unfolding After
    kept_by (wrong a) o h p = rw (p.same, p.no_grant) (sym (append-nil _))
    kept_by fine (got r w) h p = rw p.table_is (sym (append-nil _) ∙ ap (λ l. capacities r.table ++ l) (sym p.all_used) ∙ h.capacities_same)
    kept_by fine (no_space r m) h p =
        rw p.back.table_is (capacities_append s.table _ ∙ ap (λ l. capacities s.table ++ l) (capacities_fresh met))

    grow_by : (d : Verdict) (o : Outcome Written) → After start o → Placing S s v c met y s' d o → (g : ℕ) → allocated_in s.table g ≤ allocated_in s'.table g
    unfolding After
    grow_by (wrong a) o h p g = rw p.same (omega arith)
    grow_by fine (got r w) h p g = rw p.table_is (h.grown g)
    grow_by fine (no_space r m) h p g = rw p.back.table_is (append_more s.table _ g)

    refuse_by : (d : Verdict) (o : Outcome Written) → y.says ≡ (judged v c (told y.says) d).0 → Placing S s v c met y s' d o → Refusal y.says →
        (memory s' ≡ memory s) × ((g : ℕ) → allocated_in s'.table g ≡ allocated_in s.table g)
    refuse_by (wrong a) o e p q = (ap memory p.same, λ g. ap (λ t. allocated_in t.table g) p.same)
    refuse_by fine (got r w) e p q =
        let f : y.says ≡ (judged v c 0 fine).0 = subst (λ b. y.says ≡ (judged v c b fine).0) p.untold e in
        absurd (accepted_no_refusal c.edit (effect c.edit (value_at v c.path)) (subst Refusal f q))
    refuse_by fine (no_space r m) e p q =
        (ap word p.back.segments_are ∙ same_memory s.source.segments met, λ g. rw p.back.table_is (append_fresh s.table met g))

    first_by : (d : Verdict) (o : Outcome Written) → Placing S s v c met y s' d o → s'.source.first_offers ≡ s.source.first_offers
    first_by (wrong a) o p = ap (λ t. t.source.first_offers) p.same
    first_by fine (got r w) p = granted_first s.source s'.source r.asked met p.granted
    first_by fine (no_space r m) p = granted_first s.source s'.source r.asked met p.back.granted

  met_by : (s s' : State) (met : List ℕ) → capacities s'.table ≡ capacities s.table ++ met → met ≡ met_in s s'
  met_by s s' met e = rw (e, ← capacities_length s.table) (sym (drop-append_seam (capacities s.table) met))

  kept : (s : State) (v : Value) (c : Call) (met : List ℕ) (y : Reply) (s' : State) → Lawful S s v c met y s' → capacities s'.table ≡ capacities s.table ++ met
  kept s v c met y s' h = kept_by s v c met y s' (judge v c) _ (after_call (memory s) v (room s.table met) c) h.placing

  pub first_kept : (s : State) (v : Value) (c : Call) (met : List ℕ) (y : Reply) (s' : State) → Lawful S s v c met y s' →
      s'.source.first_offers ≡ s.source.first_offers
  first_kept s v c met y s' h = first_by s v c met y s' (judge v c) _ h.placing

pub tables : (X : Type 0) → TablesStand X
tables X = record {
  met_is = λ S s v c met y s' h. met_by S s s' met (kept S s v c met y s' h);
  capacities_kept = kept;
  counts_grow = λ S s v c met y s' h. grow_by S s v c met y s' (judge v c) _ (after_call (memory s) v (room s.table met) c) h.placing;
  refusals_change_nothing = λ S s v c met y s' h. refuse_by S s v c met y s' (judge v c) _ h.answer h.placing;
}
