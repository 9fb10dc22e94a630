-- What holds of every list of calls on a draft.
use mathlib.Core.Path.{◌≡◌, refl, sym, ◌∙◌, ap, subst}
use mathlib.Core.List.{List, [], ◌∷◌}
use Prim.Native.Nat.{ℕ}
use Rattle.tree.specs.Value.{Value, null}
use Rattle.tree.specs.Decode.{Deep}
use Rattle.law.specs.Law.{Source, State, Holds, Begun, Reply}
use Rattle.law.specs.Runs.{Event, Run, last, Fed, feed, tree, answers, replies, FollowsAlong}
use Rattle.law.proofs.Drafts.{begun_holds, holds_decoded}
use Rattle.law.proofs.Nesting.{step_deep}
use Rattle.law.proofs.Tables.{first_kept}
use Rattle.law.proofs.Runs.{follows_along, fed_alike}
use Rattle.sessions.specs.Sessions.{Deed, edit, ask, deed_step, whole_machine, ByLaw, sessions, tree_after, decoded, SessionsStand}

module _ {X : Type 0} (S : Source X) where
  answered : (s : State) (v : Value) (d : Deed) (y : Reply) (s' : State) → ByLaw S s v d y s' → y.says ≡ (deed_step v d ((sessions S).told y)).0
  answered s v (edit c) y s' h = h.answer
  answered s v (ask p q) y s' h = h.answer

  held : (s : State) (v : Value) (d : Deed) (y : Reply) (s' : State) → ByLaw S s v d y s' → Holds S s' (deed_step v d ((sessions S).told y)).1
  held s v (edit c) y s' h = h.after
  held s v (ask p q) y s' h = subst (λ (k : State). Holds S k v) (sym h.same) h.before

  along : FollowsAlong (sessions S) (Holds S)
  along = follows_along (sessions S) (Holds S) (record { answer_is = answered; holds_after = held })

  pub session_holds : (s : State) (v : Value) (es : List (Event (sessions S))) → Holds S s v → Run (sessions S) s v es →
      Holds S (last (sessions S) s es) (tree whole_machine v (feed (sessions S) es))
  session_holds s v es h r = along.ends s v es h r

  pub session_answers : (s : State) (v : Value) (es : List (Event (sessions S))) → Run (sessions S) s v es → replies (sessions S) es ≡ answers whole_machine v (feed (sessions S) es)
  session_answers s v es r = along.told_so s v es r

  pub session_decoded : (s : State) (es : List (Event (sessions S))) → Begun S s → Run (sessions S) s null es → decoded S s es ≡ tree_after S es
  session_decoded s es b r = holds_decoded S (last (sessions S) s es) _ (along.ends s null es (begun_holds S s b) r)

  kept_first : (s : State) (v : Value) (d : Deed) (y : Reply) (s' : State) → ByLaw S s v d y s' → s'.source.first_offers ≡ s.source.first_offers
  kept_first s v (edit c) y s' h = first_kept S s v c _ y s' h
  kept_first s v (ask p q) y s' h = ap (λ (k : State). k.source.first_offers) h.same

  first_stay : (s : State) (v : Value) (es : List (Event (sessions S))) → Run (sessions S) s v es →
      (last (sessions S) s es).source.first_offers ≡ s.source.first_offers
  first_stay s v [] r = refl
  first_stay s v (e ∷ es) r = first_stay e.after _ es r.1 ∙ kept_first s v e.call e.reply e.after r.0

deed_deep : (v : Value) (d : Deed) (told : ℕ) → Deep 64 v → Deep 64 (deed_step v d told).1
deed_deep v (edit c) told n = step_deep v c told n
deed_deep v (ask p q) told n = n

tree_deep : (fs : List (Fed whole_machine)) (v : Value) → Deep 64 v → Deep 64 (tree whole_machine v fs)
tree_deep [] v n = n
tree_deep (f ∷ fs) v n = tree_deep fs _ (deed_deep v f.call f.ruling n)

pub sessions_stand : (X Y : Type 0) → SessionsStand X Y
sessions_stand X Y = record {
  ends = λ S s es b r. ((along S).ends s null es (begun_holds S s b) r, session_decoded S s es b r, (along S).told_so s null es r);
  agree = λ S T s t es fs b c r q e n k.
      let same : feed (sessions S) es ≡ feed (sessions T) fs = fed_alike (sessions S) (sessions T) es fs e n k in (
        (along S).told_so s null es r ∙ ap (answers whole_machine null) same ∙ sym ((along T).told_so t null fs q),
        session_decoded S s es b r ∙ ap (tree whole_machine null) same ∙ sym (session_decoded T t fs c q),
      );
  nesting = λ fs. tree_deep fs null tt;
  first_offers_stay = first_stay;
}
