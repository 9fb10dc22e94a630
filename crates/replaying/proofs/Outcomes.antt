-- What follows of a run from a new draft, and of two runs of one list.
use Rattle.std.proofs.Common.{◌≡◌, true, List, [], ◌∷◌, map, Ok, Err, Result, sym, refl, ap, ◌∙◌, subst, ap₂}
use Rattle.std.specs.Result.{is_ok, OnOk, OnErr}
use Rattle.std.proofs.lemmas.Bool.{true≢false}
use Rattle.tree.specs.Value.{Value, null}
use Rattle.law.specs.Law.{Source, State, Reply, told, Holds, Begun}
use Rattle.law.specs.Runs.{Event, Fed, feed, tree, calls, answers, replies, Untold}
use Rattle.law.proofs.Drafts.{begun_holds, holds_decoded}
use Rattle.law.proofs.Runs.{fed_alike}
use Rattle.sessions.specs.Sessions.{Deed, whole_machine, sessions}
use Rattle.sessions.proofs.Sessions.{session_holds, session_answers}
use Rattle.replaying.specs.Replays.{Replayed, fed, Built, Uncrowded, Agreed}

-- of a success
pub ok_run : {P T E : Type 0} (r : Result T E) → is_ok r ≡ true → OnOk r P → P
ok_run (Ok x) e h = h
ok_run (Err y) e h = absurd (true≢false (sym e))

pub no_err : {T E : Type 0} (P : Type 0) (r : Result T E) → is_ok r ≡ true → OnErr r P
no_err P (Ok x) e = tt
no_err P (Err y) e = absurd (true≢false (sym e))

module _ {X : Type 0} (S : Source X) where
  feed_is : (es : List (Event (sessions S))) → feed (sessions S) es ≡ fed (calls (sessions S) es) (map (λ e. e.reply) es)
  feed_is [] = refl
  feed_is (e ∷ es) = ap (λ l. record { call = e.call; ruling = told e.reply.says } ∷ l) (feed_is es)

  says_are : (es : List (Event (sessions S))) → replies (sessions S) es ≡ map (λ y. y.says) (map (λ e. e.reply) es)
  says_are [] = refl
  says_are (e ∷ es) = ap (λ l. e.reply.says ∷ l) (says_are es)

  untold_are : (es : List (Event (sessions S))) → Uncrowded (map (λ e. e.reply) es) → Untold (sessions S) es
  untold_are [] n = tt
  untold_are (e ∷ es) n = (n.0, untold_are es n.1)

  module _ (s s' : State) (v : Value) (ds : List Deed) (ys : List Reply) (h : Holds S s v) (r : Replayed S s v ds ys s') where
    fed_is : feed (sessions S) r.events ≡ fed ds ys
    fed_is = feed_is r.events ∙ ap₂ fed r.calls_are r.replies_are

    held : Holds S s' (tree whole_machine v (feed (sessions S) r.events))
    held = subst (λ (k : State). Holds S k (tree whole_machine v (feed (sessions S) r.events))) r.ends (session_holds S s v r.events h r.run)

    pub replayed_holds : Holds S s' (tree whole_machine v (fed ds ys))
    replayed_holds = subst (λ (l : List (Fed whole_machine)). Holds S s' (tree whole_machine v l)) fed_is held

    pub replayed_answers : map (λ y. y.says) ys ≡ answers whole_machine v (fed ds ys)
    replayed_answers =
        sym (ap (map (λ (y : Reply). y.says)) r.replies_are) ∙
        (sym (says_are r.events) ∙ (session_answers S s v r.events r.run ∙ ap (answers whole_machine v) fed_is))

  pub built : (s s' : State) (ds : List Deed) (ys : List Reply) → Begun S s → Replayed S s null ds ys s' → Built S ds ys s'
  built s s' ds ys b r =
      let h : Holds S s null = begun_holds S s b in
      let k = replayed_holds s s' null ds ys h r in
      record {
        start = s;
        begun = b;
        replayed = r;
        holds = k;
        decodes = holds_decoded S s' _ k;
        answers_are = replayed_answers s s' null ds ys h r;
      }

module _ {X Y : Type 0} (S : Source X) (T : Source Y) (s s' t t' : State) (v : Value) (ds : List Deed) (ys zs : List Reply)
    (h : Holds S s v) (k : Holds T t v) (p : Replayed S s v ds ys s') (q : Replayed T t v ds zs t') where
  pub agreed : Uncrowded ys → Uncrowded zs → Agreed S T ys zs s' t'
  agreed n m =
      let same : feed (sessions S) p.events ≡ feed (sessions T) q.events =
      fed_alike (sessions S) (sessions T) p.events q.events (p.calls_are ∙ sym q.calls_are)
      (untold_are S p.events (subst Uncrowded (sym p.replies_are) n))
      (untold_are T q.events (subst Uncrowded (sym q.replies_are) m)) in
      let alike : fed ds ys ≡ fed ds zs = sym (fed_is S s s' v ds ys h p) ∙ (same ∙ fed_is T t t' v ds zs k q) in
      let a = replayed_holds S s s' v ds ys h p in
      let b = subst (λ (l : List (Fed whole_machine)). Holds T t' (tree whole_machine v l)) (sym alike) (replayed_holds T t t' v ds zs k q) in
      record {
        same_answers = replayed_answers S s s' v ds ys h p ∙ (ap (answers whole_machine v) alike ∙ sym (replayed_answers T t t' v ds zs k q));
        common = tree whole_machine v (fed ds ys);
        first_holds = a;
        second_holds = b;
        same_words = holds_decoded S s' _ a ∙ sym (holds_decoded T t' _ b);
      }
