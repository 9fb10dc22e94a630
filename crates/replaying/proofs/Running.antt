-- Runs that go on: one call more at the end.
use Rattle.std.proofs.Common.{◌≡◌, ℕ, ◌+◌, ◌<◌, List, [], ◌∷◌, ◌++◌, length, get_or, take, set, Result, sym, refl, ap, ◌∙◌, subst, arith}
use Rattle.std.proofs.lemmas.List.{take_all, take_more_set, map_more, map_push}
use Rattle.tree.specs.Value.{Value}
use Rattle.law.specs.Law.{Source, State, Holds}
use Rattle.law.specs.Law as law
use Rattle.law.specs.Runs.{Machine, Play, Event, Run, last, feed, tree, calls}
use Rattle.sessions.specs.Sessions.{Deed, ByLaw, whole_machine, sessions}
use Rattle.sessions.proofs.Sessions.{session_holds}
use Rattle.replaying.specs.declared.calls.Call.{Call}
use Rattle.replaying.specs.declared.reply.Answer.{Answer}
use Rattle.replaying.specs.declared.reply.Refusal.{Refusal}
use Rattle.replaying.specs.Calls.{deed_of, deeds_of, reply_of, replies_of}
use Rattle.replaying.specs.Replays.{Plays, Replayed}

module _ {m : Machine} (p : Play m) where
  run_more : (s : p.State) (v : m.Tree) (es : List (Event p)) (e : Event p) → Run p s v es → p.law (last p s es) (tree m v (feed p es)) e.call e.reply e.after →
      Run p s v (es ++ (e ∷ []))
  run_more s v [] e r l = (l, tt)
  run_more s v (a ∷ es) e r l = (r.0, run_more a.after _ es e r.1 l)

  last_more : (s : p.State) (es : List (Event p)) (e : Event p) → last p s (es ++ (e ∷ [])) ≡ e.after
  last_more s [] e = refl
  last_more s (a ∷ es) e = last_more a.after es e

  calls_more : (es : List (Event p)) (e : Event p) → calls p (es ++ (e ∷ [])) ≡ calls p es ++ (e.call ∷ [])
  calls_more [] e = refl
  calls_more (a ∷ es) e = ap (λ l. a.call ∷ l) (calls_more es e)

module _ {X : Type 0} (S : Source X) (s : State) (v : Value) where
  pub replayed_none : Replayed S s v [] [] s
  replayed_none = record { events = []; run = tt; calls_are = refl; replies_are = refl; ends = refl }

  pub replayed_more : (ds : List Deed) (ys : List law.Reply) (s₁ s₂ : State) (d : Deed) (y : law.Reply) → Holds S s v → Replayed S s v ds ys s₁ → Plays S s₁ d y s₂ →
      Replayed S s v (ds ++ (d ∷ [])) (ys ++ (y ∷ [])) s₂
  replayed_more ds ys s₁ s₂ d y h r p =
      let es : List (Event (sessions S)) = r.events in
      let e : Event (sessions S) = record { call = d; reply = y; after = s₂ } in
      let held : Holds S s₁ (tree whole_machine v (feed (sessions S) es)) = subst (λ (k : State). Holds S k (tree whole_machine v (feed (sessions S) es))) r.ends (session_holds S s v es h r.run) in
      let one : ByLaw S (last (sessions S) s es) (tree whole_machine v (feed (sessions S) es)) d y s₂ =
      subst (λ (k : State). ByLaw S k (tree whole_machine v (feed (sessions S) es)) d y s₂) (sym r.ends) (p _ held) in
      record {
        events = es ++ (e ∷ []);
        run = run_more (sessions S) s v es e r.run one;
        calls_are = calls_more (sessions S) es e ∙ ap (λ (l : List Deed). l ++ (d ∷ [])) r.calls_are;
        replies_are = map_push (λ (z : Event (sessions S)). z.reply) es e ∙ ap (λ (l : List law.Reply). l ++ (y ∷ [])) r.replies_are;
        ends = last_more (sessions S) s es e;
      }

-- ## Lists of calls and replies

pub replay_step : {X : Type 0} (S : Source X) (s s₁ s₂ : State) (v : Value) (cs : List Call) (ys : List (Result Answer Refusal)) (i : ℕ) (c : Call) (y : Result Answer Refusal) →
    Holds S s v → i < length cs → i < length ys → c ≡ get_or cs i c →
    Replayed S s v (deeds_of (take i cs)) (replies_of (take i ys)) s₁ → Plays S s₁ (deed_of c) (reply_of y) s₂ →
    Replayed S s v (deeds_of (take (i + 1) cs)) (replies_of (take (i + 1) (set ys i y))) s₂
replay_step S s s₁ s₂ v cs ys i c y h hc hy is r p =
    let e : deeds_of (take (i + 1) cs) ≡ deeds_of (take i cs) ++ (deed_of c ∷ []) =
    map_more deed_of cs i c hc ∙ ap (λ (k : Call). deeds_of (take i cs) ++ (deed_of k ∷ [])) (sym is) in
    let f : replies_of (take (i + 1) (set ys i y)) ≡ replies_of (take i ys) ++ (reply_of y ∷ []) = ap replies_of (take_more_set ys i y hy) ∙ map_push reply_of (take i ys) y in
    subst (λ (l : List Deed). Replayed S s v l (replies_of (take (i + 1) (set ys i y))) s₂) (sym e)
    (subst (λ (l : List law.Reply). Replayed S s v (deeds_of (take i cs) ++ (deed_of c ∷ [])) l s₂) (sym f) (replayed_more S s v _ _ s₁ s₂ _ _ h r p))

-- all of them
pub replay_whole : {X : Type 0} (S : Source X) (s s₁ : State) (v : Value) (cs : List Call) (ys : List (Result Answer Refusal)) (i : ℕ) → i ≡ length cs →
    Replayed S s v (deeds_of (take i cs)) (replies_of (take i ys)) s₁ → Replayed S s v (deeds_of cs) (replies_of (take (length cs) ys)) s₁
replay_whole S s s₁ v cs ys i e r =
    let f : take i cs ≡ cs = ap (λ (k : ℕ). take k cs) e ∙ take_all (length cs) cs (omega arith) in
    subst (λ (l : List Call). Replayed S s v (deeds_of l) (replies_of (take (length cs) ys)) s₁) f
    (subst (λ (k : ℕ). Replayed S s v (deeds_of (take i cs)) (replies_of (take k ys)) s₁) e r)
