-- Parts of a call, put together one after the other.
use Rattle.std.proofs.Common.{◌≡◌, ℕ, List, [], ◌++◌, sym, ap, ◌∙◌}
use Rattle.table.specs.Segments.{Table, capacities}
use Rattle.table.specs.Placing.{Room, Outcome, got, no_space, then}
use Rattle.std.proofs.lemmas.List.{append-nil, append_assoc}
use Rattle.law.specs.Law.{Source, State}
use Rattle.law.proofs.Grants.{granted_join}
use Rattle.effects.specs.States.{Rewritten}
use Rattle.effects.specs.Parts.{Went, Failed}

-- a room with segments to come
abbrev pub room_of : Table → (coming asked : List ℕ) → Room
room_of t cs as' = record { table = t; coming = cs; asked = as' }

capacities_join : (a b c : List ℕ) (ms ns : List ℕ) → b ≡ a ++ ms → c ≡ b ++ ns → c ≡ a ++ (ms ++ ns)
capacities_join a b c ms ns e f = f ∙ ap (λ (l : List ℕ). l ++ ns) e ∙ append_assoc a ms ns

module _ {X A B : Type 0} (S : Source X) (f : Room → Outcome A) (k : Room → A → Outcome B) where
  pub joins : (s t u : State) (a : A) (b : B) → Went S f s a t → Went S (λ r. k r a) t b u → Went S (λ r. then (f r) k) s b u
  joins s t u a b p q = record {
    met = p.met ++ q.met;
    asked = p.asked ++ q.asked;
    rule = λ later before.
        ap (λ (l : List ℕ). then (f (room_of s.table l before)) k) (append_assoc p.met q.met later) ∙
        (ap (λ (o : Outcome A). then o k) (p.rule (q.met ++ later) before) ∙
        (q.rule later (before ++ p.asked) ∙
        ap (λ (l : List ℕ). got (room_of u.table later l) b) (append_assoc before p.asked q.asked)));
    granted = granted_join S s.source t.source u.source p.asked q.asked p.met q.met p.granted q.granted;
    capacities_are = capacities_join (capacities s.table) (capacities t.table) (capacities u.table) p.met q.met p.capacities_are q.capacities_are;
  }

  pub fails_first : (s t : State) (m : ℕ) → Failed S f s m t → Failed S (λ r. then (f r) k) s m t
  fails_first s t m p = record {
    met = p.met;
    asked = p.asked;
    reached = p.reached;
    rule = λ before. ap (λ (o : Outcome A). then o k) (p.rule before);
    granted = p.granted;
    capacities_are = p.capacities_are;
    no_more = p.no_more;
  }

  pub fails_later : (s t u : State) (a : A) (m : ℕ) → Went S f s a t → Failed S (λ r. k r a) t m u → Failed S (λ r. then (f r) k) s m u
  fails_later s t u a m p q = record {
    met = p.met ++ q.met;
    asked = p.asked ++ q.asked;
    reached = q.reached;
    rule = λ before.
        ap (λ (o : Outcome A). then o k) (p.rule q.met before) ∙
        (q.rule (before ++ p.asked) ∙
        ap (λ (l : List ℕ). no_space (room_of q.reached [] l) m) (append_assoc before p.asked q.asked));
    granted = granted_join S s.source t.source u.source p.asked q.asked p.met q.met p.granted q.granted;
    capacities_are = capacities_join (capacities s.table) (capacities t.table) (capacities u.table) p.met q.met p.capacities_are q.capacities_are;
    no_more = q.no_more;
  }

module _ {X A : Type 0} (S : Source X) where
  -- writing words allocates nothing
  pub rewrites : (s s' : State) (a : A) → Rewritten s s' → Went S (λ r. got r a) s a s'
  rewrites s s' a w = record {
    met = [];
    asked = [];
    rule = λ later before.
        ap (λ (t : Table). got (room_of t later before) a) (sym w.same_table) ∙
        ap (λ (l : List ℕ). got (room_of s'.table later l) a) (sym (append-nil before));
    granted = (w.same_lengths, w.same_offers, w.same_first);
    capacities_are = ap capacities w.same_table ∙ sym (append-nil (capacities s.table));
  }

  -- another rule that says the same
  pub went_as : (f h : Room → Outcome A) (s s' : State) (a : A) → ((r : Room) → h r ≡ f r) → Went S f s a s' → Went S h s a s'
  went_as f h s s' a same p = record {
    met = p.met;
    asked = p.asked;
    rule = λ later before. same _ ∙ p.rule later before;
    granted = p.granted;
    capacities_are = p.capacities_are;
  }

  pub failed_as : (f h : Room → Outcome A) (s s' : State) (m : ℕ) → ((r : Room) → h r ≡ f r) → Failed S f s m s' → Failed S h s m s'
  failed_as f h s s' m same p = record {
    met = p.met;
    asked = p.asked;
    reached = p.reached;
    rule = λ before. same _ ∙ p.rule before;
    granted = p.granted;
    capacities_are = p.capacities_are;
    no_more = p.no_more;
  }
