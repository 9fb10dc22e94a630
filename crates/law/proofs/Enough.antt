-- The exact words keep the law of a call, for every edit.
use Rattle.std.proofs.Common.{◌≡◌, ℕ, zero, suc, ◌-◌, ◌^◌, ◌<◌, Bool, true, false, cond, eqb, ◌⊎◌, List, [], ◌∷◌, length, sym, refl, ap, ◌∙◌, subst, inl, ⊎_elim, arith, lit≤}
use mathlib.Core.Path.{fun_ext}
use Rattle.std.proofs.lemmas.Bool.{eq-eqb, ne_eqb, lt-ltb, le-leb}
use Rattle.tree.specs.Value.{Shape, Value, null, object, Step, Goes, value_at}
use Rattle.tree.specs.Shows.{Memory, Landing, land, Shows, walk, Sound}
use Rattle.tree.specs.Words.{word}
use Rattle.tree.specs.Extents.{WellLaid}
use Rattle.tree.specs.Decode.{Deep}
use Rattle.tree.proofs.Extents.{sound, well_laid}
use Rattle.tree.proofs.Context.{reached}
use Rattle.tree.proofs.Laws.{laws}
use Rattle.table.specs.Segments.{Table, allocated_in, Bounded}
use Rattle.table.specs.Placing.{Room, room, Outcome, got, no_space, anywhere, root}
use Rattle.table.proofs.Tables.{append_fresh}
use Rattle.law.specs.Calls.{Edit, init_struct, init_list, init_rows, get_struct, get_rows, text, clear, write, Call, Typed, Answer, refused, nowhere, sizes, no_sizes, done, value}
use Rattle.law.specs.Machine.{keep, rebuild, making, grown, enough, Verdict, fine, wrong, judge, judged, reply, effect, accepted}
use Rattle.law.specs.Exact.{Written, makes, call_outcome}
use Rattle.law.specs.Law.{Source, State, memory, Bare, Stands, Holds, Reply, told, next, Leads, Placing, Lawful}
use Rattle.law.specs.Enough.{PairIs, Accepts, Crowds, ExactWordsKeepTheLaw}
use Rattle.law.proofs.Grants.{granted_join}
use Rattle.law.proofs.Judged.{fine_goes, fine_ruling}
use Rattle.law.proofs.Nesting.{step_deep}
use Rattle.law.proofs.Tables.{same_memory}
use Rattle.law.proofs.Standing.{stands_accepted, stands_crowded}
use Rattle.law.proofs.Inits.{counts, Small}
use Rattle.law.proofs.Makings.{Site, Turned}
use Rattle.law.proofs.Moving.{got_at}
use Rattle.law.proofs.Turns.{Paired, then_got, Turns, turns}
use Rattle.law.proofs.Fitting.{NarrowValue, described_narrow, fitting}

-- ## The record, by what the judge says and the outcome is

module _ {X : Type 0} (S : Source X) where
  lawful_by : (s : State) (v : Value) (c : Call) (met : List ℕ) (y : Reply) (s' : State) (d : Verdict) (o : Outcome Written) →
      judge v c ≡ d → call_outcome (memory s) v (room s.table met) c ≡ o → Typed c.edit → Holds S s v → Holds S s' (judged v c (told y.says) d).1 →
      y.says ≡ (judged v c (told y.says) d).0 → Placing S s v c met y s' d o → Lawful S s v c met y s'
  lawful_by s v c met y s' d o e f t h h' a p = record {
    typed = t;
    before = h;
    after = subst (λ x. Holds S s' (judged v c (told y.says) x).1) (sym e) h';
    answer = subst (λ x. y.says ≡ (judged v c (told y.says) x).0) (sym e) a;
    placing = subst (λ x. Placing S s v c met y s' x (call_outcome (memory s) v (room s.table met) c)) (sym e)
        (subst (λ x. Placing S s v c met y s' d x) (sym f) p);
  }

  -- ## Refusals

  pub rejects : (s : State) (v : Value) (c : Call) (y : Reply) → Typed c.edit → Holds S s v → judge v c ≡ wrong y.says → Lawful S s v c [] y s
  rejects s v c y t h e = lawful_by s v c [] y s (wrong y.says) _ e refl t h h refl (record { no_grant = refl; same = refl })

  same_laid : (H H' : Memory) (a a' : ℕ → ℕ) (v : Value) → H' ≡ H → a' ≡ a → WellLaid H a v ⊎ Bare H a v → WellLaid H' a' v ⊎ Bare H' a' v
  same_laid H H' a a' v e f h = rw (e, f) h

  pub crowds : (s : State) (v : Value) (c : Call) (met : List ℕ) (y : Reply) (s' : State) (r : Room) →
      Crowds S s v c met y s' r → Lawful S s v c met y s'
  crowds s v c met y s' r k =
      let is : told y.says ≡ 11 = ap told k.says_is in
      let same : memory s' ≡ memory s = ap word k.segments_are ∙ same_memory s.source.segments met in
      let alike : counts_of s' ≡ counts_of s = ap allocated_in k.table_is ∙ fun_ext (λ g. append_fresh s.table met g) in
      lawful_by s v c met y s' fine (no_space r y.minimum) k.judged_fine k.outcome k.typed k.before
      (subst (λ b. Holds S s' (judged v c b fine).1) (sym is)
      (record { stands = stands_crowded S s v c met s' r y.minimum k.before.stands k.outcome k.all_used k.granted k.table_is k.valued; laid = same_laid _ _ _ _ v same alike k.before.laid; nested = k.before.nested }))
      (subst (λ b. y.says ≡ (judged v c b fine).0) (sym is) k.says_is)
      (record {
        back = record {
          number_is = is;
          all_used = k.all_used;
          granted = k.granted;
          table_is = k.table_is;
          segments_are = k.segments_are;
        };
        minimum_is = refl;
        no_more = k.no_more;
      })
    where
      counts_of : State → ℕ → ℕ
      counts_of s = allocated_in s.table

  -- ## The root word

  abbrev Rooted : Outcome (ℕ × ℕ) → Type 0
  Rooted (got r p) = 0 < allocated_in r.table 0
  Rooted (no_space r m) = Unit {0}

  rooted_anywhere : (t : Table) (met : List ℕ) → Bounded t → allocated_in t 0 ≡ 0 → Rooted (anywhere (room t met) 1)
  unfolding anywhere
  rooted_anywhere [] [] b z = tt
  rooted_anywhere [] (c ∷ cs) b z = lit≤ tt
  rooted_anywhere (s ∷ t) met b z = rw (le-leb 1 (s.capacity - s.allocated) (omega arith), lt-ltb 0 (suc (length t)) (omega arith)) (omega arith)

  pub roots : (s : State) (v : Value) (met : List ℕ) (r : Room) (q : ℕ × ℕ) → Holds S s v → root (room s.table met) ≡ got r q →
      WellLaid (memory s) (allocated_in r.table) v
  unfolding root
  roots s v met r q h e = ⊎_elim laid bare h.laid
    where
      start : Room
      start = room s.table met

      laid : WellLaid (memory s) (allocated_in s.table) v → WellLaid (memory s) (allocated_in r.table) v
      laid ok =
          let one : 0 < allocated_in s.table 0 = omega (arith, ok.inside.0) in
          let f : cond (eqb (allocated_in s.table 0) 0) (anywhere (room s.table met) 1) (got (room s.table met) (0, 0)) ≡ got (room s.table met) (0, 0) =
          rw (ne_eqb (allocated_in s.table 0) 0 (λ z. omega arith)) in
          let same : room s.table met ≡ r = cc in
          subst (λ q. WellLaid (memory s) (allocated_in q.table) v) same ok

      bare : Bare (memory s) (allocated_in s.table) v → WellLaid (memory s) (allocated_in r.table) v
      bare k =
          let f : cond (eqb (allocated_in s.table 0) 0) (anywhere (room s.table met) 1) (got (room s.table met) (0, 0)) ≡ anywhere (room s.table met) 1 =
          rw (eq-eqb (allocated_in s.table 0) 0 (k.none 0)) in
          let h' : Rooted (got r q) = subst Rooted (sym f ∙ e) (rooted_anywhere s.table met h.stands.bounded (k.none 0)) in
          rw k.no_tree (laws.begins (memory s) (allocated_in r.table) h' k.zeros)

  pub bounded_small : (t : Table) (x : ℕ) → Bounded t → allocated_in t x < 2 ^ 29
  bounded_small [] x b = omega arith
  bounded_small (s ∷ t) zero b = omega arith
  bounded_small (s ∷ t) (suc x) b = bounded_small t x b.3

  -- ## Accepted calls

  untold : (e : Edit) (u : Value) → told (reply e u) ≡ 0
  untold (init_struct dw pw) null = refl
  untold (init_struct dw pw) (object sh dat kid) = refl
  untold (init_list code n) null = refl
  untold (init_list code n) (object sh dat kid) = refl
  untold (init_rows n dw pw) null = refl
  untold (init_rows n dw pw) (object sh dat kid) = refl
  untold (get_struct dw pw) null = refl
  untold (get_struct dw pw) (object sh dat kid) = refl
  untold (get_rows dw pw) null = refl
  untold (get_rows dw pw) (object sh dat kid) = refl
  untold (text bytes) u = refl
  untold clear u = refl
  untold (write h code i x) u = refl

  -- answers with sizes
  abbrev Sized : Answer → Type 0
  Sized (refused n) = ⊥
  Sized (nowhere k) = ⊥
  Sized (sizes sh) = Unit {0}
  Sized no_sizes = ⊥
  Sized done = ⊥
  Sized (value x) = ⊥

  leads_by : (a : Answer) (y p : ℕ × ℕ) (H : Memory) (k : ℕ × ℕ) → PairIs a y p → (Sized a → p ≡ ((land H k.0 k.1).seg, (land H k.0 k.1).pos)) → Leads a y p H k
  leads_by (refused n) y p H k is f = tt
  leads_by (nowhere i) y p H k is f = tt
  leads_by (sizes sh) y p H k is f = (is, is ∙ f tt)
  leads_by no_sizes y p H k is f = is
  leads_by done y p H k is f = tt
  leads_by (value x) y p H k is f = tt

  paired_if : (b : Bool) (sh : Shape) (p : ℕ × ℕ) (l : Landing) → Paired (cond b keep (rebuild sh)) p l → p ≡ (l.seg, l.pos)
  paired_if true sh p l h = h
  paired_if false sh p l h = h

  sized_pair : (e : Edit) (u w : Value) (p : ℕ × ℕ) (l : Landing) → Paired (making e u) p l → Sized (reply e w) → p ≡ (l.seg, l.pos)
  sized_pair (init_struct dw pw) u w p l h s = h
  sized_pair (init_list code n) u w p l h s = h
  sized_pair (init_rows n dw pw) u w p l h s = h
  sized_pair (get_struct dw pw) null w p l h s = h
  sized_pair (get_struct dw pw) (object sh dat kid) w p l h s = paired_if (enough sh dw pw) (grown sh dw pw) p l h
  sized_pair (get_rows dw pw) null w p l h s = h
  sized_pair (get_rows dw pw) (object sh dat kid) w p l h s = paired_if (enough sh dw pw) (grown sh dw pw) p l h
  sized_pair (text bytes) u w p l h s = absurd s
  sized_pair clear u w p l h s = absurd s
  sized_pair (write k code i x) u w p l h s = absurd s

  narrow : (H : Memory) (a : ℕ → ℕ) (g w : ℕ) (u : Value) → Shows H a g w u → NarrowValue u
  narrow H a g w null s = tt
  narrow H a g w (object sh dat kid) s = described_narrow (land H g w).said (H (land H g w).seg (land H g w).pos) sh s.1.described

  -- the words of the outcome show the machine's tree
  pub turned : (s : State) (v : Value) (c : Call) (met : List ℕ) (r : Room) (x : Written) → Typed c.edit → Holds S s v → judge v c ≡ fine →
      call_outcome (memory s) v (room s.table met) c ≡ got r x → Small r →
      Turned (memory s) x.words (counts r) v c.path (effect c.edit (value_at v c.path)) ×
      Paired (making c.edit (value_at v c.path)) x.pair (land x.words (walk (memory s) 0 0 v c.path).0 (walk (memory s) 0 0 v c.path).1)
  unfolding call_outcome effect
  turned s v c met r x t h j e small =
      let H : Memory = memory s in
      let p : List Step = c.path in
      let u : Value = value_at v p in
      let go : Goes v p = fine_goes v c j in
      let (r₁, q, e₁, e₂) = then_got (root (room s.table met)) (λ r₁ _. makes H (walk H 0 0 v p).0 (walk H 0 0 v p).1 u (making c.edit u) r₁) r x e in
      let ok : Sound H (counts r₁) v = sound H (counts r₁) v (roots s v met r₁ q h e₁) in
      let site : Site H (counts r₁) v p = record { goes = go; sound = ok } in
      let rule = fine_ruling v c j in
      let fit = fitting c.edit u t (narrow H (counts r₁) (walk H 0 0 v p).0 (walk H 0 0 v p).1 u (reached H (counts r₁) p v 0 0 go ok.shown)) rule.0 rule.1 in
      got_at (Turns H v p r₁ site (making c.edit u) u) (makes H (walk H 0 0 v p).0 (walk H 0 0 v p).1 u (making c.edit u) r₁) r x
      (turns H v p r₁ site (making c.edit u) u refl fit) e₂ small

  pub accepts : (s : State) (v : Value) (c : Call) (met : List ℕ) (y : Reply) (s' : State) (r : Room) (x : Written) →
      Accepts S s v c met y s' r x → Lawful S s v c met y s'
  accepts s v c met y s' r x k =
      let p : List Step = c.path in
      let u : Value = effect c.edit (value_at v p) in
      let H' : Memory = memory s' in
      let not : told y.says ≡ 0 = ap told k.says_is ∙ untold c.edit u in
      let stands : Stands S s' = stands_accepted S s v c met s' r x k.before.stands k.outcome k.all_used k.granted k.table_is k.valued in
      let small : Small r = λ z. subst (λ t. allocated_in t z < 2 ^ 29) k.table_is (bounded_small s'.table z stands.bounded) in
      let done = turned s v c met r x k.typed k.before k.judged_fine k.outcome small in
      let tree : next v c y ≡ accepted v c = ap (λ d. (judged v c (told y.says) d).1) k.judged_fine ∙ ap (λ b. (judged v c b fine).1) not in
      let laid : WellLaid H' (allocated_in s'.table) (accepted v c) =
      subst (λ M. WellLaid M (allocated_in s'.table) (accepted v c)) (sym k.words_are)
      (subst (λ t. WellLaid x.words (allocated_in t) (accepted v c)) (sym k.table_is) (well_laid x.words (counts r) (accepted v c) done.0.sound)) in
      let there : walk H' 0 0 (next v c y) p ≡ walk (memory s) 0 0 v p =
      ap (λ t. walk H' 0 0 t p) tree ∙ ap (λ M. walk M 0 0 (accepted v c) p) k.words_are ∙ done.0.there in
      let lands : Memory → ℕ × ℕ → ℕ × ℕ = λ M q. ((land M q.0 q.1).seg, (land M q.0 q.1).pos) in
      lawful_by s v c met y s' fine (got r x) k.judged_fine k.outcome k.typed k.before
      (subst (λ b. Holds S s' (judged v c b fine).1) (sym not)
      (record { stands = stands; laid = inl laid; nested = subst (λ d. Deep 64 (judged v c 0 d).1) k.judged_fine (step_deep v c 0 k.before.nested) }))
      (subst (λ b. y.says ≡ (judged v c b fine).0) (sym not) k.says_is)
      (record {
        untold = not;
        all_used = k.all_used;
        granted = k.granted;
        table_is = k.table_is;
        words_are = k.words_are;
        leads = leads_by y.says y.pair x.pair H' (walk H' 0 0 (next v c y) p) k.pair_is
            (λ z.
            sized_pair c.edit (value_at v p) u x.pair _ done.1 (subst Sized k.says_is z) ∙
            ap (λ M. lands M (walk (memory s) 0 0 v p)) (sym k.words_are) ∙ ap (lands H') (sym there));
      })

pub exact : (X : Type 0) → ExactWordsKeepTheLaw X
exact X = record { rejects = rejects; crowds = crowds; accepts = accepts; grants_join = granted_join }
