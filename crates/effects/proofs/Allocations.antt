-- Allocations of an arena are parts of a call.
use Rattle.std.proofs.Common.{◌≡◌, ℕ, ◌+◌, ◌<◌, ◌≤◌, Bool, true, false, cond, ◌&&◌, eqb, ltb, leb, ◌⊎◌, List, [], ◌∷◌, ◌++◌, map, length, replicate, Some, None, Ok, Err, Result, sym, refl, ap, ◌∙◌, inl, inr, ⊎_elim, arith}
use lib.ListN.{length-replicate}
use Rattle.std.proofs.lemmas.List.{map_push}
use Rattle.std.proofs.lemmas.Bool.{cond-true, cond-false, lt-ltb, cases_Bool}
use Rattle.tree.specs.Words.{word}
use Rattle.tree.proofs.Words.{word_granted}
use Rattle.table.specs.Segments.{fresh, more, Table, allocated_in, left_in, capacities, take, first_fit}
use Rattle.table.specs.Placing.{Room, Outcome, got, no_space, then, in_segment, grant, anywhere, place, pad, root}
use Rattle.table.specs.Meaning.{table_of, has_room, with_first_words}
use Rattle.table.specs.declared.SegmentTable.{SegmentTable}
use Rattle.table.proofs.Entries.{segments_few}
use Rattle.std.proofs.lemmas.List.{append-nil}
use Rattle.table.proofs.Tables.{capacities_append, capacities_take}
use Rattle.arena.specs.declared.NoSpace.{NoSpace}
use Rattle.arena.specs.Space.{Space, with_table, with_pad, Found, Denied, Anywhere, Placed, Padded, Granted as Arena-as-Granted}
use Rattle.law.specs.Law.{Source, State, memory, lengths, Offered}
use Rattle.effects.specs.Parts.{Went, Failed, Allocates}
use Rattle.effects.proofs.Joins.{room_of, joins, fails_first, rewrites}

-- ## A state as an arena's space

abbrev pub space_in : State → Space
space_in s = record { segments = s.source.segments; offers = s.source.offers; first_offers = s.source.first_offers; table = s.table }

abbrev state_in : Space → State
state_in k = record { source = record { segments = k.segments; offers = k.offers; first_offers = k.first_offers }; table = k.table }

-- ## Found or not

found_parts : (b : Bool) (q p : ℕ × ℕ) → cond b (Some q) None ≡ Some p → (b ≡ true) × (p ≡ q)
found_parts true q p e = (refl, cc)
found_parts false q p e = let z : ◌≡◌ {A = ℕ} 0 1 = cc in absurd (omega arith)

unfound_part : (b : Bool) (q : ℕ × ℕ) → cond b (Some q) None ≡ None → b ≡ false
unfound_part true q e = let z : ◌≡◌ {A = ℕ} 0 1 = cc in absurd (omega arith)
unfound_part false q e = refl

abbrev some_fits : Table → ℕ → Bool
some_fits t n = ltb (first_fit t n) (length t)

-- ## The rule for any room of a table

anywhere_found : (t : Table) (n : ℕ) (cs b : List ℕ) → some_fits t n ≡ true → anywhere (room_of t cs b) n ≡ in_segment (room_of t cs b) (first_fit t n) n
unfolding anywhere
anywhere_found t n cs b e =
    cond-true (some_fits t n) (in_segment (room_of t cs b) (first_fit t n) n) (cond (ltb (length t) 64) (grant (room_of t cs b) n cs) (no_space (room_of t cs b) n)) e

anywhere_unfound : (t : Table) (n : ℕ) (cs b : List ℕ) → some_fits t n ≡ false →
    anywhere (room_of t cs b) n ≡ cond (ltb (length t) 64) (grant (room_of t cs b) n cs) (no_space (room_of t cs b) n)
unfolding anywhere
anywhere_unfound t n cs b e =
    cond-false (some_fits t n) (in_segment (room_of t cs b) (first_fit t n) n) (cond (ltb (length t) 64) (grant (room_of t cs b) n cs) (no_space (room_of t cs b) n)) e

place_is : (t : Table) (g n : ℕ) (cs b : List ℕ) →
    place (room_of t cs b) g n ≡
    cond (leb n (left_in t g)) (in_segment (room_of t cs b) g n) (then (anywhere (room_of t cs b) (n + 1)) (λ r p. got r (p.0, p.1 + 1)))
unfolding place
place_is t g n cs b = refl

pad_is : (t : Table) (g : ℕ) (cs b : List ℕ) → pad (room_of t cs b) g ≡ cond (leb 1 (left_in t g)) (in_segment (room_of t cs b) g 1) (anywhere (room_of t cs b) 2)
unfolding pad
pad_is t g cs b = refl

root_is : (t : Table) (cs b : List ℕ) → root (room_of t cs b) ≡ cond (eqb (allocated_in t 0) 0) (anywhere (room_of t cs b) 1) (got (room_of t cs b) (0, 0))
unfolding root
root_is t cs b = refl

-- where the segment is there, room is what is left
room_left : (t : Table) (g n : ℕ) → g < length t → has_room t g n ≡ leb n (left_in t g)
room_left t g n h = ap (λ (b : Bool). b && leb n (left_in t g)) (lt-ltb g (length t) h)

-- a rule that takes n words of segment g
abbrev Takes : (Room → Outcome (ℕ × ℕ)) → Table → (g n : ℕ) → Type 0
Takes f t g n = (cs b : List ℕ) → f (room_of t cs b) ≡ in_segment (room_of t cs b) g n

-- ## What a part makes of a state

module _ {X : Type 0} (S : Source X) where
  -- n words of segment g, and nothing else
  pub takes_part : (f : Room → Outcome (ℕ × ℕ)) (g n : ℕ) (s s' : State) (p : ℕ × ℕ) → Takes f s.table g n → p ≡ (g, allocated_in s.table g) →
      space_in s' ≡ with_table (space_in s) (take s.table g n) → Went S f s p s' × (memory s' ≡ memory s)
  takes_part f g n s s' p rule pair_is space_is =
      let t : s'.table ≡ take s.table g n = ap (λ (k : Space). k.table) space_is in (
        record {
          met = [];
          asked = [];
          rule = λ later before.
              rule later before ∙
              (ap (λ (k : Table). got (room_of k later before) (g, allocated_in s.table g)) (sym t) ∙
              (ap (λ (q : ℕ × ℕ). got (room_of s'.table later before) q) (sym pair_is) ∙
              ap (λ (l : List ℕ). got (room_of s'.table later l) p) (sym (append-nil before))));
          granted = (
            ap (λ (k : Space). map length k.segments) space_is,
            ap (λ (k : Space). k.offers) space_is,
            ap (λ (k : Space). k.first_offers) space_is,
          );
          capacities_are = ap capacities t ∙ (capacities_take s.table g n ∙ sym (append-nil (capacities s.table)));
        },
        ap (λ (k : Space). word k.segments) space_is,
      )

  -- a segment of c words, of which n are taken
  pub grants_part : (f : Room → Outcome (ℕ × ℕ)) (n c : ℕ) (s : State) (x : X) (t' : Table) (p : ℕ × ℕ) →
      ((cs b : List ℕ) → f (room_of s.table (c ∷ cs) b) ≡ got (room_of (s.table ++ (more (fresh c) n ∷ [])) cs (b ++ (n ∷ []))) p) →
      s.source.offers n ≡ Some c → t' ≡ s.table ++ (more (fresh c) n ∷ []) → (S x).segments ≡ s.source.segments ++ (replicate c 0 ∷ []) →
      (S x).first_offers ≡ s.source.first_offers → Offered (S x).offers →
      Went S f s p (record { source = S x; table = t' }) × (memory (record { source = S x; table = t' }) ≡ memory s)
  grants_part f n c s x t' p rule offered table_is segments_are first_kept bounds =
      let size : length (replicate c 0) ≡ c = length-replicate {A = ℕ} c 0 in
      let l : lengths (S x) ≡ lengths s.source ++ (c ∷ []) =
      ap (map length) segments_are ∙ (map_push length s.source.segments (replicate c 0) ∙ ap (λ (k : ℕ). lengths s.source ++ (k ∷ [])) size) in (
        record {
          met = c ∷ [];
          asked = n ∷ [];
          rule = λ later before. rule later before ∙ ap (λ (k : Table). got (room_of k later (before ++ (n ∷ []))) p) (sym table_is);
          granted = (offered, (x, l, bounds, first_kept, (refl, refl, refl)));
          capacities_are = ap capacities table_is ∙ capacities_append s.table (more (fresh c) n ∷ []);
        },
        ap word segments_are ∙ word_granted s.source.segments c,
      )

  -- no segment was granted, and nothing changed
  pub denied_part : (f : Room → Outcome (ℕ × ℕ)) (n : ℕ) (s s' : State) → ((b : List ℕ) → f (room_of s.table [] b) ≡ no_space (room_of s.table [] b) n) →
      s' ≡ s → (length s.table ≡ 64) ⊎ (s.source.offers n ≡ None) → Failed S f s n s'
  denied_part f n s s' rule same none = record {
    met = [];
    asked = [];
    reached = s.table;
    rule = λ before. rule before ∙ ap (λ (l : List ℕ). no_space (room_of s.table [] l) n) (sym (append-nil before));
    granted = (ap (λ (k : State). lengths k.source) same, ap (λ (k : State). k.source.offers) same, ap (λ (k : State). k.source.first_offers) same);
    capacities_are = ap (λ (k : State). capacities k.table) same ∙ sym (append-nil (capacities s.table));
    no_more = ⊎_elim (λ (h : length s.table ≡ 64). inl (ap (λ (k : State). length k.table) same ∙ h)) (λ (h : s.source.offers n ≡ None). inr (ap (λ (k : State). k.source.offers n) same ∙ h)) none;
  }

-- what is the same space is the same state
pub same_state : (s s' : State) → space_in s' ≡ space_in s → s' ≡ s
same_state s s' e = ap state_in e

-- ## Rules that agree at a table

module _ {X A : Type 0} (S : Source X) (f h : Room → Outcome A) (s s' : State)
    (same : (cs b : List ℕ) → h (room_of s.table cs b) ≡ f (room_of s.table cs b)) where
  pub went_at : (a : A) → Went S f s a s' → Went S h s a s'
  went_at a p = record {
    met = p.met;
    asked = p.asked;
    rule = λ later before. same (p.met ++ later) before ∙ p.rule later before;
    granted = p.granted;
    capacities_are = p.capacities_are;
  }

  pub failed_at : (m : ℕ) → Failed S f s m s' → Failed S h s m s'
  failed_at m p = record {
    met = p.met;
    asked = p.asked;
    reached = p.reached;
    rule = λ before. same p.met before ∙ p.rule before;
    granted = p.granted;
    capacities_are = p.capacities_are;
    no_more = p.no_more;
  }

-- nothing happens
pub rests : {X A : Type 0} (S : Source X) (s : State) (a : A) → Went S (λ r. got r a) s a s
rests S s a = rewrites S s s a (record { same_lengths = refl; same_offers = refl; same_first = refl; same_table = refl })

-- ## Allocations of an arena

-- a table in memory has at most 64 segments
pub at_most : (t : SegmentTable) → length (table_of t) ≤ 64
at_most t = segments_few t

-- From the state s to the value x of a source with the table t'. At most 64 segments are there before.
module _ {X F : Type 0} (S : Source X) (fault : ℕ → F) (s : State) (x : X) (t' : Table) (few : length s.table ≤ 64) (bounds : Offered (S x).offers) where
  abbrev end : State
  end = record { source = S x; table = t' }

  pub either_part : (n : ℕ) (p : ℕ × ℕ) → Found n (space_in s) p (space_in end) ⊎ Arena-as-Granted n (space_in s) p (space_in end) →
      Went S (λ r. anywhere r n) s p end × (memory end ≡ memory s)
  either_part n p (inl h) =
      let t : Table = s.table in
      let a = found_parts (some_fits t n) (first_fit t n, allocated_in t (first_fit t n)) p h.pair_is in
      let e : with_first_words t n ≡ take t (first_fit t n) n = cond-true (some_fits t n) (take t (first_fit t n) n) t a.0 in
      takes_part S (λ r. anywhere r n) (first_fit t n) n s end p (λ cs b. anywhere_found t n cs b a.0) a.1
      (h.space_is ∙ ap (with_table (space_in s)) e)
  either_part n p (inr h) =
      let t : Table = s.table in
      let a = unfound_part (some_fits t n) _ h.none_left in
      grants_part S (λ r. anywhere r n) n h.capacity s x t' p
      (λ cs b.
      anywhere_unfound t n (h.capacity ∷ cs) b a ∙
      (cond-true (ltb (length t) 64) (grant (room_of t (h.capacity ∷ cs) b) n (h.capacity ∷ cs)) (no_space (room_of t (h.capacity ∷ cs) b) n) (lt-ltb (length t) 64 h.few) ∙
      ap (λ (q : ℕ × ℕ). got (room_of (t ++ (more (fresh h.capacity) n ∷ [])) cs (b ++ (n ∷ []))) q) (sym h.pair_is)))
      h.offered
      h.table_is
      h.segments_are
      h.first_kept
      bounds

  pub none_part : (n : ℕ) (y : NoSpace F) → Denied n fault (space_in s) y (space_in end) → Failed S (λ r. anywhere r n) s n end × (y.minimum ≡ n) × (end ≡ s)
  none_part n y h =
      let t : Table = s.table in (
        denied_part S (λ r. anywhere r n) n s end
            (λ b.
            anywhere_unfound t n [] b (unfound_part (some_fits t n) _ h.none_left) ∙
            ⊎_elim
            (λ (k : ltb (length t) 64 ≡ true). cond-true (ltb (length t) 64) _ _ k)
            (λ (k : ltb (length t) 64 ≡ false). cond-false (ltb (length t) 64) _ _ k)
            (cases_Bool (ltb (length t) 64)))
            (same_state s end h.same)
            (⊎_elim (λ c. inl (omega (arith, c.0))) (λ c. inr c.1) h.cause),
        h.minimum_is,
        same_state s end h.same,
      )

  pub anywhere_part : (n : ℕ) (r : Result (ℕ × ℕ) (NoSpace F)) → Anywhere n fault (space_in s) r (space_in end) →
      Allocates S (λ k. anywhere k n) n s r (λ p. p) end
  anywhere_part n (Ok p) h = either_part n p h
  anywhere_part n (Err y) h = none_part n y h

  -- in a segment that there is
  module _ (g : ℕ) (there : g < length s.table) where
    pub pad_part : (r : Result (ℕ × ℕ) (NoSpace F)) → Padded g fault (space_in s) r (space_in end) → Allocates S (λ k. pad k g) 2 s r (λ p. p) end
    pad_part (Ok p) (inl h) =
        takes_part S (λ k. pad k g) g 1 s end p
        (λ cs b. pad_is s.table g cs b ∙ cond-true (leb 1 (left_in s.table g)) _ _ (sym (room_left s.table g 1 there) ∙ h.fits))
        h.pair_is
        h.space_is
    pad_part (Ok p) (inr h) =
        let w = either_part 2 p h.1 in (
          went_at S (λ k. anywhere k 2) (λ k. pad k g) s end
              (λ cs b. pad_is s.table g cs b ∙ cond-false (leb 1 (left_in s.table g)) _ _ (sym (room_left s.table g 1 there) ∙ h.0))
              p
              w.0,
          w.1,
        )
    pad_part (Err y) h =
        let w = none_part 2 y h.1 in (
          failed_at S (λ k. anywhere k 2) (λ k. pad k g) s end
              (λ cs b. pad_is s.table g cs b ∙ cond-false (leb 1 (left_in s.table g)) _ _ (sym (room_left s.table g 1 there) ∙ h.0))
              2
              w.0,
          w.1,
          w.2,
        )

    abbrev behind : ℕ → Room → Outcome (ℕ × ℕ)
    behind n k = then (anywhere k (n + 1)) (λ r q. got r (q.0, q.1 + 1))

    place_else : (n : ℕ) → has_room s.table g n ≡ false → (cs b : List ℕ) → place (room_of s.table cs b) g n ≡ behind n (room_of s.table cs b)
    place_else n e cs b = place_is s.table g n cs b ∙ cond-false (leb n (left_in s.table g)) _ _ (sym (room_left s.table g n there) ∙ e)

    -- an object that 32 bits count
    pub place_part : (n : ℕ) → n < 4294967295 → (r : Result (ℕ × ℕ) (NoSpace F)) → Placed g n fault (space_in s) r (space_in end) →
        Allocates S (λ k. place k g n) (n + 1) s r (λ p. p) end
    place_part n small (Ok p) (inl h) =
        takes_part S (λ k. place k g n) g n s end p
        (λ cs b. place_is s.table g n cs b ∙ cond-true (leb n (left_in s.table g)) _ _ (sym (room_left s.table g n there) ∙ h.fits))
        h.pair_is
        h.space_is
    place_part n small (Ok p) (inr h) =
        let e : with_pad n ≡ n + 1 = omega arith in
        let w = rw e at (either_part (with_pad n) (p.0, h.1.0) h.1.2) in
        let q : p ≡ (p.0, h.1.0 + 1) = ap (λ (i : ℕ). (p.0, i)) h.1.1 in (
          went_at S (behind n) (λ k. place k g n) s end (place_else n h.0) p
              (joins S (λ k. anywhere k (n + 1)) (λ r q. got r (q.0, q.1 + 1)) s end end (p.0, h.1.0) p w.0 (rw q (rests S end (p.0, h.1.0 + 1)))),
          w.1,
        )
    place_part n small (Err y) h =
        let e : with_pad n ≡ n + 1 = omega arith in
        let w = rw e at (none_part (with_pad n) y h.1) in (
          failed_at S (behind n) (λ k. place k g n) s end (place_else n h.0) (n + 1)
              (fails_first S (λ k. anywhere k (n + 1)) (λ r q. got r (q.0, q.1 + 1)) s end (n + 1) w.0),
          w.1,
          w.2,
        )

  -- the root word, where there is none
  pub root_part : (r : Result (ℕ × ℕ) (NoSpace F)) → eqb (allocated_in s.table 0) 0 ≡ true → Anywhere 1 fault (space_in s) r (space_in end) →
      Allocates S root 1 s r (λ p. p) end
  root_part (Ok p) e h =
      let w = either_part 1 p h in
      (went_at S (λ k. anywhere k 1) root s end (λ cs b. root_is s.table cs b ∙ cond-true (eqb (allocated_in s.table 0) 0) _ _ e) p w.0, w.1)
  root_part (Err y) e h =
      let w = none_part 1 y h in
      (failed_at S (λ k. anywhere k 1) root s end (λ cs b. root_is s.table cs b ∙ cond-true (eqb (allocated_in s.table 0) 0) _ _ e) 1 w.0, w.1, w.2)

-- where there is one
pub root_there : {X : Type 0} (S : Source X) (s : State) → eqb (allocated_in s.table 0) 0 ≡ false → Went S root s (0, 0) s
root_there S s e =
    went_at S (λ k. got k (0, 0)) root s s (λ cs b. root_is s.table cs b ∙ cond-false (eqb (allocated_in s.table 0) 0) _ _ e) (0, 0) (rests S s (0, 0))
