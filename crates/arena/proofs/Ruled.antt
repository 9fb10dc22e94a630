-- From what an allocation answers and leaves to the placing rule.
use Rattle.std.proofs.Common.{◌≡◌, ℕ, ◌+◌, ◌<◌, Bool, true, false, cond, ltb, leb, ◌⊎◌, List, [], ◌∷◌, ◌++◌, length, drop, Ok, Err, Result, sym, refl, ap, ◌∙◌, inl, inr, arith}
use Rattle.std.proofs.lemmas.Bool.{cond-true, lt-ltb}
use Rattle.std.proofs.lemmas.Option.{cond_some}
use Rattle.table.specs.Segments.{fresh, more, Table, allocated_in, left_in, capacities, take, first_fit}
use Rattle.table.specs.Placing.{Room, room, Outcome, got, no_space, anywhere, place, pad}
use Rattle.table.specs.Meaning.{has_room}
use Rattle.table.proofs.Entries.{has_room-left}
use Rattle.std.proofs.lemmas.List.{append-nil}
use Rattle.std.proofs.Math.Seq.{drop-append_seam}
use Rattle.table.proofs.Tables.{capacities_length, capacities_append, capacities_take}
use Rattle.arena.specs.declared.NoSpace.{NoSpace}
use Rattle.arena.specs.Space.{Space, with_pad, Found, Granted, Denied, Near, Anywhere, Placed, Padded}
use Rattle.arena.proofs.Grants.{unfound}
use Rattle.arena.specs.Rule.{met_between, asked_for, ByRule}

-- ## The capacities met

pub met_none : (t : Table) (g n : ℕ) → met_between t (take t g n) ≡ []
met_none t g n =
    ap (drop (length t)) (capacities_take t g n ∙ sym (append-nil (capacities t))) ∙
    (ap (λ (k : ℕ). drop k (capacities t ++ [])) (sym (capacities_length t)) ∙ drop-append_seam (capacities t) [])

pub met_one : (t : Table) (c n : ℕ) → met_between t (t ++ (more (fresh c) n ∷ [])) ≡ c ∷ []
met_one t c n =
    ap (drop (length t)) (capacities_append t (more (fresh c) n ∷ [])) ∙
    (ap (λ (k : ℕ). drop k (capacities t ++ (c ∷ []))) (sym (capacities_length t)) ∙ drop-append_seam (capacities t) (c ∷ []))

-- ## Anywhere

abbrev left_room : Table → List ℕ → Room
left_room t ms = record { table = t; coming = []; asked = ms }

found_follows : (n : ℕ) (s s' : Space) (p : ℕ × ℕ) → Found n s p s' →
    anywhere (room s.table (met_between s.table s'.table)) n ≡ got (left_room s'.table (asked_for n (met_between s.table s'.table))) p
unfolding anywhere
found_follows n s s' p f =
    let t : Table = s.table in
    let g : ℕ = first_fit t n in
    let a = cond_some ((ltb (first_fit t n) (length t))) (g, allocated_in t g) p f.pair_is in
    let e : s'.table ≡ take t g n = ap (λ (k : Space). k.table) f.space_is ∙ cond-true ((ltb (first_fit t n) (length t))) (take t g n) t a.0 in
    let m : met_between t s'.table ≡ [] = ap (met_between t) e ∙ met_none t g n in
    rw (m, a.0, e, sym a.1) refl

granted_follows : (n : ℕ) (s s' : Space) (p : ℕ × ℕ) → Granted n s p s' →
    anywhere (room s.table (met_between s.table s'.table)) n ≡ got (left_room s'.table (asked_for n (met_between s.table s'.table))) p
unfolding anywhere
granted_follows n s s' p f =
    let t : Table = s.table in
    let m : met_between t s'.table ≡ f.capacity ∷ [] = ap (met_between t) f.table_is ∙ met_one t f.capacity n in
    rw (m, unfound t n f.none_left, lt-ltb (length t) 64 f.few, f.table_is, f.pair_is) refl

either_same : (b : Bool) (o : Outcome (ℕ × ℕ)) → cond b o o ≡ o
either_same true o = refl
either_same false o = refl

denied_follows : {F : Type 0} (n : ℕ) (fault : ℕ → F) (s s' : Space) (y : NoSpace F) → Denied n fault s y s' →
    anywhere (room s.table []) n ≡ no_space (room s.table []) n
unfolding anywhere
denied_follows n fault s s' y f = rw (unfound s.table n f.none_left) (either_same (ltb (length s.table) 64) (no_space (room s.table []) n))

either_follows : (n : ℕ) (s s' : Space) (p : ℕ × ℕ) → Found n s p s' ⊎ Granted n s p s' →
    anywhere (room s.table (met_between s.table s'.table)) n ≡ got (left_room s'.table (asked_for n (met_between s.table s'.table))) p
either_follows n s s' p (inl f) = found_follows n s s' p f
either_follows n s s' p (inr f) = granted_follows n s s' p f

pub anywhere_by : {F : Type 0} (n : ℕ) (fault : ℕ → F) (s s' : Space) (r : Result (ℕ × ℕ) (NoSpace F)) → Anywhere n fault s r s' → ByRule (λ k. anywhere k n) n s r s'
anywhere_by n fault s s' (Ok p) f = either_follows n s s' p f
anywhere_by n fault s s' (Err y) f = (denied_follows n fault s s' y f, f.minimum_is, f.same)

-- ## For a slot

-- what the rule sees of whether words are left, where the segment is there
left_is : (t : Table) (g n : ℕ) (b : Bool) → g < length t → has_room t g n ≡ b → leb n (left_in t g) ≡ b
left_is t g n b there e = sym (has_room-left t g n there) ∙ e

-- what an allocation in the segment leaves
near_is : (g n : ℕ) (s s' : Space) (p : ℕ × ℕ) → Near g n s p s' → (s'.table ≡ take s.table g n) × (met_between s.table s'.table ≡ [])
near_is g n s s' p f =
    let e : s'.table ≡ take s.table g n = ap (λ (x : Space). x.table) f.space_is in
    (e, ap (met_between s.table) e ∙ met_none s.table g n)

pub place_by : {F : Type 0} (g n : ℕ) (fault : ℕ → F) (s s' : Space) (r : Result (ℕ × ℕ) (NoSpace F)) → g < length s.table → n < 4294967295 →
    Placed g n fault s r s' → ByRule (λ k. place k g n) (n + 1) s r s'
unfolding place
place_by g n fault s s' (Ok p) there small (inl f) =
    let e = near_is g n s s' p f in
    rw (e.1, left_is s.table g n true there f.fits, e.0, f.pair_is) refl
place_by g n fault s s' (Ok p) there small (inr f) =
    let k : with_pad n ≡ n + 1 = omega arith in
    let e = rw k at (either_follows (with_pad n) s s' (p.0, f.1.0) f.1.2) in
    rw (left_is s.table g n false there f.0, e) (ap (λ (i : ℕ). got (left_room s'.table (asked_for (n + 1) (met_between s.table s'.table))) (p.0, i)) (sym f.1.1))
place_by g n fault s s' (Err y) there small f =
    let k : with_pad n ≡ n + 1 = omega arith in
    let d = rw k at (denied_follows (with_pad n) fault s s' y f.1) in
    (rw (left_is s.table g n false there f.0, d) refl, f.1.minimum_is ∙ k, f.1.same)

pub pad_by : {F : Type 0} (g : ℕ) (fault : ℕ → F) (s s' : Space) (r : Result (ℕ × ℕ) (NoSpace F)) → g < length s.table → Padded g fault s r s' → ByRule (λ k. pad k g) 2 s r s'
unfolding pad
pad_by g fault s s' (Ok p) there (inl f) =
    let e = near_is g 1 s s' p f in
    rw (e.1, left_is s.table g 1 true there f.fits, e.0, f.pair_is) refl
pad_by g fault s s' (Ok p) there (inr f) = rw (left_is s.table g 1 false there f.0) (either_follows 2 s s' p f.1)
pad_by g fault s s' (Err y) there f =
    (rw (left_is s.table g 1 false there f.0) (denied_follows 2 fault s s' y f.1), f.1.minimum_is, f.1.same)
