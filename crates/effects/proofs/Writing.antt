-- Words of segments, as the table counts them.
use Rattle.std.proofs.Common.{◌≡◌, ℕ, zero, suc, ◌^◌, ◌<◌, ◌≤◌, List, [], ◌∷◌, map, length, get_or, Result, sym, refl, ap, ◌∙◌, ⊎_elim, arith}
use Rattle.std.proofs.lemmas.Bool.{cases_lt}
use Rattle.segments.specs.declared.refusal.Outside.{Outside}
use Rattle.segments.specs.Calls.{Written}
use Rattle.tree.specs.Value.{change}
use Rattle.tree.specs.Words.{word}
use Rattle.tree.proofs.Words.{word_written}
use Rattle.table.specs.declared.SegmentTable.{SegmentTable}
use Rattle.table.specs.Segments.{Table, allocated_in, capacities}
use Rattle.table.specs.Meaning.{table_of}
use Rattle.table.proofs.Entries.{allocated_past, allocated_within, allocated_small, segments_few}
use Rattle.arena.proofs.Zeros.{written_put, put_sizes}
use Rattle.law.specs.Law.{State}
use Rattle.effects.specs.States.{Sized, Rewritten}

-- ## A table's counts

-- no more is allocated than there is, and all of it below 2 ^ 29
pub within_capacity : (t : SegmentTable) (g : ℕ) →
    (allocated_in (table_of t) g ≤ get_or (capacities (table_of t)) g 0) × (allocated_in (table_of t) g < 2 ^ 29)
within_capacity t g = (allocated_within (lib.ListN.take t.count t.entries) g, allocated_small (lib.ListN.take t.count t.entries) g)

-- ## Words inside

length_at : (m : List (List ℕ)) (g : ℕ) → get_or (map length m) g 0 ≡ length (get_or m g [])
length_at [] g = refl
length_at (s ∷ m) zero = refl
length_at (s ∷ m) (suc g) = length_at m g

nothing_past : (m : List (List ℕ)) (g : ℕ) → length m ≤ g → length (get_or m g []) ≡ 0
nothing_past [] g h = refl
nothing_past (s ∷ m) zero h = absurd (omega arith)
nothing_past (s ∷ m) (suc g) h = nothing_past m g (omega arith)

pub inside_words : (m : List (List ℕ)) (t : Table) (g w : ℕ) → map length m ≡ capacities t → allocated_in t g ≤ get_or (capacities t) g 0 → w < allocated_in t g →
    (g < length m) × (w < length (get_or m g []))
inside_words m t g w e f h =
    let l : length (get_or m g []) ≡ get_or (capacities t) g 0 = sym (length_at m g) ∙ ap (λ (cs : List ℕ). get_or cs g 0) e in
    (⊎_elim (λ (k : g < length m). k) (λ (k : length m ≤ g). let z = nothing_past m g k in absurd (omega arith)) (cases_lt g (length m)), omega arith)

-- ## Writes

pub written_lengths : {Y : Type 0} (r : Result Y Outside) (m n : List (List ℕ)) (g w x : ℕ) → Written r m n g w x → map length n ≡ map length m
written_lengths r m n g w x h =
    ap (map length) (written_put r m n g w x h) ∙ put_sizes m g w x

pub written_words : {Y : Type 0} (r : Result Y Outside) (m n : List (List ℕ)) (t : SegmentTable) (g w x : ℕ) → Written r m n g w x →
    map length m ≡ capacities (table_of t) → w < allocated_in (table_of t) g → word n ≡ change (word m) g w x
written_words r m n t g w x h e l =
    let i = inside_words m (table_of t) g w e (within_capacity t g).0 l in
    ap word (written_put r m n g w x h) ∙ word_written m g w x i.0 i.1

-- ## States of which only words were written

pub rewritten_none : (s : State) → Rewritten s s
rewritten_none s = record { same_lengths = refl; same_offers = refl; same_first = refl; same_table = refl }

pub rewritten_then : (s t u : State) → Rewritten s t → Rewritten t u → Rewritten s u
rewritten_then s t u p q = record {
  same_lengths = q.same_lengths ∙ p.same_lengths;
  same_offers = q.same_offers ∙ p.same_offers;
  same_first = q.same_first ∙ p.same_first;
  same_table = q.same_table ∙ p.same_table;
}

pub rewritten_sized : (s t : State) → Rewritten s t → Sized s → Sized t
rewritten_sized s t p e = p.same_lengths ∙ (e ∙ ap capacities (sym p.same_table))

-- a segment of which something is allocated is one of 64
pub segment_few : (t : SegmentTable) (g : ℕ) → 1 ≤ allocated_in (table_of t) g → g < 64
segment_few t g h =
    let b = segments_few t in
    ⊎_elim (λ (k : g < 64). k) (λ (k : 64 ≤ g). let z = allocated_past (table_of t) g (omega arith) in absurd (omega arith)) (cases_lt g 64)
