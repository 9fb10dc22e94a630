-- What a table in memory means, and what its calls answer and leave.
use Rattle.std.specs.Prelude.{ℕ, min, Bool, cond, ◌&&◌, [], ◌∷◌, ◌++◌, map, length, Some, None, Ok, Err, Option, Result, nat_le, nat_lt}
use Rattle.table.specs.declared.SegmentEntry.{SegmentEntry}
use Rattle.table.specs.declared.SegmentTable.{SegmentTable}
use Rattle.table.specs.declared.AddError.{AddError}
use Rattle.table.specs.declared.AddError.TheVariants.{Full, TooLarge}
use Rattle.table.specs.Segments.{Segment, fresh, Table, allocated_in, left_in, take, first_fit}

abbrev pub segment_of : SegmentEntry → Segment
segment_of e = record { allocated = e.allocated; capacity = e.capacity }

abbrev pub table_of : SegmentTable → Table
table_of t = map segment_of (lib.ListN.take t.count t.entries)

-- n words are left in segment g
abbrev pub has_room : Table → (g n : ℕ) → Bool
has_room t g n = nat_lt g (length t) && nat_le n (left_in t g)

-- the first word of the next n words of segment g, and the table with them taken
abbrev pub next_words : Table → (g n : ℕ) → Option ℕ
next_words t g n = cond (has_room t g n) (Some (allocated_in t g)) None

abbrev pub with_words : Table → (g n : ℕ) → Table
with_words t g n = cond (has_room t g n) (take t g n) t

-- the first segment with n words left, if there is one
abbrev pub first_room : Table → (n : ℕ) → Option ℕ
first_room t n = cond (nat_lt (first_fit t n) (length t)) (Some (first_fit t n)) None

-- n words of the first segment with as many left: the segment with the first word, and the table with them taken
abbrev pub first_words : Table → (n : ℕ) → Option (ℕ × ℕ)
first_words t n = cond (nat_lt (first_fit t n) (length t)) (Some (first_fit t n, allocated_in t (first_fit t n))) None

abbrev pub with_first_words : Table → (n : ℕ) → Table
with_first_words t n = cond (nat_lt (first_fit t n) (length t)) (take t (first_fit t n) n) t

-- one more segment, of which nothing is allocated: there are at most 64, each of fewer than 2 ^ 29 words
abbrev pub can_add : Table → (capacity : ℕ) → Bool
can_add t c = nat_lt (length t) 64 && nat_lt c 536870912

-- what adding it answers
abbrev pub added : Table → (capacity : ℕ) → Result (Unit {0}) AddError
added t c = cond (nat_lt (length t) 64) (cond (nat_lt c 536870912) (Ok tt) (Err TooLarge)) (Err Full)

abbrev pub with_segment : Table → (capacity : ℕ) → Table
with_segment t c = cond (can_add t c) (t ++ (fresh c ∷ [])) t

-- the segments of t, allocated as at the mark (and not beyond their capacity), later ones not at all
abbrev pub rolled_back : Table → (mark : Table) → Table
rolled_back [] m = []
rolled_back (s ∷ t) [] = fresh s.capacity ∷ rolled_back t []
rolled_back (s ∷ t) (k ∷ m) = record { allocated = min k.allocated s.capacity; capacity = s.capacity } ∷ rolled_back t m
