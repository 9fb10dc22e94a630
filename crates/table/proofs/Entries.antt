-- The entries in memory, and the segments that they mean.
use Rattle.std.proofs.Common.{◌≡◌, ℕ, zero, suc, ◌+◌, ◌-◌, ◌^◌, ◌<◌, ◌≤◌, Bool, true, cond, ltb, leb, ◌&&◌, List, [], ◌∷◌, map, length, get_or, set, Some, sym, refl, ap, ◌∙◌, arith}
use lib.ListN.{take as front}
use Rattle.std.specs.List.{position, position_or_len, slice_get}
use Rattle.std.specs.Option.{option_map_or}
use Rattle.std.proofs.lemmas.List.Recursion.{is_position_or_len}
use Rattle.std.proofs.lemmas.List.{length-map, length-take}
use Rattle.std.proofs.lemmas.Bool.{ltb-true, lt-ltb, and_from, le-leb}
use Rattle.std.proofs.lemmas.Option.{cond_some}
use Rattle.table.specs.declared.SegmentEntry.{SegmentEntry}
use Rattle.table.specs.declared.SegmentTable.{SegmentTable}
use Rattle.table.specs.Segments.{Table, allocated_in, left_in, capacities, take, first_fit}
use Rattle.table.specs.Meaning.{segment_of, table_of, has_room, next_words, first_room}
use Rattle.table.proofs.Tables.{first_fits}

pub allocated-map : (es : List SegmentEntry) (g : ℕ) → allocated_in (map segment_of es) g ≡ option_map_or (λ e. e.allocated) (slice_get es g) 0
allocated-map [] g = refl
allocated-map (e ∷ es) zero = refl
allocated-map (e ∷ es) (suc g) = allocated-map es g

-- ## The first segment with words left

first_fit-map : (es : List SegmentEntry) (n : ℕ) → first_fit (map segment_of es) n ≡ position_or_len (λ e. leb n (e.capacity - e.allocated)) es
first_fit-map es n =
    is_position_or_len (λ l. first_fit (map segment_of l) n) (λ e. leb n (e.capacity - e.allocated)) refl
    (λ e l. ap (cond (leb n (e.capacity - e.allocated)) 0) (omega arith)) es

pub first_room-map : (es : List SegmentEntry) (n : ℕ) → first_room (map segment_of es) n ≡ position (λ e. leb n (e.capacity - e.allocated)) es
first_room-map es n = rw (first_fit-map es n, length-map es segment_of)

-- it has them
pub first_taken : (t : Table) (n g : ℕ) → first_room t n ≡ Some g → next_words t g n ≡ Some (allocated_in t g)
first_taken t n g e =
    let c = cond_some (ltb (first_fit t n) (length t)) (first_fit t n) g e in
    let f = first_fits t n (ltb-true _ _ c.0) in
    let b : has_room t (first_fit t n) n ≡ true =
    and_from (ltb (first_fit t n) (length t)) (leb n (left_in t (first_fit t n))) c.0 (le-leb n (left_in t (first_fit t n)) f) in
    rw (sym c.1, b)

-- ## One segment

-- where the segment is there, room is what is left
pub has_room-left : (t : Table) (g n : ℕ) → g < length t → has_room t g n ≡ leb n (left_in t g)
has_room-left t g n h = ap (λ (b : Bool). b && leb n (left_in t g)) (lt-ltb g (length t) h)

module _ (e : SegmentEntry) where
  pub allocated_here : (es : List SegmentEntry) (g : ℕ) → g < length es → e ≡ get_or es g e → allocated_in (map segment_of es) g ≡ e.allocated
  allocated_here [] g h is = absurd (omega arith)
  allocated_here (x ∷ es) zero h is = ap (λ (y : SegmentEntry). y.allocated) (sym is)
  allocated_here (x ∷ es) (suc g) h is = allocated_here es g (omega arith) is

  pub left_here : (es : List SegmentEntry) (g : ℕ) → g < length es → e ≡ get_or es g e → left_in (map segment_of es) g ≡ e.capacity - e.allocated
  left_here [] g h is = absurd (omega arith)
  left_here (x ∷ es) zero h is = ap (λ (y : SegmentEntry). y.capacity - y.allocated) (sym is)
  left_here (x ∷ es) (suc g) h is = left_here es g (omega arith) is

  pub room_here : (es : List SegmentEntry) (g n : ℕ) → g < length es → e ≡ get_or es g e → has_room (map segment_of es) g n ≡ leb n (e.capacity - e.allocated)
  room_here es g n h is = has_room-left (map segment_of es) g n (rw (length-map es segment_of) h) ∙ ap (leb n) (left_here es g h is)

-- n more words of it
pub take_written : (count : ℕ) (es : List SegmentEntry) (g n : ℕ) (e d d' : SegmentEntry) → e.allocated ≡ (get_or es g d).allocated + n →
    e.capacity ≡ (get_or es g d').capacity → map segment_of (front count (set es g e)) ≡ take (map segment_of (front count es)) g n
take_written zero es g n e d d' a c = refl
take_written (suc k) [] g n e d d' a c = refl
take_written (suc k) (x ∷ es) zero n e d d' a c = rw (a, c) refl
take_written (suc k) (x ∷ es) (suc g) n e d d' a c = ap (λ (t : Table). segment_of x ∷ t) (take_written k es g n e d d' a c)

pub allocated_past : (t : Table) (g : ℕ) → length t ≤ g → allocated_in t g ≡ 0
allocated_past [] g h = refl
allocated_past (s ∷ t) zero h = absurd (omega arith)
allocated_past (s ∷ t) (suc g) h = allocated_past t g (omega arith)

-- ## The bounds that every entry keeps

pub allocated_within : (es : List SegmentEntry) (g : ℕ) → allocated_in (map segment_of es) g ≤ get_or (capacities (map segment_of es)) g 0
allocated_within [] g = omega arith
allocated_within (e ∷ es) zero = e.within
allocated_within (e ∷ es) (suc g) = allocated_within es g

pub allocated_small : (es : List SegmentEntry) (g : ℕ) → allocated_in (map segment_of es) g < 2 ^ 29
allocated_small [] g = omega arith
allocated_small (e ∷ es) zero = let a = e.within in let b = e.small in omega arith
allocated_small (e ∷ es) (suc g) = allocated_small es g

-- a table has at most 64 segments
pub segments_few : (t : SegmentTable) → length (table_of t) ≤ 64
segments_few t = let x = t.few in omega (arith, length-map (front t.count t.entries) segment_of, length-take t.count t.entries)
