-- Entries that go back to a mark, one after another.
use Rattle.std.proofs.Common.{◌≡◌, ℕ, zero, suc, ◌+◌, ◌<◌, min, List, [], ◌∷◌, ◌++◌, map, length, get_or, set, take, drop, sym, refl, ap, ◌∙◌, add-one, arith}
use Rattle.std.proofs.lemmas.List.{get_or-map, map-set}
use Rattle.table.specs.declared.SegmentEntry.{SegmentEntry}
use Rattle.table.specs.Segments.{Segment, fresh, Table, allocated_in}
use Rattle.table.specs.Meaning.{segment_of, rolled_back}

-- the first k segments of t are at the mark
abbrev pub rolled_to : ℕ → (t m : Table) → Table
rolled_to k t m = rolled_back (take k t) m ++ drop k t

-- one more
pub rolled_more : (t m : Table) (k a c : ℕ) → k < length t → c ≡ (get_or (rolled_to k t m) k (fresh 0)).capacity → a ≡ min (allocated_in m k) c →
    set (rolled_to k t m) k (record { allocated = a; capacity = c }) ≡ rolled_to (suc k) t m
rolled_more [] m k a c h cap is = absurd (omega arith)
rolled_more (s ∷ t) [] zero a c h cap is =
    let z : a ≡ 0 = omega arith in
    rw (z, cap) refl
rolled_more (s ∷ t) (x ∷ m) zero a c h cap is = rw (is, cap) refl
rolled_more (s ∷ t) [] (suc k) a c h cap is = ap (λ (u : Table). fresh s.capacity ∷ u) (rolled_more t [] k a c (omega arith) cap is)
rolled_more (s ∷ t) (x ∷ m) (suc k) a c h cap is =
    ap (λ (u : Table). record { allocated = min x.allocated s.capacity; capacity = s.capacity } ∷ u) (rolled_more t m k a c (omega arith) cap is)

-- the entry that means it
pub rolled_entry : (es : List SegmentEntry) (t m : Table) (k : ℕ) (e d : SegmentEntry) → map segment_of es ≡ rolled_to k t m → k < length es → k < length t →
    e.capacity ≡ (get_or es k d).capacity → e.allocated ≡ min (allocated_in m k) e.capacity → map segment_of (set es k e) ≡ rolled_to (k + 1) t m
rolled_entry es t m k e d so_far h l cap is =
    let here : get_or (rolled_to k t m) k (fresh 0) ≡ segment_of (get_or es k d) = rw (sym so_far) (get_or-map segment_of es k d (fresh 0) h) in
    map-set segment_of es k e ∙
    (ap (λ (u : Table). set u k (segment_of e)) so_far ∙
    (rolled_more t m k e.allocated e.capacity l (cap ∙ ap (λ (s : Segment). s.capacity) (sym here)) is ∙ ap (λ (i : ℕ). rolled_to i t m) (sym (add-one k))))
