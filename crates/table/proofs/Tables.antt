-- What allocations leave of the table.
use Rattle.std.proofs.Common.{◌≡◌, ℕ, zero, suc, ◌+◌, ◌<◌, ◌≤◌, List, [], ◌∷◌, ◌++◌, length, refl, ap, arith}
use Rattle.table.specs.Segments.{Segment, Table, allocated_in, left_in, capacities, take, first_fit, all_fresh}

-- ## Capacities

pub capacities_length : (t : Table) → length (capacities t) ≡ length t
capacities_length [] = refl
capacities_length (s ∷ t) = ap suc (capacities_length t)

pub capacities_append : (t u : Table) → capacities (t ++ u) ≡ capacities t ++ capacities u
capacities_append [] u = refl
capacities_append (s ∷ t) u = ap (λ l. s.capacity ∷ l) (capacities_append t u)

pub capacities_fresh : (cs : List ℕ) → capacities (all_fresh cs) ≡ cs
capacities_fresh [] = refl
capacities_fresh (c ∷ cs) = ap (λ l. c ∷ l) (capacities_fresh cs)

pub capacities_take : (t : Table) (g n : ℕ) → capacities (take t g n) ≡ capacities t
capacities_take [] g n = refl
capacities_take (s ∷ t) zero n = refl
capacities_take (s ∷ t) (suc g) n = ap (λ l. s.capacity ∷ l) (capacities_take t g n)

-- ## Counts

pub take_more : (t : Table) (g n x : ℕ) → allocated_in t x ≤ allocated_in (take t g n) x
take_more [] g n x = omega arith
take_more (s ∷ t) zero n zero = omega arith
take_more (s ∷ t) zero n (suc x) = omega arith
take_more (s ∷ t) (suc g) n zero = omega arith
take_more (s ∷ t) (suc g) n (suc x) = take_more t g n x

pub take_here : (t : Table) (g n : ℕ) → n ≤ left_in t g → allocated_in t g + n ≤ allocated_in (take t g n) g
take_here [] g n h = omega arith
take_here (s ∷ t) zero n h = omega arith
take_here (s ∷ t) (suc g) n h = take_here t g n h

pub append_more : (t u : Table) (x : ℕ) → allocated_in t x ≤ allocated_in (t ++ u) x
append_more [] u x = omega arith
append_more (s ∷ t) u zero = omega arith
append_more (s ∷ t) u (suc x) = append_more t u x

pub append_here : (t : Table) (s : Segment) → allocated_in (t ++ (s ∷ [])) (length t) ≡ s.allocated
append_here [] s = refl
append_here (u ∷ t) s = append_here t s

-- no segment has the number of segments
pub past_none : (t : Table) → allocated_in t (length t) ≡ 0
past_none [] = refl
past_none (s ∷ t) = past_none t

fresh_none : (cs : List ℕ) (x : ℕ) → allocated_in (all_fresh cs) x ≡ 0
fresh_none [] x = refl
fresh_none (c ∷ cs) zero = refl
fresh_none (c ∷ cs) (suc x) = fresh_none cs x

pub append_fresh : (t : Table) (cs : List ℕ) (x : ℕ) → allocated_in (t ++ all_fresh cs) x ≡ allocated_in t x
append_fresh [] cs x = fresh_none cs x
append_fresh (s ∷ t) cs zero = refl
append_fresh (s ∷ t) cs (suc x) = append_fresh t cs x

-- ## The first segment with words left

pub first_fits : (t : Table) (n : ℕ) → first_fit t n < length t → n ≤ left_in t (first_fit t n)
first_fits [] n h = absurd (omega arith)
first_fits (s ∷ t) n h = grind (arith, first_fits t n)
