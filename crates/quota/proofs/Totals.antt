-- The words of the first segments, and that a write leaves them as many.
use Rattle.std.proofs.Common.{◌≡◌, ℕ, zero, suc, ◌+◌, ◌-◌, ◌^◌, ◌≤◌, min, List, [], ◌∷◌, length, get_or, take, set, Ok, Err, Result, refl, ap, ◌∙◌, add-one, arith, length-set}
use Rattle.segments.specs.declared.refusal.Outside.{Outside}
use Rattle.segments.specs.Calls.{Written}
use Rattle.segments.specs.Memory.{segment, counted, put}
use Rattle.quota.specs.Capped.{total, granted}

total_take_set : (m : List (List ℕ)) (n g : ℕ) (s : List ℕ) → length s ≡ length (get_or m g []) → total (take n (set m g s)) ≡ total (take n m)
total_take_set [] n g s e = refl
total_take_set (x ∷ m) zero zero s e = refl
total_take_set (x ∷ m) zero (suc g) s e = refl
total_take_set (x ∷ m) (suc n) zero s e = ap (λ k. k + total (take n m)) e
total_take_set (x ∷ m) (suc n) (suc g) s e = ap (λ k. length x + k) (total_take_set m n g s e)

granted_put : (m : List (List ℕ)) (g w v : ℕ) → granted (put m g w v) ≡ granted m
granted_put m g w v =
    let s = set (segment m g) w v in
    ap (λ n. total (take (min n (2 ^ 64 - 1)) (set m g s))) (length-set m g s) ∙ total_take_set m (counted m) g s (length-set (segment m g) w v)

-- a write changes no word's number
pub written_granted : {X : Type 0} (r : Result X Outside) (m n : List (List ℕ)) (g w v : ℕ) → Written r m n g w v → granted n ≡ granted m
written_granted (Ok x) m n g w v h = ap granted h.memory ∙ granted_put m g w v
written_granted (Err y) m n g w v h = ap granted h.memory

-- the words of one segment more
pub total_take_more : (m : List (List ℕ)) (g : ℕ) → total (take (g + 1) m) ≡ total (take g m) + length (segment m g)
total_take_more m g = rw add-one (go m g)
  where
    go : (m : List (List ℕ)) (g : ℕ) → total (take (suc g) m) ≡ total (take g m) + length (segment m g)
    go [] zero = refl
    go [] (suc g) = refl
    go (x ∷ m) zero = omega arith
    go (x ∷ m) (suc g) = let e = go m g in omega arith

pub total_take_le : (m : List (List ℕ)) (g n : ℕ) → g ≤ n → total (take g m) ≤ total (take n m)
total_take_le m zero n h = omega arith
total_take_le m (suc g) zero h = absurd (omega arith)
total_take_le [] (suc g) (suc n) h = omega arith
total_take_le (x ∷ m) (suc g) (suc n) h = let e = total_take_le m g n (omega arith) in omega arith
