-- A cursor's objects, one more and one less.
use Rattle.std.proofs.Common.{◌≡◌, ℕ, zero, suc, ◌+◌, ◌-◌, ◌<◌, ◌≤◌, ◌≢◌, List, ◌∷◌, length, get_or, set, refl, ap, ◌∙◌, ap₂, add-one, arith}
use Rattle.std.proofs.lemmas.List.{get_or-set_same, get_or-set_other}
use Rattle.cursor.specs.declared.Frame.{Frame}
use Rattle.cursor.specs.declared.Cursor.{Cursor}
use Rattle.cursor.specs.Begun.{Begun, begun_of, no_frame, newest, stack}

pub newest_length : (n : ℕ) (fs : List Frame) → length (newest n fs) ≡ n
newest_length zero fs = refl
newest_length (suc n) fs = ap suc (newest_length n fs)

pub stack_few : (c : Cursor) → length (stack c) ≤ 64
stack_few c = let l = newest_length c.depth c.frames in let f = c.few in omega arith

-- what stands behind the first n does not count
newest_set : (n k : ℕ) (fs : List Frame) (f : Frame) → n ≤ k → newest n (set fs k f) ≡ newest n fs
newest_set zero k fs f h = refl
newest_set (suc n) k fs f h =
    let d : n ≢ k = omega arith in
    ap₂ (λ (x : Frame) (bs : List Begun). begun_of x ∷ bs) (get_or-set_other fs k n f no_frame d) (newest_set n k fs f (omega arith))

pub newest_more : (n : ℕ) (fs : List Frame) (f : Frame) → n < length fs → newest (n + 1) (set fs n f) ≡ begun_of f ∷ newest n fs
newest_more n fs f h =
    ap (λ (k : ℕ). newest k (set fs n f)) (add-one n) ∙
    ap₂ (λ (x : Frame) (bs : List Begun). begun_of x ∷ bs) (get_or-set_same fs n f no_frame h) (newest_set n n fs f (omega arith))

pub newest_less : (n : ℕ) (fs : List Frame) → 0 < n → newest n fs ≡ begun_of (get_or fs (n - 1) no_frame) ∷ newest (n - 1) fs
newest_less zero fs h = absurd (omega arith)
newest_less (suc n) fs h = let e : suc n - 1 ≡ n = omega arith in rw e
