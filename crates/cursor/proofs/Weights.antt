-- The weight of a cursor falls.
use Rattle.std.proofs.Common.{◌≡◌, ℕ, suc, ◌+◌, ◌-◌, ◌*◌, ◌^◌, ◌<◌, ◌≤◌, List, ◌∷◌, length, sym, refl, ap, ◌∙◌, suc-mul, mul-pos, arith, pow_pos, shl_lt}
use Rattle.std.proofs.lemmas.Nat.{mul-le}
use Rattle.cursor.specs.Begun.{Begun}
use Rattle.cursor.specs.Weight.{left, weight}

-- what an object with n others below it weighs
abbrev share : ℕ → Begun → ℕ
share n b = left b * 2 ^ (66 * (64 - n))

weight_more : (b : Begun) (bs : List Begun) → weight (b ∷ bs) ≡ share (length bs) b + weight bs
unfolding weight
weight_more b bs = refl

-- a pointer less is at least one power less
share_less : (n : ℕ) (b b' : Begun) → left b' < left b → share n b' + 2 ^ (66 * (64 - n)) ≤ share n b
share_less n b b' h =
    let e = suc-mul (left b') (2 ^ (66 * (64 - n))) in
    let m = mul-le (suc (left b')) (2 ^ (66 * (64 - n))) (left b) (2 ^ (66 * (64 - n))) (omega arith) (omega arith) in
    omega arith

-- an object with one more below it weighs less than one power
share_above : (n : ℕ) (b : Begun) → n < 64 → left b < 2 ^ 66 → share (n + 1) b < 2 ^ (66 * (64 - n))
share_above n b l h =
    let e : 66 * (64 - n) ≡ 66 + 66 * (64 - (n + 1)) = omega arith in rw e (shl_lt 66 (66 * (64 - (n + 1))) h)

module _ (bs os : List Begun) (b : Begun) (before : bs ≡ b ∷ os) where
  pub falls_left : weight os < weight bs
  falls_left =
      let p : 0 < left b = omega arith in
      let s = mul-pos p (pow_pos (66 * (64 - length os))) in
      let e = ap weight before ∙ weight_more b os in
      omega arith

  pub falls_passed : (bs' : List Begun) (b' : Begun) → bs' ≡ b' ∷ os → left b' < left b → weight bs' < weight bs
  falls_passed bs' b' after h =
      let s = share_less (length os) b b' h in
      let p = pow_pos (66 * (64 - length os)) in
      let e = ap weight before ∙ weight_more b os in
      let f = ap weight after ∙ weight_more b' os in
      omega arith

  pub falls_entered : (bs' : List Begun) (b' new : Begun) → bs' ≡ new ∷ (b' ∷ os) → left b' < left b → left new < 2 ^ 66 → length bs < 64 → weight bs' < weight bs
  falls_entered bs' b' new after h l few =
      let n : length os < 64 = let k = ap length before in omega arith in
      let s = share_less (length os) b b' h in
      let a = share_above (length os) new n l in
      let e = ap weight before ∙ weight_more b os in
      let q : length os + 1 ≡ suc (length os) = omega arith in
      let f : weight bs' ≡ share (length os + 1) new + (share (length os) b' + weight os) =
      ap weight after ∙ (weight_more new (b' ∷ os) ∙ (ap (λ (i : ℕ). share i new + weight (b' ∷ os)) (sym q) ∙ ap (λ (i : ℕ). share (length os + 1) new + i) (weight_more b' os))) in
      omega arith
