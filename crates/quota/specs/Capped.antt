-- The words that are granted, and what a quota layer leaves of an offer.
use Rattle.std.specs.Prelude.{◌≡◌, ℕ, ◌+◌, ◌^◌, ◌<◌, cond, List, [], ◌∷◌, length, take, Some, None, Option, nat_le}
use Rattle.std.proofs.Common.{ap, arith}
use Rattle.std.proofs.lemmas.List.{take_all}
use Rattle.segments.specs.Memory.{counted}

-- how many words some segments have in all
abbrev pub total : List (List ℕ) → ℕ
total [] = 0
total (s ∷ m) = length s + total m

-- how many words are granted: those of every segment that the count shows, which is every segment while there are fewer than 2^64
abbrev pub granted : List (List ℕ) → ℕ
granted m = total (take (counted m) m)

pub granted_all : (m : List (List ℕ)) → length m < 2 ^ 64 → granted m ≡ total m
granted_all m h = ap total (take_all (counted m) m (omega arith))

-- what a limit leaves of an offer, with t words granted: the offer if t and the offered capacity stay within it, and otherwise nothing
abbrev pub capped : (t limit : ℕ) → Option ℕ → Option ℕ
capped t limit None = None
capped t limit (Some c) = cond (nat_le (t + c) limit) (Some c) None

-- an offer that a limit does not leave
abbrev pub over : (t limit : ℕ) → Option ℕ → Option ℕ
over t limit None = None
over t limit (Some c) = cond (nat_le (t + c) limit) None (Some c)

-- what is offered below, if the words granted over the segments m then stay within the limit
abbrev pub quota_offers : List (List ℕ) → ℕ → (ℕ → Option ℕ) → ℕ → Option ℕ
quota_offers m limit below k = capped (granted m) limit (below k)
