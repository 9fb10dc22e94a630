-- That a quota layer keeps the law of offers if the source below does.
use Rattle.std.specs.Prelude.{◌≡◌, ℕ, ◌+◌, Bool, true, false, cond, List, Some, None, Option, nat_le}
use Rattle.std.proofs.Common.{arith}
use Rattle.segments.specs.Memory.{Bounded}
use Rattle.quota.specs.Capped.{granted, capped, quota_offers}

-- what is left of an offer is that offer
capped_some : (t limit c : ℕ) (o : Option ℕ) → capped t limit o ≡ Some c → o ≡ Some c
capped_some t limit c None e = e
capped_some t limit c (Some d) e = go (nat_le (t + d) limit) e
  where
    go : (b : Bool) → cond b (Some d) None ≡ Some c → Some d ≡ Some c
    go true e = e
    go false e = let z : ◌≡◌ {A = ℕ} 0 1 = cc in absurd (omega arith)

pub quota_bounds : (m : List (List ℕ)) (limit : ℕ) (below : ℕ → Option ℕ) → Bounded below → Bounded (quota_offers m limit below)
quota_bounds m limit below law k c e = law k c (capped_some (granted m) limit c (below k) e)
