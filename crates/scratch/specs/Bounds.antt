-- That a scratch layer keeps the law of offers if the source below does.
use Rattle.std.specs.Prelude.{◌≡◌, ℕ, ◌^◌, ◌<◌, ◌≤◌, ◌&&◌, Some, Option, ◌==◌, nat_le}
use Rattle.std.proofs.Common.{arith}
use Rattle.std.proofs.lemmas.Bool.{cond_both, and_parts, leb-true}
use Rattle.segments.specs.Memory.{Bounded}
use Rattle.scratch.specs.Scratched.{scratch_serves, scratch_offers}

pub scratch_bounds : (n : ℕ) (below : ℕ → Option ℕ) → Bounded below → Bounded (scratch_offers n below)
scratch_bounds n below law m c =
    cond_both (scratch_serves n m) (Some 256) (below m) (λ x. x ≡ Some c → (1 ≤ m) × (m ≤ c) × (c < 2 ^ 29))
    (λ t e. let k : 256 ≡ c = cc in let a = and_parts (n == 0) (nat_le 1 m && nat_le m 256) t in let b = and_parts (nat_le 1 m) (nat_le m 256) a.1 in let p = leb-true 1 m b.0 in let q = leb-true m 256 b.1 in omega arith)
    (λ f e. law m c e)
