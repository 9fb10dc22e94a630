-- That the page source keeps the law of offers.
use Rattle.std.specs.Prelude.{◌≡◌, ℕ, Bool, true, false, cond, ◌&&◌, Some, None, nat_le, nat_lt}
use Rattle.std.proofs.Common.{arith}
use Rattle.std.proofs.lemmas.Bool.{and_parts, leb-true}
use Rattle.segments.specs.Memory.{Bounded}
use Rattle.pages.specs.Paged.{page_offers}

-- an offer of 256 words that is made under a test
under : (b : Bool) (c : ℕ) → cond b (Some 256) None ≡ Some c → (b ≡ true) × (c ≡ 256)
under true c e = (cc, cc)
under false c e = let z : ◌≡◌ {A = ℕ} 0 1 = cc in absurd (omega arith)

pub page_bounds : (used : ℕ) → Bounded (page_offers used)
page_bounds used m c e =
    let u = under (nat_lt used 8 && (nat_le 1 m && nat_le m 256)) c e in
    let a = and_parts (nat_lt used 8) (nat_le 1 m && nat_le m 256) u.0 in
    let b = and_parts (nat_le 1 m) (nat_le m 256) a.1 in
    let p = leb-true 1 m b.0 in
    let q = leb-true m 256 b.1 in
    omega (arith, u.1)
