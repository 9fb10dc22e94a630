-- That a slab keeps the law of offers.
use Rattle.std.specs.Prelude.{◌≡◌, ℕ, ◌+◌, ◌^◌, ◌<◌, ◌≤◌, min, max, Bool, true, false, cond, ◌&&◌, Some, None, nat_le, nat_lt, refl}
use Rattle.std.proofs.Common.{arith}
use Rattle.std.proofs.lemmas.Bool.{and_parts, leb-true, ltb-true}
use Rattle.segments.specs.Memory.{Bounded}
use Rattle.word_slab.specs.Cuts.{slab_left, slab_offers}

-- an offer that is made under a test
offered : (b : Bool) (x c : ℕ) → cond b (Some x) None ≡ Some c → (b ≡ true) × (x ≡ c)
offered true x c e = (refl, cc)
offered false x c e = let z : ◌≡◌ {A = ℕ} 0 1 = cc in absurd (omega arith)

-- what is known where a slab offers c words
pub slab_offers_some : (words step used cut m c : ℕ) → slab_offers words step used cut m ≡ Some c → (1 ≤ m) × (m ≤ c) × (c < 2 ^ 29) × (cut < 64) × (used + c ≤ words)
slab_offers_some words step used cut m c e =
    let r = slab_left words used in
    let o = offered (nat_le 1 m && (nat_le m r && nat_lt cut 64)) (min r (max m (max step 1))) c e in
    let a = and_parts (nat_le 1 m) (nat_le m r && nat_lt cut 64) o.0 in
    let b = and_parts (nat_le m r) (nat_lt cut 64) a.1 in
    let p = leb-true 1 m a.0 in
    let q = leb-true m r b.0 in
    let t = ltb-true cut 64 b.1 in
    omega (arith, o.1)

pub slab_bounds : (words step used cut : ℕ) → Bounded (slab_offers words step used cut)
slab_bounds words step used cut m c e = let h = slab_offers_some words step used cut m c e in (h.0, h.1, h.2)
