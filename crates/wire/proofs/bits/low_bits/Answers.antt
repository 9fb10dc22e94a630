-- A mask of n ones keeps the remainder by 2 ^ n, and a word is its own remainder by 2 ^ 64 and more.
use Rattle.std.proofs.Common.{ℕ, ◌-◌, ◌^◌, ◌<◌, ◌≤◌, sym, ap, ◌∙◌, mod-eq_of_lt, arith, pow_mono}
use lib.Bits.{bit_and}
use Rattle.std.proofs.lemmas.Nat.{and_mask, one_shl}
use Rattle.wire.proofs.bits.low_bits.Goals as goal

pub returns : goal.returns
returns c =
    record { value = ap (λ (m : ℕ). bit_and c.args.x (m - 1)) (one_shl c.args.n 64 c.if-n-ge64.false) ∙ and_mask c.args.x c.args.n }

pub returns-then-n-ge64 : goal.returns-then-n-ge64
returns-then-n-ge64 c =
    let h : 64 ≤ c.args.n = omega arith in
    let p : 2 ^ 64 ≤ 2 ^ c.args.n = pow_mono {i = 64} {j = c.args.n} h in
    let f : c.args.x < 2 ^ 64 = c.ranges.x.fits in
    record { value = sym (mod-eq_of_lt {n = c.args.x} {m = 2 ^ c.args.n} (omega arith)) }
