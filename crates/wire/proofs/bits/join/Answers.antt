-- What is shifted up by n loses nothing, and leaves n bits free.
use Rattle.std.proofs.Common.{ℕ, ◌-◌, ap, ◌∙◌, arith}
use lib.Bits.{bit_or}
use Rattle.std.proofs.lemmas.Nat.{or_shifted, shl_whole}
use Rattle.wire.proofs.bits.join.Goals as goal

pub returns : goal.returns
returns c =
    ap (λ (m : ℕ). bit_or m c.args.low) (shl_whole c.args.high (64 - c.args.n) c.args.n 64 c.requires.high (omega arith)) ∙
    or_shifted c.args.high c.args.n c.args.low c.requires.low
