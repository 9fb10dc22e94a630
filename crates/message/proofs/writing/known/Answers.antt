-- Bits and back.
use Rattle.std.proofs.Common.{ap, ◌∙◌, arith}
use Rattle.message.proofs.Lawful.{bits_back}
use Rattle.message.proofs.writing.known.Goals as goal

pub returns : goal.returns
returns g c =
    let laws = g.met.E.PrimitiveElement.laws in
    let small = laws.small c.args.x c.to_bits.ensures.fits in
    record {
      same = c.from_bits.ensures.value ∙ (ap g.E.PrimitiveElement.value (bits_back _ _ _ c.to_bits.ensures.bits small) ∙ laws.back c.args.x c.to_bits.ensures.fits);
      typed = λ h i. (let k = laws.known in omega arith, small);
    }
