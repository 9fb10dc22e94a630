-- One word, or none.
use Rattle.std.proofs.Common.{refl}
use Rattle.effects.proofs.Writing.{rewritten_none}
use Rattle.judging.specs.Rulings.{home_of}
use Rattle.making.proofs.Numbers.{unwritten, number_inside, numbered, some_bits, no_bits}
use Rattle.making.proofs.set.set_number.Goals as goal

pub returns-then-bits-eq0 : goal.returns-then-bits-eq0
returns-then-bits-eq0 g c =
    let b = no_bits _ _ g.E.PrimitiveElement.code c.bits.ensures.value c.element_size-element.ensures.value c.if-bits-eq0.true in
    record { rewritten = rewritten_none _; words = λ gg w u slot leads fine. unwritten _ gg w u (home_of c.args.at.home) g.E.PrimitiveElement.code c.args.at.index (g.E.PrimitiveElement.bits c.args.x) b }

pub returns : goal.returns
returns g c =
    let same = c.element_size-element.ensures.value in
    let b = some_bits _ _ g.E.PrimitiveElement.code c.bits.ensures.value same c.if-bits-eq0.false in
    record {
      rewritten = c.put_number.ensures.rewritten;
      words = λ gg w u slot leads fine.
          let k = number_inside _ gg w c.args.held leads (home_of c.args.at.home) _ _ c.args.at.index 0 _ _ same b c.number_word.ensures.value c.wrapping_add-spot.ensures.segment c.wrapping_add-spot.ensures.word u slot fine in
          numbered _ gg w c.args.held leads (home_of c.args.at.home) _ _ c.args.at.index (g.E.PrimitiveElement.bits c.args.x) _ _ same b c.number_word.ensures.value c.wrapping_add-spot.ensures.segment c.wrapping_add-spot.ensures.word u _ slot fine
          (c.put_number.ensures.words slot.sized k);
    }
