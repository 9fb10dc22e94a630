-- No other element changes.
use Rattle.std.proofs.Common.{rules}
use Rattle.wire.proofs.Splices.{element_others}
use Rattle.elements.proofs.put_element.Goals as goal

pub returns-clause-others : goal.returns-clause-others
returns-clause-others g c = λ j same other.
    let laws = g.met.E.PrimitiveElement.laws in
    search (rules, element_others, laws.known, laws.small)
