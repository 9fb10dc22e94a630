-- The number in the object of the call.
use Rattle.std.proofs.Common.{rules}
use Rattle.judging.specs.Rulings.{home_of}
use Rattle.performing.proofs.Wholes.{number_made}
use Rattle.performing.proofs.perform.perform_number.Goals as goal

pub returns : goal.returns
returns g c =
    record {
      outcome = λ v k holds ready.
          c.whole.ensures.outcome v k holds ready.judged
          (λ a b r same slot post.
          number_made _ _ _ _ v k c.args.held (home_of c.args.at.home) g.E.PrimitiveElement.code c.args.at.index (g.E.PrimitiveElement.bits c.args.x) _ r same ready slot
          (search (rules, post)) (search (rules, post)) (search (rules, post)));
    }
