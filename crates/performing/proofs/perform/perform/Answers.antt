-- The edit at the slot of the call.
use Rattle.std.proofs.Common.{rules}
use Rattle.performing.proofs.Wholes.{slot_here, makes_at, able_there}
use Rattle.performing.proofs.perform.perform.Goals as goal

pub returns : goal.returns
returns g c =
    record {
      outcome = λ v k holds ready.
          c.whole.ensures.outcome v k holds ready.judged
          (λ a b r same slot post.
          let site = c.args.decision.site in
          let here = slot_here _ site.slot.segment site.slot.word _ _ ready.slot slot in
          let able = able_there _ _ v k site c.args.decision.making c.args.bytes.now same ready here in
          makes_at _ _ _ _ _ _ _ _ _ _ r ready.slot ready.making_is (search (rules, here, able, post)));
    }
