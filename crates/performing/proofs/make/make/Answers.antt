-- The value stays, or becomes null; the rest is made by one call each.
use Rattle.std.proofs.Common.{refl, ap}
use Rattle.walk.specs.Landings.{landing_of}
use Rattle.deciding.specs.Edits.{making_of}
use Rattle.performing.proofs.Making.{kept, wiped_away}
use Rattle.performing.proofs.make.make.Goals as goal

pub returns-in-Keep : goal.returns-in-Keep
returns-in-Keep g c =
    record {
      outcome = λ u slot able.
          kept _ _ c.args.slot.segment c.args.slot.word u _ (landing_of c.follow.result) (ap (λ m. making_of m c.args.bytes.now) c.in-Keep.is) c.follow.ensures.value;
    }

pub returns-in-Wipe : goal.returns-in-Wipe
returns-in-Wipe g c =
    record {
      outcome = λ u slot able.
          wiped_away _ _ c.args.slot.segment c.args.slot.word u _ _ (ap (λ m. making_of m c.args.bytes.now) c.in-Wipe.is) c.clear_slot.ensures.rewritten
          (c.clear_slot.ensures.words _ u refl slot slot.sized slot.inside);
    }
