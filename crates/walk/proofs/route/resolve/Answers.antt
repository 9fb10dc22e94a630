-- What the steps give on words that show a tree.
use Rattle.std.proofs.Common.{◌≡◌, ◌∙◌, Ok, arith}
use Rattle.std.proofs.lemmas.Grind.{common_steps}
use Rattle.tree.specs.Words.{word}
use Rattle.tree.specs.Shows.{Memory}
use Rattle.walk.specs.Spots.{spot_at}
use Rattle.walk.specs.Slots.{slots_along}
use Rattle.walk.proofs.Along.{along_root}
use Rattle.walk.proofs.route.resolve.Goals as goal

pub returns-in_err-slot-clause-sound : goal.returns-in_err-slot-clause-sound
returns-in_err-slot-clause-sound g c =
    let H : Memory = word (g.R.Reading.segments c.args.reading.now) in
    let e : c.from_residual.result ≡ slots_along H (spot_at 0 0) c.args.path.now 0 = grind (arith, common_steps) in
    λ a v small shown. e ∙ along_root H a small c.args.path.now v shown

pub returns-clause-sound : goal.returns-clause-sound
returns-clause-sound g c =
    let H : Memory = word (g.R.Reading.segments c.args.reading.now) in
    let e : Ok c.loop-i.slot ≡ slots_along H (spot_at 0 0) c.args.path.now 0 = grind (arith, common_steps) in
    λ a v small shown. e ∙ along_root H a small c.args.path.now v shown
