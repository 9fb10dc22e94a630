-- A path that leads to a site: what it meets is what the tree says.
use Rattle.std.proofs.Common.{sym, arith}
use Rattle.tree.specs.Words.{word}
use Rattle.tree.specs.Shows.{Memory}
use Rattle.judging.specs.declared.site.Site.{Site}
use Rattle.judging.specs.Sites.{Arrives}
use Rattle.judging.proofs.Arrivals.{stood}
use Rattle.judging.proofs.site.find_site.Goals as goal

pub returns : goal.returns
returns g c =
    let H : Memory = word (g.R.Reading.segments c.args.reading.now) in
    let s : Site = record { slot = c.in_ok-slot.slot; object = c.hold.result } in
    let m : Arrives H c.args.path.now s = record {
      good = grind (arith, c.in_ok-check_path.ensures.value);
      led = sym c.in_ok-slot.ensures.value;
      held = c.hold.ensures.value;
    } in
    record { value = m; sound = λ a v small shown. stood H c.args.path.now a v small shown s m }
