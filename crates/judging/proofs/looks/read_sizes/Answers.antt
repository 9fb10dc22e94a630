-- A path that is refused, and one that leads to a site.
use Rattle.std.proofs.Common.{◌∙◌}
use Rattle.std.proofs.lemmas.Result.{err_from_is_err_and}
use Rattle.tree.specs.Words.{word}
use Rattle.tree.specs.Shows.{Memory}
use Rattle.law.specs.Reads.{shape}
use Rattle.judging.proofs.Arrivals.{shape_found}
use Rattle.judging.proofs.Looking.{refused_look, there_look, sizes_there}
use Rattle.judging.proofs.looks.read_sizes.Goals as goal

pub returns-in_err-site : goal.returns-in_err-site
returns-in_err-site g c =
    let p = err_from_is_err_and c.from_residual.result c.from_residual.ensures.1 in
    rw (p.1, p.2)
    (record { sound = refused_look (word (g.R.Reading.segments c.args.reading.now)) c.args.path.now shape c.in_err-site.field-0.0 c.in_err-site.ensures.sound })

pub returns : goal.returns
returns g c =
    let H : Memory = word (g.R.Reading.segments c.args.reading.now) in
    record {
      sound = there_look H c.args.path.now shape c.in_ok-site.site _ c.in_ok-site.ensures.sound
          (λ held a u small shown. sizes_there u c.shape.result (c.shape.ensures.value ∙ shape_found H a c.in_ok-site.site.slot.segment c.in_ok-site.site.slot.word u c.in_ok-site.site.object shown held));
    }
