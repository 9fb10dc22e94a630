-- A path that is refused, and one that leads to a site.
use Rattle.std.proofs.lemmas.Result.{err_from_is_err_and}
use Rattle.tree.specs.Words.{word}
use Rattle.law.specs.Reads.{number}
use Rattle.judging.specs.Rulings.{home_of}
use Rattle.judging.proofs.Looking.{refused_look, there_look}
use Rattle.judging.proofs.looks.read_number.Goals as goal

pub returns-in_err-site : goal.returns-in_err-site
returns-in_err-site g c =
    let p = err_from_is_err_and c.from_residual.result c.from_residual.ensures.1 in
    rw (p.1, p.2)
    (record {
      sound = refused_look (word (g.R.Reading.segments c.args.reading.now)) c.args.path.now (number (home_of c.args.at.home) g.E.PrimitiveElement.code c.args.at.index) c.in_err-site.field-0.0 c.in_err-site.ensures.sound;
      back = tt;
    })

pub returns : goal.returns
returns g c =
    record {
      sound = there_look (word (g.R.Reading.segments c.args.reading.now)) c.args.path.now (number (home_of c.args.at.home) g.E.PrimitiveElement.code c.args.at.index) c.in_ok-site.site _ c.in_ok-site.ensures.sound c.number_at.ensures.sound;
      back = c.number_at.ensures.back;
    }
