-- A path that is refused, a number that is refused, and one that has its place.
use Rattle.std.proofs.lemmas.Result.{err_from_is_err_and}
use Rattle.wire.specs.Sizes.{code_of}
use Rattle.tree.specs.Words.{word}
use Rattle.tree.specs.Value.{value_at}
use Rattle.tree.specs.Shows.{Memory}
use Rattle.walk.specs.Slots.{steps_of}
use Rattle.judging.specs.Rulings.{answer_of, home_of}
use Rattle.deciding.specs.Deciding.{number_call}
use Rattle.deciding.proofs.Verdicts.{path_wrong, number_wrong, lodges}
use Rattle.deciding.proofs.numbers.decide_number.Goals as goal

pub returns-in_err-site : goal.returns-in_err-site
returns-in_err-site g c =
    let p = err_from_is_err_and c.from_residual.result c.from_residual.ensures.1 in
    rw (p.1, p.2)
    (record { sound = λ a v small shown x. path_wrong v (number_call (steps_of c.args.path.now) (home_of c.args.at.home) g.E.PrimitiveElement.code c.args.at.index x) (answer_of c.in_err-site.field-0.0) (c.in_err-site.ensures.sound a v small shown) })

pub returns-in_err-held : goal.returns-in_err-held
returns-in_err-held g c =
    let H : Memory = word (g.R.Reading.segments c.args.reading.now) in
    let p = err_from_is_err_and c.from_residual-in_err-held.result c.from_residual-in_err-held.ensures.1 in
    rw (p.1, p.2)
    (record {
      sound = λ a v small shown.
          let m = c.in_ok-site.ensures.sound a v small shown in
          number_wrong H v (steps_of c.args.path.now) (home_of c.args.at.home) (code_of c.element_size.result) g.E.PrimitiveElement.code c.args.at.index c.element_size.ensures.value c.in_err-held.field-0.0 m.judged (c.in_err-held.ensures.value (value_at v (steps_of c.args.path.now)) m.shape);
    })

pub returns : goal.returns
returns g c =
    let H : Memory = word (g.R.Reading.segments c.args.reading.now) in
    record {
      sound = λ a v small shown.
          let m = c.in_ok-site.ensures.sound a v small shown in
          let k = c.in_ok-held.ensures.value (value_at v (steps_of c.args.path.now)) m.shape in
          lodges H v (steps_of c.args.path.now) (home_of c.args.at.home) (code_of c.element_size.result) g.E.PrimitiveElement.code c.args.at.index c.element_size.ensures.value c.in_ok-site.site c.in_ok-held.held m k.0 k.1;
    }
