-- A path that is refused, an edit that is refused, and one that is settled.
use Rattle.std.proofs.Common.{◌∙◌}
use Rattle.std.proofs.lemmas.Result.{err_from_is_err_and}
use Rattle.tree.specs.Words.{word}
use Rattle.tree.specs.Value.{value_at}
use Rattle.tree.specs.Shows.{Memory}
use Rattle.walk.specs.Slots.{steps_of}
use Rattle.judging.specs.Rulings.{answer_of}
use Rattle.deciding.specs.Deciding.{call_of}
use Rattle.deciding.proofs.Verdicts.{path_wrong, path_fine, settles}
use Rattle.deciding.proofs.decision.decide.Goals as goal

pub returns-in_err-site : goal.returns-in_err-site
returns-in_err-site g c =
    let p = err_from_is_err_and c.from_residual.result c.from_residual.ensures.1 in
    rw (p.1, p.2)
    (record {
      typed = c.typed.ensures;
      sound = λ a v small shown. path_wrong v (call_of (steps_of c.args.path.now) c.args.edit c.args.bytes.now) (answer_of c.in_err-site.field-0.0) (c.in_err-site.ensures.sound a v small shown);
    })

pub returns-in_err-making : goal.returns-in_err-making
returns-in_err-making g c =
    let p = err_from_is_err_and c.from_residual-in_err-making.result c.from_residual-in_err-making.ensures.1 in
    rw (p.1, p.2)
    (record {
      typed = c.typed.ensures;
      sound = λ a v small shown.
          let m = c.in_ok-site.ensures.sound a v small shown in
          path_fine v (call_of (steps_of c.args.path.now) c.args.edit c.args.bytes.now) m.judged ∙ c.in_err-making.ensures.value (value_at v (steps_of c.args.path.now)) m.shape;
    })

pub returns-clause-sound : goal.returns-clause-sound
returns-clause-sound g c = λ a v small shown.
    let H : Memory = word (g.R.Reading.segments c.args.reading.now) in
    let m = c.in_ok-site.ensures.sound a v small shown in
    settles H v (steps_of c.args.path.now) c.args.edit c.args.bytes.now c.in_ok-site.site c.in_ok-making.making c.shape.result m (c.in_ok-making.ensures.value (value_at v (steps_of c.args.path.now)) m.shape) c.shape.ensures
