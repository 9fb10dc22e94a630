-- A number that is refused, and a number that is read.
use Rattle.std.proofs.Common.{◌≡◌, ℕ, sym, ap, ◌∙◌}
use Rattle.std.proofs.lemmas.Result.{err_from_is_err_and}
use Rattle.wire.specs.Sizes.{code_of}
use Rattle.wire.specs.Elements.{element_in}
use Rattle.tree.specs.Words.{word}
use Rattle.tree.specs.Shows.{Memory}
use Rattle.law.specs.Calls.{Home, value}
use Rattle.judging.specs.Rulings.{home_of}
use Rattle.judging.proofs.Arrivals.{shape_found, led_to}
use Rattle.judging.proofs.Looking.{number_refused, number_there, picked_small}
use Rattle.judging.proofs.looks.number_at.Goals as goal

pub returns-in_err-held : goal.returns-in_err-held
returns-in_err-held g c =
    let H : Memory = word (g.R.Reading.segments c.args.reading.now) in
    let p = err_from_is_err_and c.from_residual.result c.from_residual.ensures.1 in
    rw (p.1, p.2)
    (record {
      sound = λ held a u small shown.
          number_refused (home_of c.args.at.home) (code_of c.element_size-element.result) g.E.PrimitiveElement.code c.args.at.index u c.in_err-held.field-0.0 c.element_size-element.ensures.value
          (c.in_err-held.ensures.value u (shape_found H a c.args.site.slot.segment c.args.site.slot.word u c.args.site.object shown held));
      back = tt;
    })

pub returns : goal.returns
returns g c =
    let H : Memory = word (g.R.Reading.segments c.args.reading.now) in
    let G : ℕ = c.args.site.slot.segment in
    let W : ℕ = c.args.site.slot.word in
    let h : Home = home_of c.args.at.home in
    let code : ℕ = g.E.PrimitiveElement.code in
    let i : ℕ = c.args.at.index in
    let x : ℕ = c.word_at.result in
    let back : g.E.PrimitiveElement.bits c.get_element.result ≡ element_in x code i = ap g.E.PrimitiveElement.bits c.get_element.ensures.value ∙ g.met.E.PrimitiveElement.laws.forth (element_in x code i) (picked_small x code i) in
    record {
      sound = λ held a u small shown.
          let k = c.in_ok-held.ensures.value u (shape_found H a G W u c.args.site.object shown held) in
          ap value back ∙ number_there H a G W h code i c.in_ok-held.held (led_to H G W c.args.site.object c.in_ok-held.held k.0 held) small (code_of c.element_size-element.result) c.element_size-element.ensures.value u c.number_word.result c.wrapping_add-spot.result.word x shown k.1 c.number_word.ensures.value c.wrapping_add-spot.ensures.word (c.word_at.ensures.value ∙ ap (λ (z : ℕ). H z c.wrapping_add-spot.result.word) c.wrapping_add-spot.ensures.segment);
      back = ap g.E.PrimitiveElement.value back ∙ sym c.get_element.ensures.value;
    }
