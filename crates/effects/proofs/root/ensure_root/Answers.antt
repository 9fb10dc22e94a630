-- The root word is there, or is allocated anywhere.
use Rattle.std.proofs.Common.{sym, refl, ◌∙◌}
use Rattle.std.proofs.lemmas.Bool.{eq-eqb, ne_eqb}
use Rattle.effects.specs.States.{meant, state_of}
use Rattle.effects.proofs.Allocations.{root_part, root_there, at_most}
use Rattle.effects.proofs.root.ensure_root.Goals as goal

pub returns-then-allocated-ne0 : goal.returns-then-allocated-ne0
returns-then-allocated-ne0 g c =
    let n = c.if-allocated-ne0.true in
    let v = c.allocated.ensures.value in
    record { outcome = (root_there _ _ (ne_eqb _ 0 (λ e. n (v ∙ e))), refl) }

pub returns : goal.returns
returns g c =
    let x = c.allocate_anywhere.new.self in
    record { outcome = root_part (meant g.S.Reading.segments g.S.Source.offers g.S.Source.first) _ (state_of (meant g.S.Reading.segments g.S.Source.offers g.S.Source.first) c.args.arena.now) x.source _ (at_most c.args.arena.now.table) (g.S.Source.bounds x.source) _ (eq-eqb _ 0 (sym c.allocated.ensures.value ∙ c.if-allocated-ne0.false)) c.allocate_anywhere.ensures.outcome }
