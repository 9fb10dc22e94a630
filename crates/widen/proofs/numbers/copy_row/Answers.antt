-- One number after another.
use Rattle.std.proofs.Common.{◌≡◌, ℕ, ◌+◌, ◌%◌, ◌^◌, ◌<◌, min, refl, ap, ◌∙◌, subst, arith}
use Rattle.tree.specs.Value.{places, change}
use Rattle.table.specs.Segments.{allocated_in}
use Rattle.law.specs.Law.{State, memory}
use Rattle.walk.specs.Landings.{landing_of}
use Rattle.walk.specs.Shapes.{shape_meant, number_of}
use Rattle.walk.specs.declared.spot.Spot.{Spot}
use Rattle.effects.specs.States.{meant, state_of, Sized}
use Rattle.widen.specs.Numbers.{number_copied}
use Rattle.widen.proofs.Copying.{rewritten_then, copies_on, put_more, number_put}
use Rattle.widen.proofs.Spots.{spot_is}
use Rattle.widen.proofs.numbers.copy_row.Goals as goal

pub loop-k-preserved : goal.loop-k-preserved
loop-k-preserved g c =
    let few : c.loop-k.k < min (places (shape_meant c.args.old.shape)) (places (shape_meant c.args.new.shape)) =
    let a = c.loop-k-test.true in let b = c.places.ensures.value in let d = c.places-2.ensures.value in let e = c.min-k-end.ensures in omega arith in
    let now : State = state_of (meant g.S.Reading.segments g.S.Source.offers g.S.Source.first) c.loop-k.arena in
    let end : State = state_of (meant g.S.Reading.segments g.S.Source.offers g.S.Source.first) c.write_word.new.arena in
    let at_from =
    spot_is c.wrapping_add-from.result _ _ c.wrapping_add-from.ensures.segment
    (c.wrapping_add-from.ensures.word ∙ ap (λ (x : ℕ). (c.args.old.landing.start.word + x) % 2 ^ 64) c.place_word.ensures.value) in
    let at_to =
    spot_is c.wrapping_add-to.result _ _ c.wrapping_add-to.ensures.segment
    (c.wrapping_add-to.ensures.word ∙ ap (λ (x : ℕ). (c.args.new.start.word + x) % 2 ^ 64) c.place_word-in-loop-k.ensures.value) in (
      rewritten_then _ _ _ c.loop-k.invariant.0 c.write_word.ensures.rewritten,
      λ mark h hi.
          let k = c.loop-k.invariant.1 mark h hi in
          put_more mark
          (number_copied (memory mark) (landing_of c.args.old.landing) (shape_meant c.args.old.shape) c.args.new.start.segment c.args.new.start.word (shape_meant c.args.new.shape) c.args.i)
          (state_of (meant g.S.Reading.segments g.S.Source.offers g.S.Source.first) c.args.arena.now)
          c.loop-k.k
          now
          end
          k
          (number_put mark now c.loop-k.arena.table
          (landing_of c.args.old.landing) (shape_meant c.args.old.shape) c.args.new.start.segment c.args.new.start.word (shape_meant c.args.new.shape) c.args.i c.loop-k.k
          _ _
          c.number_in-x.result
          refl
          (copies_on mark _ _ _ _ _ _ _ h c.loop-k.invariant.0 k.prepared)
          hi few refl refl
          (c.number_in-x.ensures.value ∙
          (ap (λ (x : ℕ). number_of (shape_meant c.args.old.shape) x c.args.i) c.word_at.ensures.value ∙
          ap (λ (z : Spot). number_of (shape_meant c.args.old.shape) (memory now z.segment z.word) c.args.i) at_from))
          end
          c.write_word.ensures.rewritten
          (subst
          (λ (z : Spot). Sized now → z.word < allocated_in now.table z.segment → memory end ≡ change (memory now) z.segment z.word c.number_in-x.result)
          at_to
          c.write_word.ensures.words)),
    )
