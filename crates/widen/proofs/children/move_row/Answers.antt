-- One child after another.
use Rattle.std.proofs.Common.{◌≡◌, ℕ, ◌+◌, ◌%◌, ◌^◌, ◌<◌, Ok, Err, refl, ap, ◌∙◌, subst, arith}
use Rattle.std.proofs.lemmas.Result.{err_from_is_err_and}
use Rattle.tree.specs.Value.{pointers}
use Rattle.table.specs.Placing.{each}
use Rattle.law.specs.Law.{memory}
use Rattle.walk.specs.Landings.{landing_of}
use Rattle.walk.specs.Shapes.{shape_meant}
use Rattle.effects.specs.States.{meant, state_of}
use Rattle.effects.specs.Parts.{Went}
use Rattle.widen.specs.Moves.{child_moves}
use Rattle.widen.proofs.Carrying.{reached_none, reached_more, reached_fails, next_child}
use Rattle.widen.proofs.Spots.{spot_is}
use Rattle.widen.proofs.children.move_row.Goals as goal

pub loop-j-init : goal.loop-j-init
loop-j-init g c = λ mark h hi.
    reached_none (meant g.S.Reading.segments g.S.Source.offers g.S.Source.first) mark
    (child_moves (landing_of c.args.old.landing) (shape_meant c.args.old.shape) c.args.new.start.segment c.args.new.start.word (shape_meant c.args.new.shape) c.args.i)
    (state_of (meant g.S.Reading.segments g.S.Source.offers g.S.Source.first) c.args.arena.now)
    h.prepared

pub returns-in_err-transfer_pointer : goal.returns-in_err-transfer_pointer
returns-in_err-transfer_pointer g c =
    let p = err_from_is_err_and c.from_residual.result c.from_residual.ensures.1 in
    record {
      outcome = λ mark h hi.
          let k = c.loop-j.invariant mark h hi in
          let j : c.loop-j.j < pointers (shape_meant c.args.old.shape) = let a = c.loop-j-test.true in let b = c.pointers-j-end.ensures.value in omega arith in
          let n =
          next_child {A = Unit {0}} (meant g.S.Reading.segments g.S.Source.offers g.S.Source.first) mark _ _
          (state_of (meant g.S.Reading.segments g.S.Source.offers g.S.Source.first) c.transfer_pointer.new.arena)
          c.loop-j.arena.table (landing_of c.args.old.landing) (shape_meant c.args.old.shape) c.args.new.start.segment c.args.new.start.word (shape_meant c.args.new.shape) c.args.i
          c.loop-j.j
          c.wrapping_add-from.result
          c.wrapping_add-to.result
          refl h k hi j
          (spot_is _ _ _ c.wrapping_add-from.ensures.segment (c.wrapping_add-from.ensures.word ∙ ap (λ (x : ℕ). (c.args.old.landing.start.word + x) % 2 ^ 64) c.slot.ensures.value))
          (spot_is _ _ _ c.wrapping_add-to.ensures.segment (c.wrapping_add-to.ensures.word ∙ ap (λ (x : ℕ). (c.args.new.start.word + x) % 2 ^ 64) c.slot-in-loop-j.ensures.value))
          (Err c.in_err-transfer_pointer.field-0.0)
          c.in_err-transfer_pointer.ensures.outcome in
          rw (p.1, p.2) (reached_fails _ mark _ _ c.loop-j.j (pointers (shape_meant c.args.old.shape)) _ _ _ j k n);
    }

pub loop-j-preserved : goal.loop-j-preserved
loop-j-preserved g c = λ mark h hi.
    let k = c.loop-j.invariant mark h hi in
    let j : c.loop-j.j < pointers (shape_meant c.args.old.shape) = let a = c.loop-j-test.true in let b = c.pointers-j-end.ensures.value in omega arith in
    reached_more (meant g.S.Reading.segments g.S.Source.offers g.S.Source.first) mark _ _ c.loop-j.j _ _ k
    (next_child {A = Unit {0}} {E = g.row.S-Fault.Denot} (meant g.S.Reading.segments g.S.Source.offers g.S.Source.first) mark _ _
    (state_of (meant g.S.Reading.segments g.S.Source.offers g.S.Source.first) c.transfer_pointer.new.arena)
    c.loop-j.arena.table (landing_of c.args.old.landing) (shape_meant c.args.old.shape) c.args.new.start.segment c.args.new.start.word (shape_meant c.args.new.shape) c.args.i
    c.loop-j.j
    c.wrapping_add-from.result
    c.wrapping_add-to.result
    refl h k hi j
    (spot_is _ _ _ c.wrapping_add-from.ensures.segment (c.wrapping_add-from.ensures.word ∙ ap (λ (x : ℕ). (c.args.old.landing.start.word + x) % 2 ^ 64) c.slot.ensures.value))
    (spot_is _ _ _ c.wrapping_add-to.ensures.segment (c.wrapping_add-to.ensures.word ∙ ap (λ (x : ℕ). (c.args.new.start.word + x) % 2 ^ 64) c.slot-in-loop-j.ensures.value))
    (Ok (tt {0}))
    c.in_ok-transfer_pointer.ensures.outcome)

pub returns : goal.returns
returns g c = record {
  outcome = λ mark h hi.
      let k = c.loop-j.invariant mark h hi in
      let j : c.loop-j.j ≡ pointers (shape_meant c.args.old.shape) =
      let a = c.loop-j-test.false in let b = c.pointers-j-end.ensures.value in let d = c.loop-j.auto.j-end in omega arith in (
        subst
            (λ (i : ℕ).
            Went (meant g.S.Reading.segments g.S.Source.offers g.S.Source.first)
            (λ r. each i (child_moves (landing_of c.args.old.landing) (shape_meant c.args.old.shape) c.args.new.start.segment c.args.new.start.word (shape_meant c.args.new.shape) c.args.i) r (memory (state_of (meant g.S.Reading.segments g.S.Source.offers g.S.Source.first) c.args.arena.now)))
            (state_of (meant g.S.Reading.segments g.S.Source.offers g.S.Source.first) c.args.arena.now)
            (memory (state_of (meant g.S.Reading.segments g.S.Source.offers g.S.Source.first) c.loop-j.arena))
            (state_of (meant g.S.Reading.segments g.S.Source.offers g.S.Source.first) c.loop-j.arena))
            j
            k.0,
        k.1,
      );
}
