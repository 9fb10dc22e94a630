-- One row after another.
use Rattle.std.proofs.Common.{◌≡◌, ℕ, ◌<◌, Ok, Err, subst, arith}
use Rattle.std.proofs.lemmas.Result.{err_from_is_err_and}
use Rattle.tree.specs.Value.{rows}
use Rattle.table.specs.Placing.{each}
use Rattle.law.specs.Law.{memory}
use Rattle.walk.specs.Landings.{landing_of}
use Rattle.walk.specs.Shapes.{shape_meant}
use Rattle.effects.specs.States.{meant, state_of}
use Rattle.effects.specs.Parts.{Went}
use Rattle.widen.specs.Moves.{row_moves}
use Rattle.widen.proofs.Carrying.{reached_none, reached_more, reached_fails, next_row}
use Rattle.widen.proofs.children.move_children.Goals as goal

pub loop-i-init : goal.loop-i-init
loop-i-init g c = λ mark h.
    reached_none (meant g.S.Reading.segments g.S.Source.offers g.S.Source.first) mark
    (row_moves (landing_of c.args.old.landing) (shape_meant c.args.old.shape) c.args.new.start.segment c.args.new.start.word (shape_meant c.args.new.shape))
    (state_of (meant g.S.Reading.segments g.S.Source.offers g.S.Source.first) c.args.arena.now)
    h.prepared

pub returns-in_err-move_row : goal.returns-in_err-move_row
returns-in_err-move_row g c =
    let p = err_from_is_err_and c.from_residual.result c.from_residual.ensures.1 in
    record {
      outcome = λ mark h.
          let k = c.loop-i.invariant mark h in
          let i : c.loop-i.i < rows (shape_meant c.args.old.shape) = let a = c.loop-i-test.true in let b = c.rows-i-end.ensures.value in omega arith in
          let n =
          next_row {A = Unit {0}} (meant g.S.Reading.segments g.S.Source.offers g.S.Source.first) mark _ _
          (state_of (meant g.S.Reading.segments g.S.Source.offers g.S.Source.first) c.move_row.new.arena)
          (landing_of c.args.old.landing) (shape_meant c.args.old.shape) c.args.new.start.segment c.args.new.start.word (shape_meant c.args.new.shape) c.loop-i.i
          h k
          (Err c.in_err-move_row.field-0.0)
          (λ q. c.in_err-move_row.ensures.outcome mark q i) in
          rw (p.1, p.2) (reached_fails _ mark _ _ c.loop-i.i (rows (shape_meant c.args.old.shape)) _ _ _ i k n);
    }

pub loop-i-preserved : goal.loop-i-preserved
loop-i-preserved g c = λ mark h.
    let k = c.loop-i.invariant mark h in
    let i : c.loop-i.i < rows (shape_meant c.args.old.shape) = let a = c.loop-i-test.true in let b = c.rows-i-end.ensures.value in omega arith in
    reached_more (meant g.S.Reading.segments g.S.Source.offers g.S.Source.first) mark _ _ c.loop-i.i _ _ k
    (next_row {A = Unit {0}} {E = g.row.S-Fault.Denot} (meant g.S.Reading.segments g.S.Source.offers g.S.Source.first) mark _ _
    (state_of (meant g.S.Reading.segments g.S.Source.offers g.S.Source.first) c.move_row.new.arena)
    (landing_of c.args.old.landing) (shape_meant c.args.old.shape) c.args.new.start.segment c.args.new.start.word (shape_meant c.args.new.shape) c.loop-i.i
    h k
    (Ok (tt {0}))
    (λ q. c.in_ok-move_row.ensures.outcome mark q i))

pub returns : goal.returns
returns g c = record {
  outcome = λ mark h.
      let k = c.loop-i.invariant mark h in
      let i : c.loop-i.i ≡ rows (shape_meant c.args.old.shape) =
      let a = c.loop-i-test.false in let b = c.rows-i-end.ensures.value in let d = c.loop-i.auto.i-end in omega arith in (
        subst
            (λ (n : ℕ).
            Went (meant g.S.Reading.segments g.S.Source.offers g.S.Source.first)
            (λ r. each n (row_moves (landing_of c.args.old.landing) (shape_meant c.args.old.shape) c.args.new.start.segment c.args.new.start.word (shape_meant c.args.new.shape)) r (memory (state_of (meant g.S.Reading.segments g.S.Source.offers g.S.Source.first) c.args.arena.now)))
            (state_of (meant g.S.Reading.segments g.S.Source.offers g.S.Source.first) c.args.arena.now)
            (memory (state_of (meant g.S.Reading.segments g.S.Source.offers g.S.Source.first) c.loop-i.arena))
            (state_of (meant g.S.Reading.segments g.S.Source.offers g.S.Source.first) c.loop-i.arena))
            i
            k.0,
        k.1,
      );
}
