-- One row after another.
use Rattle.std.proofs.Common.{◌<◌, arith}
use Rattle.tree.specs.Value.{rows}
use Rattle.law.specs.Law.{memory}
use Rattle.walk.specs.Landings.{landing_of}
use Rattle.walk.specs.Shapes.{shape_meant}
use Rattle.effects.specs.States.{meant, state_of}
use Rattle.widen.specs.Numbers.{row_copied}
use Rattle.widen.proofs.Copying.{rewritten_then, copies_on, put_more}
use Rattle.widen.proofs.numbers.copy_numbers.Goals as goal

pub loop-i-preserved : goal.loop-i-preserved
loop-i-preserved g c =
    let i : c.loop-i.i < rows (shape_meant c.args.old.shape) = let a = c.loop-i-test.true in let b = c.rows-i-end.ensures.value in omega arith in (
      rewritten_then _ _ _ c.loop-i.invariant.0 c.copy_row.ensures.rewritten,
      λ mark h.
          let k = c.loop-i.invariant.1 mark h in
          put_more mark
          (row_copied (memory mark) (landing_of c.args.old.landing) (shape_meant c.args.old.shape) c.args.new.start.segment c.args.new.start.word (shape_meant c.args.new.shape))
          (state_of (meant g.S.Reading.segments g.S.Source.offers g.S.Source.first) c.args.arena.now)
          c.loop-i.i
          (state_of (meant g.S.Reading.segments g.S.Source.offers g.S.Source.first) c.loop-i.arena)
          (state_of (meant g.S.Reading.segments g.S.Source.offers g.S.Source.first) c.copy_row.new.arena)
          k
          (c.copy_row.ensures.words mark (copies_on mark _ _ _ _ _ _ _ h c.loop-i.invariant.0 k.prepared) i),
    )
