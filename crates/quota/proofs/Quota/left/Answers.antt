-- With each segment the limit leaves fewer words, until it leaves too few.
use Rattle.std.proofs.Common.{◌+◌, rules, arith}
use Rattle.segments.specs.Memory.{counted}
use Rattle.segments.proofs.Places.{length_answered}
use Rattle.quota.proofs.Totals.{total_take_more, total_take_le}
use Rattle.quota.proofs.Quota.left.Goals as goal

pub returns-in_err-left-2 : goal.returns-in_err-left-2
returns-in_err-left-2 g c =
    let m = g.S.Reading.segments c.args.self.now.below in
    let e = length_answered m c.loop-g.g c.unwrap_or.result c.length.result c.length.ensures.answer c.unwrap_or.ensures in
    let a = total_take_more m c.loop-g.g in
    let b = total_take_le m (c.loop-g.g + 1) (counted m) (omega arith) in
    search rules

pub loop-g-preserved : goal.loop-g-preserved
loop-g-preserved g c =
    let m = g.S.Reading.segments c.args.self.now.below in
    let e = length_answered m c.loop-g.g c.unwrap_or.result c.length.result c.length.ensures.answer c.unwrap_or.ensures in
    let a = total_take_more m c.loop-g.g in
    search rules
