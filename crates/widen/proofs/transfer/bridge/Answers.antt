-- The pad is found, and the words are written.
use Rattle.std.proofs.Common.{refl}
use Rattle.std.proofs.lemmas.Result.{err_from_is_err_and}
use Rattle.table.specs.Meaning.{table_of}
use Rattle.widen.proofs.Bridges.{there_is, pad_ready, over_none, over_one, over_two}
use Rattle.widen.proofs.transfer.bridge.Goals as goal

pub returns-in_err-segment : goal.returns-in_err-segment
returns-in_err-segment g c =
    let p = err_from_is_err_and c.from_residual.result c.from_residual.ensures.1 in
    record {
      outcome = λ m t.
          let there = there_is (table_of c.args.arena.now.table) c.args.child.from.segment c.args.child.from.word m.from in
          let k = c.in_err-segment.ensures.outcome there in
          rw (p.1, p.2) (over_none _ _ _ _ _ _ _ _ _ k.0 k.1, k.1, k.2);
    }

pub returns-then-segment-child : goal.returns-then-segment-child
returns-then-segment-child g c = record {
  outcome = λ m t.
      let there = there_is (table_of c.args.arena.now.table) c.args.child.from.segment c.args.child.from.word m.from in
      let k = c.in_ok-segment.ensures.outcome there in
      let r = pad_ready _ _ _ c.args.arena.now.table c.take_pad.new.arena.table _ _ _ _ _ _ refl refl k.0 m.sized m.from m.to in
      over_one _ _ _ _ _ _ _ _ _ _ _ k.0 k.1 c.if-segment-child.true
      (c.write_pad.ensures.words r.sized r.few.0 r.few.2 (r.one c.if-segment-child.true) r.slot);
}

pub returns : goal.returns
returns g c = record {
  outcome = λ m t.
      let there = there_is (table_of c.args.arena.now.table) c.args.child.from.segment c.args.child.from.word m.from in
      let k = c.in_ok-segment.ensures.outcome there in
      let r = pad_ready _ _ _ c.args.arena.now.table c.take_pad.new.arena.table _ _ _ _ _ _ refl refl k.0 m.sized m.from m.to in
      over_two _ _ _ _ _ _ _ _ _ _ _ k.0 k.1 c.if-segment-child.false
      (c.write_pads.ensures.words r.sized r.few.0 r.few.1 r.few.2 t (r.two c.if-segment-child.false) r.slot);
}
