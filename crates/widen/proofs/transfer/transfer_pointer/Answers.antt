-- By what the word of the slot is.
use Rattle.std.proofs.Common.{sym, ap, ◌∙◌}
use Rattle.tree.specs.Value.{change}
use Rattle.effects.specs.States.{meant, state_of}
use Rattle.law.specs.Law.{memory}
use Rattle.widen.proofs.Transfers.{move_null, move_far, move_near, aimed_here, move_over}
use Rattle.widen.proofs.transfer.transfer_pointer.Goals as goal

pub returns-then-is_null : goal.returns-then-is_null
returns-then-is_null g c = record {
  outcome = λ m.
      move_null _ _ _ _ _ _ _ c.pointer_at-pointer.ensures.value (sym c.is_null.ensures.value ∙ c.if-is_null.true);
}

pub returns-then-is_far : goal.returns-then-is_far
returns-then-is_far g c = record {
  outcome = λ m.
      move_far _ _ _ _ _ _ _ c.pointer_at-pointer.ensures.value _ (sym c.is_null.ensures.value ∙ c.if-is_null.false)
      (sym c.is_far.ensures.value ∙ c.if-is_far.true)
      (record { rewritten = c.write_word.ensures.rewritten; words = c.write_word.ensures.words m.sized m.to });
}

pub returns-then-to-from : goal.returns-then-to-from
returns-then-to-from g c = record {
  outcome = λ m.
      move_near _ _ _ _ _ _ _ c.pointer_at-pointer.ensures.value _ (sym c.is_null.ensures.value ∙ c.if-is_null.false)
      (sym c.is_far.ensures.value ∙ c.if-is_far.false)
      c.if-to-from.true
      (record {
        rewritten = c.write_word-then-to-from.ensures.rewritten;
        words = c.write_word-then-to-from.ensures.words m.sized m.to ∙
            ap (change (memory (state_of (meant g.S.Reading.segments g.S.Source.offers g.S.Source.first) c.args.arena.now)) c.args.to.segment c.args.to.word) c.near_pointer.ensures.value;
      });
}

pub returns : goal.returns
returns g c = record {
  outcome = λ m.
      let n = sym c.is_null.ensures.value ∙ c.if-is_null.false in
      let f = sym c.is_far.ensures.value ∙ c.if-is_far.false in
      let here = c.pointer_at-pointer.ensures.value in
      move_over _ _ _ _ _ _ _ here c.bridge.result _ n f c.if-to-from.false
      (c.bridge.ensures.outcome m (aimed_here (meant g.S.Reading.segments g.S.Source.offers g.S.Source.first) _ _ _ _ _ _ here m n f));
}
