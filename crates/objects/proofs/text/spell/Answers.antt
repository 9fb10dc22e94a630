-- One word after another.
use Rattle.std.proofs.Common.{◌≡◌, ◌+◌, arith}
use Rattle.effects.proofs.Writing.{within_capacity, rewritten_none, rewritten_then, rewritten_sized}
use Rattle.objects.proofs.Spelling.{partly_none, spell_step, word_inside}
use Rattle.objects.proofs.text.spell.Goals as goal

pub loop-k-init : goal.loop-k-init
loop-k-init g c = (rewritten_none _, λ sized fits. partly_none _ c.args.start.segment c.args.start.word c.args.bytes.now)

pub loop-k-preserved : goal.loop-k-preserved
loop-k-preserved g c =
    let w = c.write_word.ensures in
    let i = c.loop-k.invariant in (
      rewritten_then _ _ _ i.0 w.rewritten,
      λ sized fits.
          let u : c.saturating_add.result ≡ c.args.start.word + c.loop-k.k =
          let b = within_capacity c.args.arena.now.table c.args.start.segment in let x = c.saturating_add.ensures in let l = c.loop-k-test.true in omega arith in
          spell_step _ _ _ c.args.start.segment c.args.start.word c.args.bytes.now c.loop-k.k _ _ (i.1 sized fits)
          (w.words (rewritten_sized _ _ i.0 sized) (word_inside c.args.bytes.now _ _ c.args.start.segment c.args.start.word c.loop-k.k _ i.0.same_table fits c.loop-k-test.true u))
          u
          c.text_word.ensures.value,
    )
