-- One call after another.
use Rattle.std.proofs.Common.{◌<◌, length, sym, refl, ◌∙◌, arith}
use Rattle.std.proofs.lemmas.List.{drop-set-lt}
use Rattle.std.proofs.lemmas.Bool.{le-leb}
use Rattle.replaying.proofs.Running.{replayed_none, replay_step, replay_whole}
use Rattle.replaying.proofs.replay.replay.Goals as goal

pub loop-i-init : goal.loop-i-init
loop-i-init g c = record { run = λ v h. replayed_none _ _ v; rest = refl }

pub loop-i-preserved : goal.loop-i-preserved
loop-i-preserved g c =
    let few : c.loop-i.i < length c.loop-i.replies = omega arith in
    record {
      run = λ v h.
          replay_step _ _ _ _ v c.args.calls.now c.loop-i.replies c.loop-i.i c.index-calls-i.result c.play.result h c.loop-i-test.true few c.index-calls-i.is (c.loop-i.invariant.run v h) c.play.ensures.plays;
      rest = drop-set-lt (length c.args.calls.now) c.loop-i.replies c.loop-i.i c.play.result c.loop-i-test.true ∙ c.loop-i.invariant.rest;
    }

pub returns : goal.returns
returns g c =
    record {
      enough = sym (le-leb (length c.args.calls.now) (length c.args.replies.now) c.if-replies-calls.false);
      nothing = tt;
      run = λ v h. replay_whole _ _ _ v c.args.calls.now _ c.loop-i.i (omega arith) (c.loop-i.invariant.run v h);
      rest = c.loop-i.invariant.rest;
    }
