-- Two runs of one list.
use Rattle.std.proofs.Common.{leb, length, sym, ◌∙◌}
use Rattle.std.proofs.lemmas.Bool.{le-leb, and_from}
use Rattle.std.proofs.lemmas.Result.{on_ok_weaker}
use Rattle.replaying.proofs.Outcomes.{ok_run, no_err, agreed}
use Rattle.replaying.proofs.build.agree.Goals as goal

pub returns : goal.returns
returns g c =
    let n = length c.args.calls.now in
    let one = le-leb n (length c.args.ys.now) c.if-ys-calls.false in
    let two = le-leb n (length c.args.zs.now) c.if-zs-calls.false in
    let second = c.replay-2.ensures.enough ∙ two in
    record {
      enough = second ∙ sym (and_from (leb n (length c.args.ys.now)) (leb n (length c.args.zs.now)) one two);
      nothing = no_err _ c.replay-2.result second;
      agreed = on_ok_weaker c.replay-2.result
          (λ again v h k p q. agreed _ _ _ _ _ _ v _ _ _ h k (ok_run c.replay.result (c.replay.ensures.enough ∙ one) c.replay.ensures.run v h) (again v k) p q)
          c.replay-2.ensures.run;
    }
