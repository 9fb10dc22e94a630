-- Each turn takes two digits.
use Rattle.std.proofs.Common.{◌∙◌, sym, subst, arith}
use Rattle.std.specs.Slice.Iter.{chunks_rest}
use Rattle.std.proofs.lemmas.Result.{err_from_is_err_and}
use Rattle.text.proofs.Pairs.{Sofar, bad_pair, one_more, all_read, unless_any}
use Rattle.text.proofs.hex.hex_pairs.Goals as goal

pub returns-in_err-ok_or : goal.returns-in_err-ok_or
returns-in_err-ok_or c =
    let s = c.in-Some.ensures.steps in
    let p = err_from_is_err_and c.from_residual.result c.from_residual.ensures.1 in
    rw p.1 (unless_any p.0 (bad_pair c.loop-pair.invariant.sofar c.in-Some.pair.now (chunks_rest c.next.new.self) s.1.0 (omega (arith, s.1.1, c.loop-pair.invariant.by_two)) s.1.2 (sym (c.pair_byte.ensures (omega (arith, s.1.1, c.loop-pair.invariant.by_two))) ∙ c.in_err-ok_or.ensures.ok_part)))

pub loop-pair-preserved : goal.loop-pair-preserved
loop-pair-preserved c =
    let s = c.in-Some.ensures.steps in
    record {
      by_two = s.0 ∙ c.loop-pair.invariant.by_two;
      sofar = subst (λ l. Sofar c.args.text.now l (chunks_rest c.next.new.self)) (sym c.in_ok-push.ensures.items) (one_more c.loop-pair.invariant.sofar c.in-Some.pair.now (chunks_rest c.next.new.self) s.1.0 (omega (arith, s.1.1, c.loop-pair.invariant.by_two)) s.1.2 _ (sym (c.pair_byte.ensures (omega (arith, s.1.1, c.loop-pair.invariant.by_two))) ∙ c.in_ok-ok_or.ensures.ok_part));
    }

pub returns : goal.returns
returns c = all_read c.loop-pair.invariant.sofar c.in-None.ensures.steps.1.0
