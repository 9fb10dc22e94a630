-- One word after another becomes zero.
use Rattle.std.proofs.Common.{ℕ, ◌-◌, List, ap, ◌∙◌, arith}
use Rattle.segments.specs.Memory.{put}
use Rattle.arena.proofs.Zeros.{written_put, zeroed_more, zeroed_at}
use Rattle.arena.proofs.zeroing.zero_words.Goals as goal

pub loop-w-preserved : goal.loop-w-preserved
loop-w-preserved g c =
    let p = written_put c.write.result (g.S.Reading.segments c.loop-w.source) (g.S.Reading.segments c.write.new.self) c.args.g c.loop-w.w 0 c.write.ensures.outcome in
    record {
      words = p ∙
          (ap (λ (k : List (List ℕ)). put k c.args.g c.loop-w.w 0) c.loop-w.invariant.words ∙
          zeroed_more (g.S.Reading.segments c.args.source.now) c.args.g c.args.from c.loop-w.w (omega arith));
      offers = c.write.ensures.offers ∙ c.loop-w.invariant.offers;
      first = c.write.ensures.first ∙ c.loop-w.invariant.first;
      fault = c.write.ensures.fault ∙ c.loop-w.invariant.fault;
    }

pub returns-clause-pointwise : goal.returns-clause-pointwise
returns-clause-pointwise g c = zeroed_at (g.S.Reading.segments c.args.source.now) _ c.args.g c.args.from (c.loop-w.w - c.args.from) c.args.n (omega arith) c.loop-w.invariant.words
