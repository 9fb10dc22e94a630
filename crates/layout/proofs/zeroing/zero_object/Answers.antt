-- One event after another, until no object is left.
use Rattle.std.proofs.Common.{ℕ, List, refl, ◌∙◌}
use Rattle.tree.specs.Words.{word}
use Rattle.tree.specs.Shows.{Memory}
use Rattle.cursor.specs.Begun.{stack}
use Rattle.layout.proofs.Lengths.{handled_lengths}
use Rattle.layout.proofs.Walks.{walk_starts, walk_ends}
use Rattle.layout.proofs.Turning.{walk_turns}
use Rattle.layout.proofs.zeroing.zero_object.Goals as goal

pub loop-event-init : goal.loop-event-init
loop-event-init g c = record {
  clearing = λ a u small shown deep once. walk_starts (word (g.S.Reading.segments c.args.source.now)) a c.args.slot.segment c.args.slot.word u shown deep (stack c.at-cursor.result) c.at-cursor.ensures.value;
  lengths = refl;
  offers = refl;
  first = refl;
  fault = refl;
}

pub loop-event-preserved : goal.loop-event-preserved
loop-event-preserved g c =
    let m : List (List ℕ) = g.S.Reading.segments c.loop-event.source in
    let n : List (List ℕ) = g.S.Reading.segments c.handle.new.source in
    let k = c.handle.ensures in
    let kept = c.loop-event.invariant in
    record {
      clearing = λ a u small shown deep once.
          walk_turns (word (g.S.Reading.segments c.args.source.now)) a small c.args.slot.segment c.args.slot.word u once m n (stack c.loop-event.cursor) (stack c.advance.new.self) c.in-Some.event c.in-Some.ensures.event k.words
          (kept.clearing a u small shown deep once);
      lengths = handled_lengths c.in-Some.event m n k.words ∙ kept.lengths;
      offers = k.steady.offers ∙ kept.offers;
      first = k.steady.first ∙ kept.first;
      fault = k.steady.fault ∙ kept.fault;
    }

pub returns-clause-cleared : goal.returns-clause-cleared
returns-clause-cleared g c =
    let H : Memory = word (g.S.Reading.segments c.args.source.now) in
    let N : Memory = word (g.S.Reading.segments c.loop-event.source) in
    λ a u small shown deep once.
    walk_ends H a c.args.slot.segment c.args.slot.word u N (stack c.loop-event.cursor) c.in_default.ensures.event.0 (c.loop-event.invariant.clearing a u small shown deep once)
