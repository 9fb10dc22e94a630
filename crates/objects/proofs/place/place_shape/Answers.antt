-- No words for an empty struct, else those of the placing rule.
use Rattle.std.proofs.Common.{sym, refl, ◌∙◌, arith}
use Rattle.std.proofs.lemmas.Result.{err_from_is_err_and}
use Rattle.table.specs.Meaning.{table_of}
use Rattle.walk.specs.Shapes.{shape_meant}
use Rattle.objects.proofs.Placing.{there_is, none_went, none_room, some_went, some_none, some_room}
use Rattle.objects.proofs.place.place_shape.Goals as goal

pub returns-then-has_no_words : goal.returns-then-has_no_words
returns-then-has_no_words g c =
    let e = sym c.has_no_words.ensures.value ∙ c.if-has_no_words.true in
    record {
      outcome = λ fit inside. (none_went c.args.slot.segment c.args.slot.word (shape_meant c.args.shape) _ _ e, refl);
      roomy = λ fit inside. none_room c.args.slot.segment c.args.slot.word (shape_meant c.args.shape) _ e inside;
    }

pub returns-in_err-segment : goal.returns-in_err-segment
returns-in_err-segment g c =
    let p = err_from_is_err_and c.from_residual.result c.from_residual.ensures.1 in
    let e = sym c.has_no_words.ensures.value ∙ c.if-has_no_words.false in
    record {
      outcome = λ fit inside.
          let there = there_is (table_of c.args.arena.now.table) c.args.slot.segment c.args.slot.word inside in
          let n = c.object_words.ensures.value fit in
          let b = c.object_words.ensures.small fit in
          let k = c.in_err-segment.ensures.outcome there (omega arith) in
          rw (p.1, p.2) (some_none c.args.slot.segment c.args.slot.word (shape_meant c.args.shape) _ _ n e _ _ _ k);
      roomy = λ fit inside. rw p.1 tt;
    }

pub returns : goal.returns
returns g c =
    let e = sym c.has_no_words.ensures.value ∙ c.if-has_no_words.false in
    record {
      outcome = λ fit inside.
          let there = there_is (table_of c.args.arena.now.table) c.args.slot.segment c.args.slot.word inside in
          let n = c.object_words.ensures.value fit in
          let b = c.object_words.ensures.small fit in
          let k = c.in_ok-segment.ensures.outcome there (omega arith) in
          (some_went c.args.slot.segment c.args.slot.word (shape_meant c.args.shape) _ _ n e _ _ _ k.0, k.1);
      roomy = λ fit inside.
          let there = there_is (table_of c.args.arena.now.table) c.args.slot.segment c.args.slot.word inside in
          let n = c.object_words.ensures.value fit in
          let b = c.object_words.ensures.small fit in
          let k = c.in_ok-segment.ensures.outcome there (omega arith) in
          some_room c.args.slot.segment c.args.slot.word (shape_meant c.args.shape) _ _ n e _ _ _ (omega arith) k.0;
    }
