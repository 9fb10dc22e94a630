-- The newest object ends, or its next pointer is null, is entered or lies too deep.
use Rattle.tree.specs.Words.{word}
use Rattle.tree.specs.Shows.{Memory}
use Rattle.cursor.specs.Begun.{begun_of, stack}
use Rattle.cursor.proofs.Stacks.{stack_few}
use Rattle.cursor.proofs.Advances.{ends, meets_null, enters, too_deep}
use Rattle.cursor.proofs.Cursor.advance.Goals as goal

pub returns-then-not-has_more : goal.returns-then-not-has_more
returns-then-not-has_more g c =
    let d = ends (stack c.args.self.now) (stack c.pop.new.self) (begun_of c.in_ok-frame.frame) c.in_ok-frame.ensures.outcome c.has_more.result c.has_more.ensures.value c.if-not-has_more.true in
    record { event = d.0; lighter = d.1 }

pub returns-in-None : goal.returns-in-None
returns-in-None g c =
    let H : Memory = word (g.R.Reading.segments c.args.reading.now) in
    let d = meets_null (stack c.args.self.now) (stack c.pop.new.self) (begun_of c.in_ok-frame.frame) c.in_ok-frame.ensures.outcome c.has_more.result c.has_more.ensures.value
    H c.if-not-has_more.false (stack_few c.args.self.now) (begun_of c.pass.result) c.pass.ensures.value c.pass.ensures.lighter c.push.result (stack c.push.new.self) c.push.ensures.value c.push.ensures.after
    c.in-None.ensures.value in
    record { event = d.0; lighter = d.1 }

pub returns-then-push : goal.returns-then-push
returns-then-push g c =
    let H : Memory = word (g.R.Reading.segments c.args.reading.now) in
    let d = enters (stack c.args.self.now) (stack c.pop.new.self) (begun_of c.in_ok-frame.frame) c.in_ok-frame.ensures.outcome c.has_more.result c.has_more.ensures.value
    H c.if-not-has_more.false (stack_few c.args.self.now) (begun_of c.pass.result) c.pass.ensures.value c.pass.ensures.lighter c.push.result (stack c.push.new.self) c.push.ensures.value c.push.ensures.after
    (begun_of c.in-Some.child) c.in-Some.ensures.value (stack c.push-in-Some.new.self) c.if-push.ensures.value c.if-push.ensures.after in
    record { event = d.0; lighter = d.1 }

pub returns-else-push : goal.returns-else-push
returns-else-push g c =
    let H : Memory = word (g.R.Reading.segments c.args.reading.now) in
    let d = too_deep (stack c.args.self.now) (stack c.pop.new.self) (begun_of c.in_ok-frame.frame) c.in_ok-frame.ensures.outcome c.has_more.result c.has_more.ensures.value
    H c.if-not-has_more.false (stack_few c.args.self.now) (begun_of c.pass.result) c.pass.ensures.value c.pass.ensures.lighter c.push.result (stack c.push.new.self) c.push.ensures.value c.push.ensures.after
    (begun_of c.in-Some.child) c.in-Some.ensures.value (stack c.push-in-Some.new.self) c.if-push.ensures.value c.if-push.ensures.after in
    record { event = d.0; lighter = d.1 }
