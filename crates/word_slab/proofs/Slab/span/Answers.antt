-- A segment that is cut lies from where it begins to its end.
use Rattle.std.proofs.Common.{◌≡◌, ◌^◌, ◌<◌, length, get_or, rules}
use Rattle.word_slab.proofs.Parts.{spans}
use Rattle.word_slab.proofs.Slab.span.Goals as goal

pub returns : goal.returns
returns c =
    let s = c.args.self.now in
    let end = c.in_ok-end.field-0.now in
    let cut : c.args.g < length s.ends.items = search rules in
    let read : end ≡ get_or s.ends.items c.args.g end = search rules in
    let fits : end < 2 ^ 64 = search rules in
    record { answer = spans s.words.now s.ends.items s.rising c.args.g end c.begin-from.result cut read fits c.begin-from.ensures.answer }
