-- There is room for one more, and it stands last.
use Rattle.std.proofs.Common.{◌<◌, length, sym, arith}
use Rattle.std.proofs.lemmas.Bool.{lt-ltb}
use Rattle.cursor.specs.Begun.{stack}
use Rattle.cursor.proofs.Stacks.{newest_length, newest_more}
use Rattle.cursor.proofs.Cursor.push.Goals as goal

pub returns : goal.returns
returns c =
    let l = newest_length c.args.self.now.depth c.args.self.now.frames in
    let d : c.args.self.now.depth < length c.args.self.now.frames = omega arith in
    let n : length (stack c.args.self.now) < 64 = omega arith in
    record { value = sym (lt-ltb (length (stack c.args.self.now)) 64 n); after = newest_more c.args.self.now.depth c.args.self.now.frames c.args.frame d }
