-- The newest object stands last.
use Rattle.std.proofs.Common.{◌<◌, arith}
use Rattle.cursor.proofs.Stacks.{newest_less}
use Rattle.cursor.proofs.Cursor.pop.Goals as goal

pub returns : goal.returns
returns c =
    let z : 0 < c.args.self.now.depth = omega arith in
    record { outcome = newest_less c.args.self.now.depth c.args.self.now.frames z }
