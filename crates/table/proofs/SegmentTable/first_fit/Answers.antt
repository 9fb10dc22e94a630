-- The first entry with as many words left is the first segment with them.
use Rattle.std.proofs.Common.{sym, ◌∙◌}
use Rattle.table.proofs.Entries.{first_room-map}
use Rattle.table.proofs.SegmentTable.first_fit.Goals as goal

pub returns : goal.returns
returns c = record { value = c.first_with.ensures ∙ sym (first_room-map (lib.ListN.take c.args.self.now.count c.args.self.now.entries) c.args.n) }
