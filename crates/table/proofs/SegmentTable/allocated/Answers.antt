-- Of an entry that is there, or 0.
use Rattle.std.proofs.Common.{sym, ◌∙◌}
use Rattle.table.proofs.Entries.{allocated-map}
use Rattle.table.proofs.SegmentTable.allocated.Goals as goal

pub returns : goal.returns
returns c = record { value = c.allocated_at.ensures ∙ sym (allocated-map (lib.ListN.take c.args.self.now.count c.args.self.now.entries) c.args.g) }
