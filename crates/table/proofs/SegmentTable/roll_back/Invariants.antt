-- The entries so far are at the mark.
use Rattle.std.proofs.Common.{◌≡◌, map}
use Rattle.table.specs.Meaning.{table_of, segment_of}
use Rattle.table.proofs.Rolling.{rolled_to}
use Rattle.table.proofs.SegmentTable.roll_back.Given as goal

abbrev pub invariant-loop-k : goal.invariant-loop-k
invariant-loop-k l = map segment_of l.e-items ≡ rolled_to l.k (table_of l.initial.self) (table_of l.mark)
