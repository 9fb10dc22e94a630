-- The bytes so far are those of the letters before the index.
use Rattle.std.proofs.Common.{◌-◌, ◌≤◌, length, vec_items}
use Rattle.text.proofs.Quoting.{Sofar}
use Rattle.text.proofs.quoted.read_quoted.Given as goal

abbrev pub invariant-loop-bytes : goal.invariant-loop-bytes
invariant-loop-bytes l = (l.at ≤ length l.text) × Sofar l.text (vec_items l.bytes) l.at

abbrev pub decreases-loop-bytes : goal.decreases-loop-bytes
decreases-loop-bytes l = length l.text - l.at
