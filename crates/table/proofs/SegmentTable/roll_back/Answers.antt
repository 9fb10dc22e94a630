-- One more entry goes back to the mark.
use Rattle.std.proofs.Common.{ℕ, ◌<◌, min, length, slice_index_or, refl, ap, ◌∙◌, arith}
use Rattle.std.proofs.lemmas.List.{length-map}
use Rattle.table.specs.Meaning.{table_of, segment_of}
use Rattle.table.proofs.Rolling.{rolled_entry}
use Rattle.table.proofs.SegmentTable.roll_back.Goals as goal

pub loop-k-preserved : goal.loop-k-preserved
loop-k-preserved c =
    let l : c.loop-k.k < length (table_of c.args.self.now) = omega (arith, length-map (lib.ListN.take c.args.self.now.count c.args.self.now.entries) segment_of) in
    rolled_entry c.loop-k.e-items (table_of c.args.self.now) (table_of c.args.mark.now) c.loop-k.k _ c.e-item.result c.loop-k.invariant (omega arith) l refl
    (c.min-e.ensures ∙ ap (λ (a : ℕ). min a (slice_index_or c.loop-k.e-items c.loop-k.k c.e-item.result).capacity) c.allocated.ensures.value)
