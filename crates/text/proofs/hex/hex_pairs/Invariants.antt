-- The bytes so far are those of the pairs before the rest.
use Rattle.std.specs.Slice.Iter.{chunks_rest, chunks_size}
use Rattle.std.proofs.Common.{◌≡◌}
use Rattle.text.proofs.Pairs.{Sofar}
use Rattle.text.proofs.hex.hex_pairs.Given as goal

abbrev pub invariant-loop-pair : goal.invariant-loop-pair
invariant-loop-pair l = record { by_two : chunks_size l.pair-iterator ≡ 2; sofar : Sofar l.text l.bytes.items (chunks_rest l.pair-iterator) }
