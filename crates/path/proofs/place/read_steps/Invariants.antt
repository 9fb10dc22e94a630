-- The steps read so far are those before the rest.
use Rattle.path.proofs.Pieces.{Left}
use Rattle.path.proofs.place.read_steps.Given as goal

abbrev pub invariant-loop-piece : goal.invariant-loop-piece
invariant-loop-piece l = Left l.word l.steps.items l.piece-iterator
