-- A segment that there is not has no words.
use Rattle.segments.proofs.Places.{length_answered}
use Rattle.message.proofs.draft.Draft.capacity.Goals as goal

pub returns : goal.returns
returns g c = record { value = length_answered _ c.args.g _ _ c.length.ensures.answer c.unwrap_or.ensures }
