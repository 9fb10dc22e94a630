-- What stays of a source while words are written.
use Rattle.std.specs.Prelude.{◌≡◌}
use Rattle.segments.specs.Meaning.{Meaning}

-- what is offered, and why a grant is refused, is as it was
pub record Steady {X F : Type 0} (M : Meaning X F) (old new : X) : Type 0 where
  pub offers : M.offers new ≡ M.offers old
  pub first : M.first new ≡ M.first old
  pub fault : M.fault new ≡ M.fault old
