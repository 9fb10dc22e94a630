-- A spot by its two numbers.
use Rattle.std.proofs.Common.{◌≡◌, ℕ, ap, ◌∙◌}
use Rattle.walk.specs.declared.spot.Spot.{Spot}
use Rattle.walk.specs.Spots.{spot_at}

pub spot_is : (p : Spot) (g w : ℕ) → p.segment ≡ g → p.word ≡ w → p ≡ spot_at g w
spot_is p g w e f = ap (λ (k : ℕ). spot_at k p.word) e ∙ ap (spot_at g) f
