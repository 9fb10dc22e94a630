-- What every kind of element keeps.
use Rattle.std.specs.Prelude.{◌≡◌, ℕ, ◌^◌, ◌<◌}
use Rattle.wire.specs.Sizes.{element_bits}

pub record ElementLaws {E : Type 0} (code : ℕ) (fits : E → Type 0) (bits : E → ℕ) (value : ℕ → E) : Type 0 where
  -- the code is one of 0 to 5
  pub known : code < 6
  -- a value has no more bits than a list of the code gives it
  pub small : (x : E) → fits x → bits x < 2 ^ element_bits code
  -- a value comes back from its bits
  pub back : (x : E) → fits x → value (bits x) ≡ x
  -- and so do bits from their value
  pub forth : (b : ℕ) → b < 2 ^ element_bits code → bits (value b) ≡ b
