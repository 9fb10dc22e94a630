-- What a type of sources means, as one value.
use Rattle.std.specs.Prelude.{ℕ, List, Option}
use Rattle.segments.specs.Memory.{Bounded}

-- in the words of the traits `Reading` and `Source`: of a type S of sources it is `S.Source`
abbrev pub Meaning : (X F : Type 0) → Type 0
Meaning X F = record {
  segments : X → List (List ℕ);
  offers : X → ℕ → Option ℕ;
  first : X → ℕ → Option ℕ;
  fault : X → ℕ → F;
  bounds : (x : X) → Bounded (offers x);
}
