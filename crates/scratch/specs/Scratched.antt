-- The segments and the offers of a scratch layer, from those of the source below.
use Rattle.std.specs.Prelude.{ℕ, Bool, cond, ◌&&◌, List, ◌∷◌, Some, None, Option, ◌==◌, nat_le}
use Rattle.scratch.specs.declared.Own.{Own}

-- once they are granted, the own words stand before the segments below
abbrev pub scratch_segments : Option Own → List (List ℕ) → List (List ℕ)
scratch_segments (Some own) m = own.words ∷ m
scratch_segments None m = m

-- the own words serve for up to 256, while there is no segment in the layer and below it
abbrev pub scratch_serves : (count m : ℕ) → Bool
scratch_serves count m = count == 0 && (nat_le 1 m && nat_le m 256)

-- the own words where they serve, otherwise what is offered below
abbrev pub scratch_offers : (count : ℕ) → (ℕ → Option ℕ) → ℕ → Option ℕ
scratch_offers count below m = cond (scratch_serves count m) (Some 256) (below m)
