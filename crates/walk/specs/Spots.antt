-- A spot is a pair of numbers: a segment, and a word of it.
use Rattle.std.specs.Prelude.{ℕ, ◌^◌, cond, Some, None, Option, nat_lt}
use Rattle.walk.specs.declared.spot.Spot.{Spot}

abbrev pub spot_at : (g w : ℕ) → Spot
spot_at g w = record { segment = g; word = w }

abbrev pub spot_of : Spot → ℕ × ℕ
spot_of s = (s.segment, s.word)

-- a word of a segment, as far as 64 bits count
abbrev pub counted_word : (g w : ℕ) → Option Spot
counted_word g w = cond (nat_lt w (2 ^ 64)) (Some (spot_at g w)) None
