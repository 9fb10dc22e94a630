-- What zeroing does on words that show a value.
use Rattle.std.specs.Prelude.{◌≡◌, ℕ, ◌^◌, ◌<◌, ◌≤◌}
use Rattle.tree.specs.Value.{Shape, Value}
use Rattle.tree.specs.Shows.{Memory, Landing, Describes, Shows, reach}
use Rattle.tree.specs.Edits.{taken}
use Rattle.tree.specs.Decode.{Deep}
use Rattle.law.specs.Exact.{zeroed}

-- of the slot (g, w) all that it reaches becomes 0, and nothing else, if it shows a value of at most 64 objects one below the other in
-- segments of at most 2 ^ 29 words, and reaches no word twice
abbrev pub Clears : (H H' : Memory) → (g w : ℕ) → Type 0
Clears H H' g w =
    (a : ℕ → ℕ) (u : Value) → ((x : ℕ) → a x ≤ 2 ^ 29) → Shows H a g w u → Deep 64 u → ((x y : ℕ) → reach H g w u x y ≤ 1) →
    H' ≡ zeroed H (reach H g w u)

-- of the object of the shape that lies by l its own words and its landing pads become 0, and nothing else, if the pointer describes such
-- an object and 32 bits count where it begins
abbrev pub Empties : (H H' : Memory) → Landing → Shape → Type 0
Empties H H' l sh =
    (t : ℕ) → Describes l.said t sh → l.pos < 2 ^ 32 → l.pad_pos < 2 ^ 32 → l.pad_len ≤ 2 → H' ≡ zeroed H (taken l sh)
