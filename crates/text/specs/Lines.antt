-- A line of a script, cut at the first `#` or quote: a `#` begins a comment, a quote a text, in which a `#` is a byte like any other.
use Rattle.std.specs.Prelude.{◌≡◌, ℕ, ◌<◌, ◌⊎◌, List, ◌∷◌, ◌++◌, length, Some, None, Option, ◌≢◌, slice_index}
use Rattle.std.specs.Borrow.{Bor}

-- c is not among bs
abbrev pub Lacks : ℕ → List ℕ → Type 0
Lacks c bs = (i : ℕ) → i < length bs → slice_index bs i ≢ c

-- head is the line up to its first `#`, or the whole line
abbrev pub Uncommented : List ℕ → List ℕ → Type 0
Uncommented line head = Lacks 35 head × ((line ≡ head) ⊎ ((note : List ℕ) × (line ≡ head ++ (35 ∷ note))))

-- head is the line up to its first `#` or quote; behind a quote stands a text
abbrev pub CutAt : List ℕ → List ℕ → Option (Bor (List ℕ)) → Type 0
CutAt line head None = Lacks 34 head × Uncommented line head
CutAt line head (Some rest) = Lacks 34 head × Lacks 35 head × (line ≡ head ++ (34 ∷ rest.now))
