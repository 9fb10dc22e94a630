-- Memory as lists of words.
use Rattle.std.specs.Prelude.{ℕ, List, [], slice_index, slice_index_or, slice_set}
use Rattle.tree.specs.Shows.{Memory}

unfoldable pub word : List (List ℕ) → Memory
word m g w = slice_index (slice_index_or m g []) w

-- word w of segment g becomes x
abbrev pub written : List (List ℕ) → ℕ → ℕ → ℕ → List (List ℕ)
written m g w x = slice_set m g (slice_set (slice_index_or m g []) w x)
