-- What a copy of an object's numbers into a larger object does.
use Rattle.std.specs.Prelude.{◌≡◌, ℕ, ◌+◌, ◌<◌, ◌≤◌, min}
use Rattle.wire.specs.Elements.{element_in}
use Rattle.tree.specs.Value.{Shape, structure, plain, composite, rows, places, place_word, number, element_code, change}
use Rattle.tree.specs.Shows.{Memory, Landing}
use Rattle.tree.specs.Numbers.{place_bits}
use Rattle.table.specs.Segments.{allocated_in}
use Rattle.law.specs.Law.{State, memory}
use Rattle.law.specs.Exact.{loop}
use Rattle.effects.specs.States.{Prepared}

-- Since the mark, new words are prepared in the state b: the numbers of the object that lay at the mark by l in the shape sh can be
-- written in word t of segment s in the shape sh', which was not allocated at the mark.
pub record Copies (mark b : State) (l : Landing) (sh : Shape) (s t : ℕ) (sh' : Shape) : Type 0 where
  pub prepared : Prepared mark b
  -- numbers without bits stand nowhere
  pub from : 0 < place_bits sh → (i k : ℕ) → i < rows sh → k < places sh → l.pos + place_word sh i k < allocated_in mark.table l.seg
  pub to : (i k : ℕ) → i < rows sh → k < min (places sh) (places sh') → t + place_word sh' i k < allocated_in b.table s
  pub new : allocated_in mark.table s ≤ t

-- number k of row i of the object that H has
abbrev pub number_copied : (H : Memory) → Landing → Shape → (s t : ℕ) → Shape → (i k : ℕ) → Memory → Memory
number_copied H l sh s t sh' i k N = change N s (t + place_word sh' i k) (number sh (λ n. H l.seg (l.pos + n)) i k)

-- the numbers of row i
abbrev pub row_copied : (H : Memory) → Landing → Shape → (s t : ℕ) → Shape → (i : ℕ) → Memory → Memory
row_copied H l sh s t sh' i = loop (min (places sh) (places sh')) (number_copied H l sh s t sh' i)

-- the words are N, and it can be gone back to the mark
pub record Put (mark : State) (N : Memory) (e : State) : Type 0 where
  pub words : memory e ≡ N
  pub prepared : Prepared mark e
