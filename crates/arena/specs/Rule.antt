-- What allocations of an arena answer and leave is what the placing rule gives for the capacities met.
use Rattle.std.specs.Prelude.{◌≡◌, ℕ, ◌+◌, ◌<◌, List, [], ◌∷◌, length, drop, Ok, Err, Result}
use Rattle.table.specs.Segments.{Table, capacities}
use Rattle.table.specs.Placing.{Room, room, Outcome, got, no_space, anywhere, place, pad}
use Rattle.arena.specs.declared.NoSpace.{NoSpace}
use Rattle.arena.specs.Space.{Space, Anywhere, Placed, Padded}

-- the capacities of the segments that came
abbrev pub met_between : (t t' : Table) → List ℕ
met_between t t' = drop (length t) (capacities t')

-- a grant of n, if there was one
abbrev pub asked_for : (n : ℕ) → (met : List ℕ) → List ℕ
asked_for n [] = []
asked_for n (c ∷ cs) = n ∷ []

-- An allocation by the rule: what it answers and leaves, or that nothing was granted for n words.
abbrev pub ByRule : {F : Type 0} → (Room → Outcome (ℕ × ℕ)) → (n : ℕ) → Space → Result (ℕ × ℕ) (NoSpace F) → Space → Type 0
ByRule rule n s (Ok p) s' =
    rule (room s.table (met_between s.table s'.table)) ≡
    got (record { table = s'.table; coming = []; asked = asked_for n (met_between s.table s'.table) }) p
ByRule rule n s (Err y) s' = (rule (room s.table []) ≡ no_space (room s.table []) n) × (y.minimum ≡ n) × (s' ≡ s)

-- of whatever refusals of a source
pub record AllocationsFollowTheRule (F : Type 0) : Type 0 where
  pub anywhere_follows : (n : ℕ) (fault : ℕ → F) (s s' : Space) (r : Result (ℕ × ℕ) (NoSpace F)) → Anywhere n fault s r s' →
      ByRule (λ k. anywhere k n) n s r s'
  -- for a slot in a segment that there is, and an object that 32 bits count
  pub place_follows : (g n : ℕ) (fault : ℕ → F) (s s' : Space) (r : Result (ℕ × ℕ) (NoSpace F)) → g < length s.table → n < 4294967295 →
      Placed g n fault s r s' → ByRule (λ k. place k g n) (n + 1) s r s'
  pub pad_follows : (g : ℕ) (fault : ℕ → F) (s s' : Space) (r : Result (ℕ × ℕ) (NoSpace F)) → g < length s.table →
      Padded g fault s r s' → ByRule (λ k. pad k g) 2 s r s'
