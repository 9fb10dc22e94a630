-- How the counts of a counting layer go on, call by call.
use Rattle.std.specs.Prelude.{ℕ, ◌+◌, ◌-◌, ◌^◌, min, cond, ◌&&◌, List, Ok, Err, Result, ◌==◌, nat_lt, slice_index, slice_set}
use Rattle.counting.specs.declared.Counts.{Counts}

-- one more, as far as 64 bits count
abbrev pub more : ℕ → ℕ
more n = min (n + 1) (2 ^ 64 - 1)

-- one more for word w, if it is among the first 256 of segment 0
abbrev pub struck : (g w : ℕ) → List ℕ → List ℕ
struck g w hits = cond (g == 0 && nat_lt w 256) (slice_set hits w (more (slice_index hits w))) hits

-- one write more, of word w of segment g
abbrev pub after_strike : (g w : ℕ) → Counts → Counts
after_strike g w c = record { writes = more c.writes; grants = c.grants; hits = struck g w c.hits }

-- the same where the write is accepted
abbrev pub after_write : {X Y : Type 0} → Result X Y → (g w : ℕ) → Counts → Counts
after_write (Ok x) g w c = after_strike g w c
after_write (Err y) g w c = c

-- one grant more where it is accepted
abbrev pub after_grant : {X Y : Type 0} → Result X Y → Counts → Counts
after_grant (Ok x) c = record { writes = c.writes; grants = more c.grants; hits = c.hits }
after_grant (Err y) c = c
