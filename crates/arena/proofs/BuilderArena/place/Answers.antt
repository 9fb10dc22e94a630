-- A word of a segment lies far below 2 ^ 32.
use Rattle.std.proofs.Common.{refl, arith}
use Rattle.arena.proofs.Grants.{anywhere_small}
use Rattle.arena.proofs.BuilderArena.place.Goals as goal

pub overflow_add-result : goal.overflow_add-result
overflow_add-result g c =
    let l = anywhere_small c.allocate.new.self _ _ _ (c.in_ok-s.s, c.in_ok-s.w) refl c.in_ok-s.ensures.outcome in
    record { fits = omega arith }
