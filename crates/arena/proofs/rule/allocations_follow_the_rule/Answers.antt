-- One by one.
use Rattle.arena.proofs.Ruled.{anywhere_by, place_by, pad_by}
use Rattle.arena.proofs.rule.allocations_follow_the_rule.Goals as goal

pub returns : goal.returns
returns g c = record { anywhere_follows = anywhere_by; place_follows = place_by; pad_follows = pad_by }
