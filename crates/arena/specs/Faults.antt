-- A source's refusal as one of the arena's.
use Rattle.segments.specs.declared.refusal.Refusal.{Refusal}
use Rattle.arena.specs.declared.NoSpace.{NoSpace}
use Rattle.arena.specs.declared.SpaceFault.TheVariants.{Source}

abbrev pub source_fault : {F : Type 0} → Refusal F → NoSpace F
source_fault y = record { minimum = y.minimum; fault = Source y.fault }
