-- Why a scratch layer refuses a grant.
use Rattle.scratch.specs.declared.ScratchFault.{ScratchFault}

-- with the fault of the source below inside
abbrev pub scratch_fault : {F : Type 0} → F → ScratchFault F
scratch_fault f = record { below = f }
