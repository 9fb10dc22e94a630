-- Why a quota layer refuses a grant.
use Rattle.std.specs.Prelude.{ℕ, Some, None, Option}
use Rattle.quota.specs.declared.QuotaFault.{QuotaFault}
use Rattle.quota.specs.declared.QuotaFault.TheVariants.{Refused, Over}

-- by what is offered below: nothing, and why, or a capacity that the limit does not allow
abbrev pub quota_fault : {F : Type 0} → F → Option ℕ → QuotaFault F
quota_fault fault None = Refused fault
quota_fault fault (Some c) = Over c
