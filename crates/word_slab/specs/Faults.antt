-- Why a slab refuses a grant.
use Rattle.std.specs.Prelude.{ℕ, cond, nat_lt}
use Rattle.word_slab.specs.declared.SlabFault.{SlabFault}
use Rattle.word_slab.specs.declared.SlabFault.TheVariants.{Short, Full}

-- with `left` words left and `cut` segments cut
abbrev pub slab_fault : (left cut : ℕ) → SlabFault
slab_fault left cut = cond (nat_lt cut 64) (Short left) (Full left)
