-- One that grows, and none, which stays.
use Rattle.std.proofs.Common.{sym, refl, ◌∙◌}
use Rattle.law.specs.Machine.{effect}
use Rattle.deciding.specs.declared.edit.Edit.TheVariants.{GetStructList}
use Rattle.deciding.proofs.Settling.{settled_grown, value_none}
use Rattle.deciding.proofs.making.get_struct_list.Goals as goal

pub returns-in-None : goal.returns-in-None
unfolding effect
returns-in-None c = λ bs u s.
    rw (value_none c.args.site.object u c.in-None.is s)
    (record { ruled = refl; making_is = refl; says_is = rw c.in-None.is refl; from = tt })

pub returns-in-Some : goal.returns-in-Some
returns-in-Some c = λ bs u s.
    settled_grown (GetStructList c.args.size) bs (λ w. refl) (λ s. refl) c.args.size (λ sh dat kid. refl) c.args.site.object c.in-Some.held u _ c.in-Some.is s
    (sym (c.in_ok-check_list.ensures.value u (c.shape.ensures.value ∙ s)))
    c.grow.ensures
