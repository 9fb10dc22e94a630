-- One that grows, and none.
use Rattle.std.proofs.Common.{sym, refl, ◌∙◌}
use Rattle.tree.specs.Value.{null}
use Rattle.deciding.specs.declared.edit.Edit.TheVariants.{GetStruct}
use Rattle.deciding.proofs.Settling.{settled, settled_grown, value_none}
use Rattle.deciding.proofs.making.get_struct.Goals as goal

pub returns-in-None : goal.returns-in-None
returns-in-None c = λ bs u s.
    rw (value_none c.args.site.object u c.in-None.is s)
    (settled (GetStruct c.args.size) bs (λ w. refl) (λ s. refl) _ c.args.site.object null _ refl refl (c.fresh.ensures c.args.site.object null))

pub returns-in-Some : goal.returns-in-Some
returns-in-Some c = λ bs u s.
    settled_grown (GetStruct c.args.size) bs (λ w. refl) (λ s. refl) c.args.size (λ sh dat kid. refl) c.args.site.object c.in-Some.held u _ c.in-Some.is s
    (sym (c.in_ok-check_struct.ensures.value u (c.shape.ensures.value ∙ s)))
    c.grow.ensures
