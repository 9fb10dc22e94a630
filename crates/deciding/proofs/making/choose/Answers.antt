-- Each edit by its own function.
use Rattle.std.proofs.Common.{refl}
use Rattle.deciding.specs.declared.edit.Edit.TheVariants.{InitStruct, InitStructList}
use Rattle.deciding.proofs.Settling.{settled}
use Rattle.deciding.proofs.making.choose.Goals as goal

pub returns-in-InitStruct : goal.returns-in-InitStruct
returns-in-InitStruct c =
    record { value = λ u s. rw c.in-InitStruct.is (settled (InitStruct c.in-InitStruct.size) c.args.bytes.now (λ w. refl) (λ s. refl) _ c.args.site.object u _ refl refl (c.fresh.ensures c.args.site.object u)) }

pub returns-in-InitStructList : goal.returns-in-InitStructList
returns-in-InitStructList c =
    record { value = λ u s. rw c.in-InitStructList.is (settled (InitStructList c.in-InitStructList.count c.in-InitStructList.size) c.args.bytes.now (λ w. refl) (λ s. refl) _ c.args.site.object u _ refl refl (c.fresh-in-InitStructList.ensures c.args.site.object u)) }

pub returns-in-InitList : goal.returns-in-InitList
returns-in-InitList c = record { value = λ u s. rw c.in-InitList.is (c.init_list.ensures c.args.bytes.now c.args.site.object u) }

pub returns-in-GetStruct : goal.returns-in-GetStruct
returns-in-GetStruct c = record { value = λ u s. rw c.in-GetStruct.is (c.get_struct.ensures c.args.bytes.now u s) }

pub returns-in-GetStructList : goal.returns-in-GetStructList
returns-in-GetStructList c = record { value = λ u s. rw c.in-GetStructList.is (c.get_struct_list.ensures c.args.bytes.now u s) }

pub returns-in-Text : goal.returns-in-Text
returns-in-Text c = record { value = λ u s. rw c.in-Text.is (c.text.ensures c.args.site.object u) }
