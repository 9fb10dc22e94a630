-- A code of a plain list.
use Rattle.std.proofs.Common.{◌≡◌, ◌≢◌, ℕ, ◌≤◌, Bool, false, cond, ltb, sym, refl, ap, ◌∙◌, arith}
use Rattle.std.proofs.lemmas.Bool.{le-ltb}
use Rattle.wire.specs.declared.sizes.ElementSize.{ElementSize}
use Rattle.wire.specs.declared.sizes.ElementSize.TheVariants.{InlineComposite}
use Rattle.wire.specs.Sizes.{code_of}
use Rattle.tree.specs.Value.{plain}
use Rattle.tree.specs.Decode.{element_of_code}
use Rattle.law.specs.Machine.{new}
use Rattle.deciding.specs.declared.edit.Edit.TheVariants.{InitList}
use Rattle.deciding.proofs.Settling.{settled}
use Rattle.deciding.proofs.making.init_list.Goals as goal

plain_code : (c : ElementSize) → c ≢ InlineComposite → code_of c ≤ 6
plain_code c n = grind arith

pub returns-in_default : goal.returns-in_default
returns-in_default c = λ bs o u.
    let back : code_of c.in_ok-element.element ≡ c.args.code = c.in_ok-element.ensures in
    let small = plain_code c.in_ok-element.element c.in_default.not-InlineComposite in
    let known : ltb 6 c.args.code ≡ false = le-ltb 6 c.args.code (omega arith) in
    settled (InitList c.args.code c.args.count) bs (λ w. refl) (λ s. refl) _ o u _
    (ap (λ (b : Bool). cond b 3 0) known)
    (ap (λ (x : ℕ). new (plain (element_of_code x) c.args.count)) (sym back))
    (c.fresh.ensures o u)
