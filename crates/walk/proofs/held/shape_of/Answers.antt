-- A plain list: its pointer is no struct's, and its elements are no rows.
use Rattle.walk.proofs.Shapes.{shape_listed}
use Rattle.walk.proofs.held.shape_of.Goals as goal

pub returns-in_default-element_size : goal.returns-in_default-element_size
returns-in_default-element_size g c =
    record { value = shape_listed c.args.landing.pointer.word _ c.kind.result c.element_size.result c.element_count.result c.in_default.not-Struct c.in_default-element_size.not-InlineComposite c.kind.ensures.value c.element_size.ensures.value c.element_count.ensures.value }
