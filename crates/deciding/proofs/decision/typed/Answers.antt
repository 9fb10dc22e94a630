-- The bytes of a text.
use Rattle.deciding.proofs.Verdicts.{bytes_fit}
use Rattle.deciding.proofs.decision.typed.Goals as goal

pub returns-in-Text : goal.returns-in-Text
returns-in-Text c = rw c.in-Text.is (bytes_fit c.args.bytes.now c.type_inv.bytes)
