-- The first pages are granted.
use Rattle.std.proofs.Common.{arith}
use Rattle.pages.proofs.Rows.{paged}
use Rattle.pages.proofs.Pages.granted.Goals as goal

pub returns : goal.returns
returns c = let p = c.args.self.now in record { answer = paged p.pages p.used (omega arith) p.few p.rows c.args.g }
