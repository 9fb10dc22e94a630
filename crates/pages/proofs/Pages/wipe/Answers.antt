-- One zero page more behind those that are granted.
use Rattle.std.proofs.Common.{replicate, refl, arith}
use Rattle.pages.proofs.Rows.{more_pages, more_rows}
use Rattle.pages.proofs.Pages.wipe.Goals as goal

pub invariant_of-self : goal.invariant_of-self
invariant_of-self c = let p = c.args.self.now in record { few = p.few; rows = more_rows p.pages p.used (omega arith) p.few p.rows (replicate 256 0) refl }

pub returns : goal.returns
returns c = let p = c.args.self.now in record { page = more_pages p.pages p.used (omega arith) p.few p.rows c.requires.left; used = refl }
