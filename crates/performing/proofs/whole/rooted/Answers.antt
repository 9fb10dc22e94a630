-- First the root word, then the edit.
use Rattle.std.proofs.Common.{refl}
use Rattle.std.proofs.lemmas.Result.{err_from_is_err_and}
use Rattle.performing.proofs.Wholes.{slot_there, whole, no_root, counts_small}
use Rattle.performing.proofs.whole.rooted.Goals as goal

pub returns-in_err-ensure_root : goal.returns-in_err-ensure_root
returns-in_err-ensure_root g c =
    let p = err_from_is_err_and c.from_residual.result c.from_residual.ensures.1 in
    record {
      outcome = λ v k holds judged edits.
          let f = c.in_err-ensure_root.ensures.outcome in
          rw (p.1, p.2) (no_root _ _ _ v k _ _ holds f.0 f.1 f.2);
    }

pub returns : goal.returns
returns g c =
    record {
      outcome = λ v k holds judged edits.
          let f = c.in_ok-ensure_root.ensures.outcome in
          let slot = slot_there _ _ _ v k _ holds f.0 f.1 (counts_small c.ensure_root.new.arena.table) judged in
          whole _ _ _ _ v k _ f.0 f.1 _ _ (edits _ _ _ f.1 slot (record { shown = _; shows = refl; left = _; met = c.edit.ensures; leaves = refl }));
    }
