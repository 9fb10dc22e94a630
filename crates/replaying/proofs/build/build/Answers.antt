-- A run from a new draft.
use Rattle.std.proofs.Common.{◌∙◌}
use Rattle.std.proofs.lemmas.Bool.{le-leb}
use Rattle.law.proofs.Drafts.{begun_holds}
use Rattle.tree.specs.Value.{null}
use Rattle.replaying.proofs.Outcomes.{ok_run, built}
use Rattle.replaying.proofs.build.build.Goals as goal

pub returns : goal.returns
returns g c =
    record {
      built = λ h.
          let r = c.replay.ensures in
          let b = c.begin-draft.ensures.begun in
          built _ _ _ _ _ b (ok_run _ (r.enough ∙ le-leb _ _ h) r.run null (begun_holds _ _ b));
    }
