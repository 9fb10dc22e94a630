-- What is written is what is shown of the path.
use Rattle.std.proofs.Common.{◌∙◌, subst}
use Rattle.path.specs.Paths.{AllFit}
use Rattle.path.proofs.Again.{path_again}
use Rattle.path.proofs.back.reread_place.Goals as goal

pub returns : goal.returns
returns c =
    path_again _ _ _ (c.as_str.ensures.value ∙ c.in_ok-text.ensures.ok) (subst AllFit c.as_slice.ensures.value c.steps_fit.ensures) c.read_place.ensures
