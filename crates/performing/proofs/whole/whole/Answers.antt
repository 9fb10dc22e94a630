-- Where there is no space, all goes back.
use Rattle.std.proofs.Common.{sym, refl, ◌∙◌}
use Rattle.effects.proofs.Calls.{holds_clean}
use Rattle.performing.proofs.Wholes.{stays, goes_back}
use Rattle.performing.proofs.whole.whole.Goals as goal

pub returns-then-is_err : goal.returns-then-is_err
returns-then-is_err g c =
    record {
      outcome = λ v k holds judged edits.
          goes_back _ _ _ v k _ _ _ (sym c.is_err.ensures.value ∙ c.if-is_err.true) holds.stands.sizes_match (c.rooted-made.ensures.outcome v k holds judged edits)
          (λ met p e. c.go_back.ensures.back _ met refl holds.stands.sizes_match (holds_clean _ _ v holds) p e);
    }

pub returns-else-is_err : goal.returns-else-is_err
returns-else-is_err g c =
    record {
      outcome = λ v k holds judged edits. stays _ _ _ v k _ _ (sym c.is_err.ensures.value ∙ c.if-is_err.false) (c.rooted-made.ensures.outcome v k holds judged edits);
    }
