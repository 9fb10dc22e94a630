-- A path's steps are looked at one after another.
use Rattle.std.proofs.Common.{◌≡◌, suc, Bool, ◌||◌, ltb, List, [], ◌∷◌, length, refl, ap}
use Rattle.std.specs.List.{list_any}
use Rattle.law.specs.Machine.{any_bad, bad_path}
use Rattle.path.specs.declared.step.Step.{Step}
use Rattle.walk.specs.Slots.{steps_of}
use Rattle.judging.specs.Sites.{step_bad}

length_steps : (ss : List Step) → length (steps_of ss) ≡ length ss
length_steps [] = refl
length_steps (s ∷ ss) = ap suc (length_steps ss)

any_steps : (ss : List Step) → any_bad (steps_of ss) ≡ list_any step_bad ss
any_steps [] = refl
any_steps (s ∷ ss) = ap (λ (b : Bool). step_bad s || b) (any_steps ss)

-- a path that is refused, in words of its own steps
pub bad_path_is : (ss : List Step) → bad_path (steps_of ss) ≡ (ltb 63 (length ss) || list_any step_bad ss)
bad_path_is ss = rw (length_steps ss, any_steps ss) refl
