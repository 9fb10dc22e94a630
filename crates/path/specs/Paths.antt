-- Paths as text: `/` for the root, or steps, each with a `/` before it.
use Rattle.std.specs.Prelude.{◌≡◌, ℕ, ◌^◌, ◌<◌, ◌⊎◌, List, [], ◌∷◌, ◌++◌, length, slice_index_or}
use Rattle.path.specs.declared.step.PathFault.{PathFault}
use Rattle.path.specs.declared.step.PathFault.TheVariants.{NoSlash, BadStep, TooLarge, Memory}
use Rattle.path.specs.declared.step.Step.{Step}
use Rattle.path.specs.Steps.{StepText, three, shown_step}

-- bs is the text of the steps, each with its slash
abbrev pub Steps : List ℕ → List Step → Type 0
Steps bs [] = bs ≡ []
Steps bs (s ∷ ss) = (ps rest : List ℕ) × (bs ≡ 47 ∷ (ps ++ rest)) × StepText ps s × Steps rest ss

-- bs is the text of the path
abbrev pub PathText : List ℕ → List Step → Type 0
PathText bs ss = ((bs ≡ 47 ∷ []) × (ss ≡ [])) ⊎ ((0 < length ss) × Steps bs ss)

-- a refusal for any other reason than memory says P
abbrev pub Unless : PathFault → Type 0 → Type 0
Unless NoSlash P = P
Unless BadStep P = P
Unless TooLarge P = P
Unless Memory P = Unit {0}

abbrev pub shown_steps : List Step → List ℕ
shown_steps [] = []
shown_steps (s ∷ ss) = 47 ∷ (shown_step s ++ shown_steps ss)

abbrev pub shown_path : List Step → List ℕ
shown_path [] = 47 ∷ []
shown_path (s ∷ ss) = shown_steps (s ∷ ss)

-- each number of each step has 32 bits
abbrev pub Fit : Step → Type 0
Fit s = (s.kind < 2 ^ 32) × (s.element < 2 ^ 32) × (s.pointer < 2 ^ 32)

abbrev pub AllFit : List Step → Type 0
AllFit ss = (i : ℕ) → i < length ss → Fit (slice_index_or ss i (three 0 0 0))
