-- Steps of a path as text: what each form of step says, and the form in which a step is shown.
use Rattle.std.specs.Prelude.{◌≡◌, ℕ, ◌^◌, ◌<◌, cond, ◌&&◌, ◌⊎◌, List, ◌∷◌, ◌++◌, Ok, Err, decimal, Result, ◌==◌}
use Rattle.path.specs.declared.step.PathFault.{PathFault}
use Rattle.path.specs.declared.step.Step.{Step}
use Rattle.number.specs.Numbers.{Numeral, worth}

-- digits of a number below 2 ^ 32
abbrev pub Number32 : List ℕ → Type 0
Number32 bs = Numeral bs × (worth bs < 2 ^ 32)

abbrev pub three : ℕ → ℕ → ℕ → Step
three k e p = record { kind = k; element = e; pointer = p }

-- after `p`, after `e` and after `r`
abbrev pub Pointer : List ℕ → Step → Type 0
Pointer bs s = Number32 bs × (s ≡ three 0 0 (worth bs))

abbrev pub Element : List ℕ → Step → Type 0
Element bs s = Number32 bs × (s ≡ three 1 (worth bs) 0)

abbrev pub Row : List ℕ → Step → Type 0
Row bs s = (is ps : List ℕ) × (bs ≡ is ++ (112 ∷ ps)) × Number32 is × Number32 ps × (s ≡ three 2 (worth is) (worth ps))

-- three numbers with `:` between them
abbrev pub Free : List ℕ → Step → Type 0
Free bs s = (ks es ps : List ℕ) × (bs ≡ ks ++ (58 ∷ (es ++ (58 ∷ ps)))) × Number32 ks × Number32 es × Number32 ps × (s ≡ three (worth ks) (worth es) (worth ps))

abbrev pub After : ℕ → (List ℕ → Step → Type 0) → List ℕ → Step → Type 0
After c P bs s = (rest : List ℕ) × (bs ≡ c ∷ rest) × P rest s

-- bs is the text of the step s
abbrev pub StepText : List ℕ → Step → Type 0
StepText bs s = After 112 Pointer bs s ⊎ (After 101 Element bs s ⊎ (After 114 Row bs s ⊎ Free bs s))

-- a reader answers a step that the text is of, and refuses just where there is none
abbrev pub Exactly : (Step → Type 0) → Result Step PathFault → Type 0
Exactly P (Ok s) = P s
Exactly P (Err e) = (s : Step) → P s → ⊥

abbrev pub shown_step : Step → List ℕ
shown_step s =
    cond (s.kind == 0 && s.element == 0) (112 ∷ decimal s.pointer)
    (cond (s.kind == 1 && s.pointer == 0) (101 ∷ decimal s.element)
    (cond (s.kind == 2) (114 ∷ (decimal s.element ++ (112 ∷ decimal s.pointer)))
    (decimal s.kind ++ (58 ∷ (decimal s.element ++ (58 ∷ decimal s.pointer))))))
