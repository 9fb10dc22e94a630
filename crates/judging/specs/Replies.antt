-- Results of reads as the law's answers.
use Rattle.std.specs.Prelude.{◌≡◌, ℕ, List, Some, None, Ok, Err, Option, Result, IfOk}
use Rattle.tree.specs.Value.{Value}
use Rattle.tree.specs.Shows.{Memory}
use Rattle.law.specs.Calls.{Answer, sizes, no_sizes}
use Rattle.law.specs.Machine.{verdict}
use Rattle.law.specs.Reads.{Query, no_answer, found, answered, look}
use Rattle.path.specs.declared.step.Step.{Step}
use Rattle.walk.specs.declared.shape.Shape.{Shape}
use Rattle.walk.specs.Shapes.{shape_meant}
use Rattle.walk.specs.Slots.{steps_of}
use Rattle.judging.specs.declared.ruling.Ruling.{Ruling}
use Rattle.judging.specs.Rulings.{answer_of}
use Rattle.walk.specs.Showing.{OfRoot}

-- the answer that a result is, where f tells that of a success
abbrev pub reply : {X : Type 0} → (X → Answer) → Result X Ruling → Answer
reply f (Ok x) = f x
reply f (Err y) = answer_of y

abbrev pub sizes_meant : Option Shape → Answer
sizes_meant None = no_sizes
sizes_meant (Some sh) = sizes (shape_meant sh)

-- the answer to a query where the place is found and holds u
abbrev pub look_here : Value → Query → Answer
look_here u q = answered (verdict (no_answer q u)) (found q u)

-- on words that show a tree, the result is the answer to the query
abbrev pub Answered : {X : Type 0} → Memory → (X → Answer) → List Step → Query → Result X Ruling → Type 0
Answered H f ss q r = OfRoot H (λ v. reply f r ≡ look v (steps_of ss) q)

-- what is answered is the value of its bits
abbrev pub Faithful : {X : Type 0} → (bits : X → ℕ) → (value : ℕ → X) → Result X Ruling → Type 0
Faithful bits value r = IfOk r (λ x. value (bits x) ≡ x)
