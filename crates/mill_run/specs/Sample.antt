-- The command `sample`: how the planner's answer to the sample part of a size is shown.
use Rattle.std.specs.Prelude.{ℕ, ◌*◌, codes, decimal, List, [], ◌∷◌}
use Rattle.mill_base.specs.declared.unit.Unit.TheVariants.{Hundredth}
use Rattle.mill_decimal.specs.Decimals.{canonical}
use Rattle.mill_plan.specs.Plans.{PlanAnswer, IsPlanAnswer, done}
use Rattle.mill_answer.specs.Lines.{line}
use Rattle.mill_run.specs.Plan.{plan_line, plan_status}
use Rattle.mill_run.specs.SamplePart.{sample_job, sample_part}

-- this is the planner's answer to the sample part of size n and its job
abbrev pub Samples : ℕ → PlanAnswer → Type 0
Samples n answer = IsPlanAnswer (sample_job n) (sample_part n) answer

-- the exit status of an answer, which is that of `plan`
abbrev pub sample_status : PlanAnswer → ℕ
sample_status answer = plan_status answer

-- the line of an answer: of a program the size, and how many triangles, columns and moves there are and how much is left at most; of another, the line of `plan`
abbrev pub sample_line : ℕ → PlanAnswer → List ℕ
sample_line n (done text moves columns left) = line (codes "sample" ∷ decimal n ∷ codes "triangles" ∷ decimal (2 * n * n) ∷ codes "columns" ∷ decimal columns ∷ codes "moves" ∷ decimal moves ∷ codes "left" ∷ canonical Hundredth left ∷ [])
sample_line n answer = plan_line Hundredth answer
