-- What the planner's answers keep to.
use Rattle.std.specs.Prelude.{◌≡◌, List}
use Rattle.mill_base.specs.Covers.{IsUnder}
use Rattle.mill_base.specs.declared.motion.Move.{Move}
use Rattle.mill_base.specs.declared.points.Tri.{Tri}
use Rattle.mill_job.specs.Jobs.{IsJob}
use Rattle.mill_job.specs.declared.fields.JobFields.{JobFields}
use Rattle.mill_paths.specs.Plans.{IsPlan}
use Rattle.mill_obstacles.specs.Faces.{obstacles_of}
use Rattle.mill_verify.specs.Verdicts.{IsRejection}
use Rattle.mill_verify.specs.declared.verdict.Reason.{Reason}
use Rattle.mill_verify.specs.declared.verdict.Reason.TheVariants.{HolderStock, Left}
use Rattle.mill_plan.specs.Plans.{PlanAnswer, IsPlanAnswer}

-- a job and a part have at most one answer
abbrev pub OnePlanAnswer : Type 0
OnePlanAnswer = (job : JobFields) (part : List Tri) (a b : PlanAnswer) → IsPlanAnswer job part a → IsPlanAnswer job part b → a ≡ b

-- the reason is that a column is left too high, or that the holder would touch one
abbrev pub IsOfStock : Reason → Type 0
IsOfStock (Left row col top) = Unit {0}
IsOfStock (HolderStock number row col leaf) = Unit {0}
IsOfStock _ = ⊥

-- a plan, also one of too many moves, is rejected for no reason but stock that it leaves, or that the holder would touch: never for the floor, for the part or a
-- fixture, whether cutter or holder, for a rapid, or for a cut too deep
abbrev pub PlanNeverFails : Type 0
PlanNeverFails = (job : JobFields) (part : List Tri) (moves : List Move) (reason : Reason) → IsJob job → IsUnder part job.top → IsPlan job (obstacles_of job part) moves
    → IsRejection job part moves reason → IsOfStock reason
