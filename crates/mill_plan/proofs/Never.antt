-- A plan's moves pass all tests but the holder's against the stock, so it is rejected for nothing but the stock.
use Rattle.std.proofs.Common.{List, [], sym, subst}
use Rattle.mill_base.specs.declared.motion.Move.{Move}
use Rattle.mill_base.specs.declared.points.Tri.{Tri}
use Rattle.mill_job.specs.Columns.{home}
use Rattle.mill_job.specs.Jobs.{IsJob}
use Rattle.mill_job.specs.declared.fields.JobFields.{JobFields}
use Rattle.mill_links.specs.Safety.{GoSafely, LiesUnderClear}
use Rattle.mill_paths.specs.Plans.{IsPlan}
use Rattle.mill_paths.specs.Unique.{RoundIsSafe}
use Rattle.mill_paths.specs.Visits.{FinishVisitsAreFree, LevelVisitsAreFree, RoughVisitsAreFree}
use Rattle.mill_obstacles.specs.Faces.{obstacles_of}
use Rattle.mill_plan.specs.Laws.{PlanNeverFails}
use Rattle.mill_plan.proofs.Good.{only_of_stock, pass_first}
use Rattle.mill_plan.proofs.Past.{lies_under_clear}
use Rattle.mill_plan.proofs.Planning.{each_joined}

goes : RoughVisitsAreFree → LevelVisitsAreFree → FinishVisitsAreFree → RoundIsSafe → (job : JobFields) (part : List Tri) (moves : List Move) → IsJob job → LiesUnderClear job part
    → IsPlan job part moves → GoSafely job part [] (home job) moves (home job)
goes rough_free level_free finish_free round job part moves ok under plan =
    let are = plan.are in
    subst (λ (ms : List Move). GoSafely job part [] (home job) ms (home job)) (sym plan.joined)
    (round job part plan.visits plan.toured ok under
    (each_joined job part are.rough are.level are.finish plan.visits (rough_free job part are.rough ok are.are_rough) (level_free job part are.level ok are.are_level)
    (finish_free job part are.finish ok are.are_finish) are.all) plan.tour)

pub never_fails : RoughVisitsAreFree → LevelVisitsAreFree → FinishVisitsAreFree → RoundIsSafe → PlanNeverFails
never_fails rough_free level_free finish_free round job part moves reason ok under plan fails =
    only_of_stock job part moves (pass_first job part (home job) (home job) moves ok (goes rough_free level_free finish_free round job (obstacles_of job part) moves ok (lies_under_clear job part ok under) plan)) reason fails
