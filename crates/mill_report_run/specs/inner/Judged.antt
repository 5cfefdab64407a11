-- What is known of a verdict.
use Rattle.std.specs.Prelude.{List}
use Rattle.mill_base.specs.declared.motion.Move.{Move}
use Rattle.mill_base.specs.declared.points.Tri.{Tri}
use Rattle.mill_job.specs.declared.fields.JobFields.{JobFields}
use Rattle.mill_answer.specs.Verify.{IsSafe}
use Rattle.mill_verify.specs.Verdicts.{IsVerdict}
use Rattle.mill_verify.specs.declared.verdict.Verdict.{Verdict}

-- the verdict on them; an acceptance is safe
pub record IsJudged (job : JobFields) (part : List Tri) (moves : List Move) (verdict : Verdict) : Type 0 where
  pub verdict_is : IsVerdict job part moves verdict
  pub safe : IsSafe job part moves verdict
