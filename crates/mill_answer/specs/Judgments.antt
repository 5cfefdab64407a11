-- What can be answered on the three files of a program, and the law that there is one answer where they are told.
use Rattle.std.specs.Prelude.{◌≡◌, ℕ, List}
use Rattle.mill_base.specs.declared.points.Tri.{Tri}
use Rattle.mill_base.specs.declared.motion.Move.{Move}
use Rattle.mill_job.specs.declared.fields.JobFields.{JobFields}
use Rattle.mill_verify.specs.declared.verdict.Verdict.{Verdict}
use Rattle.mill_load.specs.declared.load.Unfit.{Unfit}
use Rattle.mill_answer.specs.Verify.{Texts, AreTold, IsUnfitProgram, Judges, verdict_status}

-- the files are refused or too long, or the part is too high; or there is a verdict on a job, a part and moves
pub data Judgment : Type 0 where
  unfit : Unfit → Judgment
  judged : JobFields → List Tri → List Move → Verdict → Judgment

-- its exit status
abbrev pub judgment_status : Judgment → ℕ
judgment_status (unfit fault) = 4
judgment_status (judged job part moves verdict) = verdict_status verdict

-- this is the judgment on the files, by each that is told: the first check that fails, in the order of work, else the verdict
abbrev pub IsJudgment : Texts → Judgment → Type 0
IsJudgment texts (unfit fault) = IsUnfitProgram texts fault
IsJudgment texts (judged job part moves verdict) = Judges texts job part moves verdict

-- two judgments on the same files, which are told, are one
abbrev pub OneJudgment : Type 0
OneJudgment = (texts : Texts) (a b : Judgment) → AreTold texts → IsJudgment texts a → IsJudgment texts b → a ≡ b
