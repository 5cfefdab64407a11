-- What one call of camreport means.
use Rattle.std.specs.Prelude.{◌⊎◌, ◌≡◌, ◌≢◌, ℕ, ℤ, false, List, [], Option, Some}
use Rattle.mill_base.specs.declared.motion.Move.{Move}
use Rattle.mill_base.specs.declared.points.Tri.{Tri}
use Rattle.mill_document.specs.Documents.{text_of}
use Rattle.mill_io.specs.Views.{IsWritten}
use Rattle.mill_job.specs.Jobs.{IsJob}
use Rattle.mill_job.specs.declared.fields.JobFields.{JobFields}
use Rattle.mill_load.specs.Loads.{AreMoves}
use Rattle.mill_report_run.specs.Outcomes.{AreTextsOf}
use Rattle.mill_report_run.specs.Words.{Request, RefusesWords, ShowsHelp, is_taken, request}
use Rattle.mill_report_run.specs.Reports.{IsReport, Texts}
use Rattle.mill_answer.specs.Calls.{Call, HoldsReads, NoFault}
use Rattle.mill_answer.specs.Verify.{AcceptsSafely, AreTold, Files, Reads, texts_of}
use Rattle.mill_verify.specs.Verdicts.{IsRejection}
use Rattle.mill_verify.specs.declared.verdict.Reason.{Reason}
use Rattle.mill_verify.specs.declared.verdict.Verdict.{Verdict}
use Rattle.mill_verify.specs.declared.verdict.Verdict.TheVariants.{Accept, Reject}
use Rattle.serde_json.specs.Data.{Data}

-- ---- from bytes to bytes

-- where the files are told, hold what the reads gave and are read, the part isn't over the job's top and nothing of the outside failed, a program is accepted or rejected, or memory was short
abbrev pub Completes : List (List ℕ) → Call → Type 0
Completes words call = (asked : Request) (contents : List ℕ → Option (List ℕ)) (job : JobFields) (part : List Tri) (moves : List Move) → request words ≡ Some asked
    → HoldsReads contents call → AreTold (texts_of contents asked.files) → Reads (texts_of contents asked.files) job part moves
    → NoFault call → (call.status ≡ 0) ⊎ ((call.status ≡ 3) ⊎ (call.status ≡ 5))

-- where the words aren't taken and nothing of the outside failed, the status is that of help, of a mistake or of want of memory;
-- status 2 comes only where they aren't taken
pub record Untaken (words : List (List ℕ)) (call : Call) : Type 0 where
  pub refused : is_taken words ≡ false → NoFault call → call.status ≢ 5
      → ((call.status ≡ 0) × ShowsHelp words) ⊎ ((call.status ≡ 2) × RefusesWords words)
  pub mistaken : call.status ≡ 2 → RefusesWords words

-- ---- what status 0 and status 3 mean

-- what was printed is the document of this verdict on texts that read as a job, a part and moves, which are in their ranges;
-- each of the texts is that of its file, where that is told, whatever the files hold, if they hold what the reads gave
pub record PrintsReport (call : Call) (files : Files) (verdict : Verdict) : Type 0 where
  pub texts : Texts
  pub agree : (contents : List ℕ → Option (List ℕ)) → HoldsReads contents call → AreTextsOf (texts_of contents files) texts
  pub job : JobFields
  pub part : List Tri
  pub moves : List Move
  pub job_ok : IsJob job
  pub moves_ok : AreMoves job moves
  pub document : Data
  pub report : IsReport texts job part moves verdict document
  pub printed : IsWritten (text_of document) call.sink call.sink_after

-- it is that of an acceptance, and its lists are empty
pub record PrintsAcceptance (call : Call) (files : Files) : Type 0 where
  pub count : ℕ
  pub columns : ℕ
  pub most_left : ℤ
  pub prints : PrintsReport call files (Accept count columns most_left)
  pub none_fails : prints.report.failing ≡ []
  pub none_left : prints.report.left ≡ []
  pub none_too_high : prints.report.too_high ≡ 0

-- when camreport answers 0 to words that are taken, the files' moves are safe, and the document that it printed has nothing in its lists;
-- when it answers 3, the document tells the first written test that fails, and all moves and columns that fail one;
-- where the files are told, hold what the reads gave and are read, nothing of the outside failed and memory was enough, it answers 3 if a written test fails
pub record Headline (words : List (List ℕ)) (call : Call) : Type 0 where
  pub accepts : (asked : Request) → request words ≡ Some asked → call.status ≡ 0 → AcceptsSafely call asked.files
  pub clean : (asked : Request) → request words ≡ Some asked → call.status ≡ 0 → PrintsAcceptance call asked.files
  pub rejects : (asked : Request) → request words ≡ Some asked → call.status ≡ 3 → (reason : Reason) × PrintsReport call asked.files (Reject reason)
  pub exactly : (asked : Request) (contents : List ℕ → Option (List ℕ)) (job : JobFields) (part : List Tri) (moves : List Move) (reason : Reason) → request words ≡ Some asked
      → HoldsReads contents call → AreTold (texts_of contents asked.files) → Reads (texts_of contents asked.files) job part moves → IsRejection job part moves reason
      → NoFault call → call.status ≢ 5 → call.status ≡ 3
