-- What the report on three texts tells.
use Rattle.std.specs.List.{AllZip}
use Rattle.std.specs.Prelude.{◌≡◌, ℕ, ◌*◌, ℤ, pos, All, List, [], ◌∷◌, ◌++◌, length, map, Option, None, Some}
use Rattle.mill_base.specs.declared.motion.Move.{Move}
use Rattle.mill_base.specs.declared.points.Tri.{Tri}
use Rattle.mill_base.specs.Covers.{IsUnder}
use Rattle.mill_document.specs.Details.{failing_data, left_column}
use Rattle.mill_document.specs.Documents.{column_data, fault_data, report_data, text_of}
use Rattle.mill_document.specs.declared.report.Summary.{Summary}
use Rattle.mill_document.specs.declared.report.Sums.{Sums}
use Rattle.mill_dexel.specs.Tops.{uncut}
use Rattle.mill_dexel.specs.Turns.{move_at}
use Rattle.mill_job.specs.Columns.{column_count, home, row_count}
use Rattle.mill_job.specs.Jobs.{part_tool_of}
use Rattle.mill_job.specs.declared.fields.JobFields.{JobFields}
use Rattle.mill_gouge.specs.Lifts.{HasRoom, IsLeastLift}
use Rattle.mill_answer.specs.Faults.{fault_line, fault_status}
use Rattle.mill_load.specs.Programs.{IsProgramText, rules_of}
use Rattle.mill_load.specs.Setup.{IsJobText, IsPartText}
use Rattle.mill_load.specs.declared.load.LoadFault.{LoadFault}
use Rattle.mill_report.specs.Columns.{IsLeftAfter}
use Rattle.mill_report.specs.Findings.{AreFindings}
use Rattle.mill_report.specs.declared.left.LeftColumn.{LeftColumn}
use Rattle.mill_answer.specs.Verify.{IsSafe, verdict_line, verdict_status}
use Rattle.mill_ngc.specs.Lines.{ArePlaces}
use Rattle.mill_ngc.specs.declared.place.LineSpan.{LineSpan}
use Rattle.mill_verify.specs.Verdicts.{IsVerdict, NamesLeaf}
use Rattle.mill_verify.specs.declared.verdict.Reason.{Reason}
use Rattle.mill_verify.specs.declared.verdict.Reason.TheVariants.{Gouge, Holder, Left}
use Rattle.mill_verify.specs.declared.verdict.Verdict.{Verdict}
use Rattle.mill_verify.specs.declared.verdict.Verdict.TheVariants.{Accept, Reject}
use Rattle.serde_json.specs.Data.{Data}
use Rattle.sha2.specs.Sha256.{sha256}

-- the texts of the three files, as they were read
pub record Texts : Type 0 where
  pub job : List ℕ
  pub part : List ℕ
  pub program : List ℕ

-- they read as this job, this part and these moves, and the part isn't over the job's top
pub record Read (texts : Texts) (job : JobFields) (part : List Tri) (moves : List Move) : Type 0 where
  pub job_is : IsJobText texts.job job
  pub part_is : IsPartText job texts.part part
  pub under : IsUnder part job.top
  pub moves_are : IsProgramText job texts.program moves

-- the checksums of exactly these texts
abbrev pub sums_of : Texts → Sums
sums_of texts = record { job = sha256 texts.job; part = sha256 texts.part; program = sha256 texts.program }

-- ---- the moves that fail

-- the least lift of a move, by what of the tool is tested against the part, where the move, raised over the part, stays in the range of coordinates, and else none
abbrev pub IsLiftOf : JobFields → List Tri → Move → Option ℤ → Type 0
IsLiftOf job part m None = ¬ HasRoom (part_tool_of job) part m
IsLiftOf job part m (Some lift) = HasRoom (part_tool_of job) part m × ((n : ℕ) × (lift ≡ pos n) × IsLeastLift (part_tool_of job) part m n)

-- the lift of a finding: that of its move, if the test is one against the part; else none
abbrev pub IsLift : JobFields → List Tri → List Move → Reason → Option ℤ → Type 0
IsLift job part moves (Gouge k t leaf) lift = IsLiftOf job part (move_at moves k) lift
IsLift job part moves (Holder k t leaf) lift = IsLiftOf job part (move_at moves k) lift
IsLift job part moves reason lift = lift ≡ None

-- the items of some findings: each with its place in the program's text and its lift
pub record AreItems (texts : Texts) (job : JobFields) (part : List Tri) (moves : List Move) (found : List Reason) (items : List Data) : Type 0 where
  pub places : List LineSpan
  pub places_are : ArePlaces (home job) job.unit (rules_of job) texts.program places
  pub lifts : List (Option ℤ)
  pub lifts_are : AllZip (IsLift job part moves) found lifts
  pub items_are : items ≡ failing_data job part moves texts.program places found lifts

-- the items of all findings; where there is none, none
abbrev pub AreFailing : Texts → JobFields → List Tri → List Move → List Reason → List Data → Type 0
AreFailing texts job part moves [] items = items ≡ []
AreFailing texts job part moves (reason ∷ found) items = AreItems texts job part moves (reason ∷ found) items

-- ---- the whole

-- what is left at most, which only an acceptance tells
abbrev pub most_left : Verdict → Option ℤ
most_left (Accept count columns left) = Some left
most_left (Reject reason) = None

-- the numbers of a report
abbrev pub summary_of : JobFields → List Move → Verdict → ℕ → Summary
summary_of job moves verdict too_high = record {
  status = verdict_status verdict;
  unit = job.unit;
  moves = length moves;
  columns = row_count job * column_count job;
  left = most_left verdict;
  too_high = too_high;
}

-- the columns left too high begin with this one
pub record BeginsWith (left : List LeftColumn) (j i : ℕ) (top : ℤ) : Type 0 where
  pub first : LeftColumn
  pub others : List LeftColumn
  pub left_is : left ≡ first ∷ others
  pub row_is : first.row ≡ j
  pub col_is : first.col ≡ i
  pub top_is : first.top ≡ top

-- what the two lists have to do with the verdict: an acceptance has neither a finding nor a column left too high; a rejection for such a column has no finding, and that column first; and each other has its reason for the first finding
abbrev pub Agree : Verdict → List Reason → List LeftColumn → ℕ → Type 0
Agree (Accept count columns most) found left too_high = (found ≡ []) × (left ≡ []) × (too_high ≡ 0)
Agree (Reject (Left j i top)) found left too_high = (found ≡ []) × BeginsWith left j i top
Agree (Reject reason) found left too_high = (others : List Reason) × (found ≡ reason ∷ others)

-- the document of this verdict on these texts: its line, which is the one that `verify` prints; all moves that fail a test, each with the first that it fails; the columns left too high
pub record IsReport (texts : Texts) (job : JobFields) (part : List Tri) (moves : List Move) (verdict : Verdict) (told : Data) : Type 0 where
  pub all_read : Read texts job part moves
  pub verdict_is : IsVerdict job part moves verdict
  pub safe : IsSafe job part moves verdict
  pub line : List ℕ
  pub line_is : verdict_line job moves verdict ≡ line ++ 10 ∷ []
  pub found : List Reason
  pub found_are : AreFindings job part moves found
  pub named : All (NamesLeaf job part (uncut job) moves) found
  pub failing : List Data
  pub failing_are : AreFailing texts job part moves found failing
  pub left : List LeftColumn
  pub too_high : ℕ
  pub left_are : IsLeftAfter job part moves left too_high
  pub agree : Agree verdict found left too_high
  pub told_is : told ≡ report_data line (sums_of texts) (summary_of job moves verdict too_high) failing (map (λ c. column_data job.unit (left_column job c)) left)

-- the text of such a document, and the exit status
pub record IsReportText (texts : Texts) (job : JobFields) (part : List Tri) (moves : List Move) (text : List ℕ) (status : ℕ) : Type 0 where
  pub verdict : Verdict
  pub told : Data
  pub report : IsReport texts job part moves verdict told
  pub text_is : text ≡ text_of told
  pub status_is : status ≡ verdict_status verdict

-- the text of what keeps a report from its files: the line that `verify` prints, and its status
pub record IsFaultText (fault : LoadFault) (text : List ℕ) : Type 0 where
  pub line : List ℕ
  pub line_is : fault_line fault ≡ line ++ 10 ∷ []
  pub text_is : text ≡ text_of (fault_data line (fault_status fault))
