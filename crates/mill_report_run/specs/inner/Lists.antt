-- The two lists of a report, as values.
use Rattle.std.specs.Prelude.{◌≡◌, false, All, List, map}
use Rattle.mill_base.specs.declared.motion.Move.{Move}
use Rattle.mill_base.specs.declared.points.Tri.{Tri}
use Rattle.mill_document.specs.Details.{left_column}
use Rattle.mill_dexel.specs.Tops.{uncut}
use Rattle.mill_document.specs.Documents.{column_data}
use Rattle.mill_job.specs.declared.fields.JobFields.{JobFields}
use Rattle.mill_report.specs.Columns.{IsLeftAfter}
use Rattle.mill_report.specs.Findings.{AreFindings}
use Rattle.mill_report.specs.declared.left.LeftColumn.{LeftColumn}
use Rattle.mill_report_run.specs.Reports.{Agree, AreFailing, Texts}
use Rattle.mill_report_run.specs.declared.lists.Lists.{Lists}
use Rattle.mill_verify.specs.Verdicts.{NamesLeaf}
use Rattle.mill_verify.specs.declared.verdict.Reason.{Reason}
use Rattle.mill_verify.specs.declared.verdict.Verdict.{Verdict}
use Rattle.serde_json.specs.View.{view}
use Rattle.serde_json.specs.Written.{has_float}

-- none of the values has a float
pub record ArePlain (lists : Lists) : Type 0 where
  pub failing : All (λ v. has_float (view v) ≡ false) lists.failing.items
  pub left : All (λ v. has_float (view v) ≡ false) lists.left.items

-- the lists of the report on a verdict
pub record AreLists (texts : Texts) (job : JobFields) (part : List Tri) (moves : List Move) (verdict : Verdict) (lists : Lists) : Type 0 where
  pub found : List Reason
  pub found_are : AreFindings job part moves found
  pub named : All (NamesLeaf job part (uncut job) moves) found
  pub failing_are : AreFailing texts job part moves found (map view lists.failing.items)
  pub left : List LeftColumn
  pub left_are : IsLeftAfter job part moves left lists.too_high
  pub left_items : map view lists.left.items ≡ map (λ c. column_data job.unit (left_column job c)) left
  pub agree : Agree verdict found left lists.too_high
  pub plain : ArePlain lists
