-- The whole report, of its lists and its line.
use Rattle.std.proofs.Common.{◌≡◌, ℕ, List, [], ◌∷◌, ◌++◌, map, take, ap, subst, ◌∙◌}
use Rattle.std.proofs.lemmas.List.Elements.{All-same, All-take, All-weaker}
use Rattle.std.specs.Prelude.{All}
use Rattle.mill_base.specs.declared.motion.Move.{Move}
use Rattle.mill_base.specs.declared.points.Tri.{Tri}
use Rattle.mill_document.specs.Details.{left_column}
use Rattle.mill_dexel.specs.Tops.{stock_after, uncut}
use Rattle.mill_document.specs.Documents.{column_data, report_data, text_of}
use Rattle.mill_job.specs.Columns.{IsColumn}
use Rattle.mill_job.specs.declared.fields.JobFields.{JobFields}
use Rattle.mill_report.specs.Columns.{IsLeftAfter, IsLeftColumn}
use Rattle.mill_report.specs.Findings.{AreFindings}
use Rattle.mill_report.specs.Laws.{FirstIsVerdict, FirstLeftIsVerdict, VerdictIsFirst}
use Rattle.mill_report.specs.declared.left.LeftColumn.{LeftColumn}
use Rattle.mill_report.specs.declared.left.TheConstants.{MAX_LEFT}
use Rattle.mill_report_run.proofs.Agreeing.{agrees}
use Rattle.mill_report_run.specs.Reports.{AreFailing, IsReportText, Read, Texts, summary_of, sums_of}
use Rattle.mill_report_run.specs.declared.lists.Lists.{Lists}
use Rattle.mill_report_run.specs.inner.Lists.{AreLists, ArePlain}
use Rattle.mill_answer.specs.Verify.{IsSafe, NamesVerdictMove, verdict_line, verdict_status}
use Rattle.mill_verify.specs.Verdicts.{IsVerdict, NamesLeaf, OneVerdict}
use Rattle.mill_verify.specs.declared.verdict.Reason.{Reason}
use Rattle.mill_verify.specs.declared.verdict.Reason.TheVariants.{Floor, Gouge, Holder, Fixture, HolderFixture, Rapid, Cut, HolderStock, Left}
use Rattle.mill_verify.specs.declared.verdict.Verdict.{Verdict}
use Rattle.mill_verify.specs.declared.verdict.Verdict.TheVariants.{Accept, Reject}
use Rattle.serde_json.specs.Data.{Data}
use Rattle.serde_json.specs.View.{view}

-- the move that the line of a verdict shows the height of is there
pub move_there : (job : JobFields) (part : List Tri) (moves : List Move) (verdict : Verdict) → IsVerdict job part moves verdict → NamesVerdictMove moves verdict
move_there job part moves (Accept count columns left) v = tt
move_there job part moves (Reject (Floor k)) v = v.there
move_there job part moves (Reject (Gouge k t leaf)) v = tt
move_there job part moves (Reject (Holder k t leaf)) v = tt
move_there job part moves (Reject (Fixture k b leaf)) v = tt
move_there job part moves (Reject (HolderFixture k b leaf)) v = tt
move_there job part moves (Reject (Rapid k j i leaf)) v = tt
move_there job part moves (Reject (Cut k j i leaf)) v = tt
move_there job part moves (Reject (HolderStock k j i leaf)) v = tt
move_there job part moves (Reject (Left j i top)) v = tt

-- the columns that are told of are the job's
pub columns_told : (job : JobFields) (part : List Tri) (moves : List Move) (shown told : List LeftColumn) (total : ℕ) → told ≡ shown → IsLeftAfter job part moves shown total → All (λ c. IsColumn job c.row c.col) told
columns_told job part moves shown told total same l =
    All-same (λ (c : LeftColumn). IsColumn job c.row c.col) told (take MAX_LEFT l.left) (same ∙ l.first)
    (All-take (λ (c : LeftColumn). IsColumn job c.row c.col) MAX_LEFT l.left
    (All-weaker (IsLeftColumn job part (stock_after job (uncut job) moves)) (λ (c : LeftColumn). IsColumn job c.row c.col) (λ c h. h.column) l.left l.are.each))

module _ (texts : Texts) (job : JobFields) (part : List Tri) (moves : List Move) where
  -- the lists of all findings, by what was read of them
  pub all_listed : OneVerdict → FirstIsVerdict → VerdictIsFirst → FirstLeftIsVerdict → (reason : Reason) (found given : List Reason) (shown told : List LeftColumn) (lists : Lists) → given ≡ found → told ≡ shown
      → AreFindings job part moves found → All (NamesLeaf job part (uncut job) moves) found → IsLeftAfter job part moves shown lists.too_high → AreFailing texts job part moves given (map view lists.failing.items)
      → map view lists.left.items ≡ map (λ c. column_data job.unit (left_column job c)) told → ArePlain lists → IsVerdict job part moves (Reject reason) → AreLists texts job part moves (Reject reason) lists
  all_listed one first is_first left_first reason found given shown told lists same_found same_left found_are named left_are failing left plain v = record {
    found = found;
    found_are = found_are;
    named = named;
    failing_are = subst (λ (fs : List Reason). AreFailing texts job part moves fs (map view lists.failing.items)) same_found failing;
    left = shown;
    left_are = left_are;
    left_items = left ∙ ap (map (λ (c : LeftColumn). column_data job.unit (left_column job c))) same_left;
    agree = agrees one first is_first left_first job part moves reason found shown lists.too_high found_are left_are v;
    plain = plain;
  }

  -- the document of a verdict, by its line and its lists
  pub reports : (verdict : Verdict) (lists : Lists) (line text : List ℕ) (status : ℕ) → Read texts job part moves → IsVerdict job part moves verdict → IsSafe job part moves verdict
      → AreLists texts job part moves verdict lists → verdict_line job moves verdict ≡ line ++ 10 ∷ []
      → text ≡ text_of (report_data line (sums_of texts) (summary_of job moves verdict lists.too_high) (map view lists.failing.items) (map view lists.left.items)) → status ≡ verdict_status verdict
      → IsReportText texts job part moves text status
  reports verdict lists line text status read is safe are line_is text_is status_is = record {
    verdict = verdict;
    told = report_data line (sums_of texts) (summary_of job moves verdict lists.too_high) (map view lists.failing.items) (map view lists.left.items);
    report = record {
      all_read = read;
      verdict_is = is;
      safe = safe;
      line = line;
      line_is = line_is;
      found = are.found;
      found_are = are.found_are;
      named = are.named;
      failing = map view lists.failing.items;
      failing_are = are.failing_are;
      left = are.left;
      too_high = lists.too_high;
      left_are = are.left_are;
      agree = are.agree;
      told_is = ap (λ (items : List Data). report_data line (sums_of texts) (summary_of job moves verdict lists.too_high) (map view lists.failing.items) items) are.left_items;
    };
    text_is = text_is;
    status_is = status_is;
  }
