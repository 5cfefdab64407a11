-- The finishing visits of a job without a tolerance, and of one with it.
use Rattle.std.specs.Prelude.{◌≡◌, ◌≤◌, ℤ, List, All, Option, None, Some, MatchOption, Result, Ok, Err, IfOk, OnOk}
use Rattle.std.specs.Global.{Vec}
use Rattle.std.proofs.Common.{sym, subst}
use Rattle.mill_base.specs.declared.points.Tri.{Tri}
use Rattle.mill_job.specs.Jobs.{IsJob}
use Rattle.mill_job.specs.declared.fields.JobFields.{JobFields}
use Rattle.mill_links.specs.declared.visit.Visit.{Visit}
use Rattle.mill_paths.specs.Limits.{change_count, most_changes}
use Rattle.mill_paths.specs.Visits.{AreFinishVisits, AreNodeVisits, AreRowVisits, HaveManyFinishVisits, IsVisit}
use Rattle.mill_paths.specs.declared.fault.PathFault.{PathFault}
use Rattle.mill_paths.proofs.Many.{few_finish}
use Rattle.mill_paths.proofs.VisitLemmas.{finish_visits_are_free}

module _ (job : JobFields) (part : List Tri) where
  -- what is known of each kind of them is known of them
  pub at_nodes : (list : List Visit) → job.path_tol ≡ None → AreNodeVisits job part list → AreFinishVisits job part list
  at_nodes list none h = subst (λ (t : Option ℤ). MatchOption t (AreNodeVisits job part list) (λ tol. AreRowVisits job part tol list)) (sym none) h

  pub along_rows : (tol : ℤ) (list : List Visit) → job.path_tol ≡ Some tol → AreRowVisits job part tol list → AreFinishVisits job part list
  along_rows tol list some h = subst (λ (t : Option ℤ). MatchOption t (AreNodeVisits job part list) (λ tol. AreRowVisits job part tol list)) (sym some) h

  -- where they are made each is a place that a plan may come to, and they aren't too many
  pub made_free : (P : List Visit → Type 0) (r : Result (Vec Visit) PathFault) → IsJob job → ((list : List Visit) → P list → AreFinishVisits job part list) → IfOk r (λ visits. P visits.items)
      → IfOk r (λ visits. All (IsVisit job part) visits.items)
  made_free P (Ok visits) ok is h = finish_visits_are_free job part visits.items ok (is visits.items h)
  made_free P (Err fault) ok is h = tt

  pub made_few : (P : List Visit → Type 0) (r : Result (Vec Visit) PathFault) → ((list : List Visit) → P list → AreFinishVisits job part list) → IfOk r (λ visits. P visits.items)
      → IfOk r (λ visits. change_count visits.items ≤ most_changes) → OnOk r (¬ HaveManyFinishVisits job part)
  made_few P (Ok visits) is h few = few_finish job part visits.items (is visits.items h) few
  made_few P (Err fault) is h few = tt
