use Rattle.std.proofs.Common.{◌≡◌, ◌∙◌, sym, ap, rules, w32}
use Rattle.std.specs.Prelude.{ℤ, Some}
use Rattle.std.proofs.lemmas.Int.{to_z-of_z}
use Rattle.mill_base.proofs.Machine.{stored}
use Rattle.mill_paths.specs.Visits.{AreNodeVisits, AreRowVisits}
use Rattle.mill_paths.proofs.Finishing.{along_rows, at_nodes, made_few, made_free}
use Rattle.mill_paths.proofs.visits.finish_visits.Goals as goal

pub returns-in-None-clause-each : goal.returns-in-None-clause-each
returns-in-None-clause-each g c =
    let job = c.args.job.now.fields in
    let part = c.args.part.now in
    made_free job part (AreNodeVisits job part) c.node_visits.result c.args.job.now.is_job (λ list are. at_nodes job part list c.in-None.is are) c.node_visits.ensures.list

pub returns-in-None-clause-many : goal.returns-in-None-clause-many
returns-in-None-clause-many g c =
    let job = c.args.job.now.fields in
    let part = c.args.part.now in
    made_few job part (AreNodeVisits job part) c.node_visits.result (λ list are. at_nodes job part list c.in-None.is are) c.node_visits.ensures.list c.node_visits.ensures.few

pub returns-in-Some-clause-each : goal.returns-in-Some-clause-each
returns-in-Some-clause-each g c =
    let job = c.args.job.now.fields in
    let part = c.args.part.now in
    let tol : ℤ = stored w32 c.in-Some.tol in
    let is : job.path_tol ≡ Some tol = c.in-Some.is ∙ ap Some (sym (to_z-of_z w32 c.in-Some.tol (search rules))) in
    made_free job part (AreRowVisits job part tol) c.row_visits.result c.args.job.now.is_job (λ list are. along_rows job part tol list is are) c.row_visits.ensures.list

pub returns-in-Some-clause-many : goal.returns-in-Some-clause-many
returns-in-Some-clause-many g c =
    let job = c.args.job.now.fields in
    let part = c.args.part.now in
    let tol : ℤ = stored w32 c.in-Some.tol in
    let is : job.path_tol ≡ Some tol = c.in-Some.is ∙ ap Some (sym (to_z-of_z w32 c.in-Some.tol (search rules))) in
    made_few job part (AreRowVisits job part tol) c.row_visits.result (λ list are. along_rows job part tol list is are) c.row_visits.ensures.list c.row_visits.ensures.few
