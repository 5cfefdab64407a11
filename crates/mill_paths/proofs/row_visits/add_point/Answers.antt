use Rattle.std.proofs.Common.{◌≡◌, ◌∙◌, ◌++◌, List, sym, ap, append-nil, rules, w32, subst}
use Rattle.std.specs.Prelude.{ℤ, Some, None, IfErr, OnOk}
use Rattle.std.proofs.lemmas.Int.{to_z-of_z}
use Rattle.mill_base.proofs.Machine.{stored}
use Rattle.mill_links.specs.declared.visit.Visit.{Visit}
use Rattle.mill_paths.specs.Limits.{IsListFault}
use Rattle.mill_paths.specs.declared.path.Path.TheVariants.{Finish}
use Rattle.mill_paths.specs.inner.Paths.{path_height}
use Rattle.mill_paths.proofs.RowVisits.{point_nowhere, point_there}
use Rattle.mill_paths.proofs.row_visits.add_point.Goals as goal

pub returns-in-Some-clause-ok : goal.returns-in-Some-clause-ok
returns-in-Some-clause-ok c =
    let job = c.args.job.now.fields in
    let p = c.args.point in
    let x = to_z-of_z w32 p.x (search rules) in
    let y = to_z-of_z w32 p.y (search rules) in
    let z = to_z-of_z w32 c.in-Some.z (search rules) in
    let drop = to_z-of_z w32 p.z (search rules) in
    let step = to_z-of_z w32 c.step_from-step.result (search rules) ∙ c.step_from-step.ensures in
    let there : Some (stored w32 c.in-Some.z) ≡ path_height job Finish p.z = ap Some z ∙ c.in-Some.ensures ∙ ap (λ (h : ℤ). path_height job Finish h) drop in
    subst (λ (vs : List Visit). OnOk c.push.result (c.push.new.self.visits.items ≡ c.args.list.now.visits.items ++ vs))
    (point_there job c.args.before p (stored w32 p.x) (stored w32 p.y) (stored w32 c.in-Some.z) (stored w32 c.step_from-step.result) x y step there) c.push.ensures.ok

pub returns-in-Some-clause-fault : goal.returns-in-Some-clause-fault
returns-in-Some-clause-fault c =
    let job = c.args.job.now.fields in
    let p = c.args.point in
    let x = to_z-of_z w32 p.x (search rules) in
    let y = to_z-of_z w32 p.y (search rules) in
    let z = to_z-of_z w32 c.in-Some.z (search rules) in
    let drop = to_z-of_z w32 p.z (search rules) in
    let step = to_z-of_z w32 c.step_from-step.result (search rules) ∙ c.step_from-step.ensures in
    let there : Some (stored w32 c.in-Some.z) ≡ path_height job Finish p.z = ap Some z ∙ c.in-Some.ensures ∙ ap (λ (h : ℤ). path_height job Finish h) drop in
    subst (λ (vs : List Visit). IfErr c.push.result (IsListFault (c.args.list.now.visits.items ++ vs)))
    (point_there job c.args.before p (stored w32 p.x) (stored w32 p.y) (stored w32 c.in-Some.z) (stored w32 c.step_from-step.result) x y step there) c.push.ensures.fault

pub returns-in-None-clause-ok : goal.returns-in-None-clause-ok
returns-in-None-clause-ok c =
    let drop = to_z-of_z w32 c.args.point.z (search rules) in
    let none : None ≡ path_height c.args.job.now.fields Finish c.args.point.z = c.in-None.ensures ∙ ap (λ (h : ℤ). path_height c.args.job.now.fields Finish h) drop in
    sym (append-nil c.args.list.now.visits.items) ∙ ap (λ (vs : List Visit). c.args.list.now.visits.items ++ vs) (point_nowhere c.args.job.now.fields c.args.before c.args.point none)
