use Rattle.std.proofs.Common.{[], ◌∷◌, ◌++◌, ◌<◌, ◌≤◌, ◌∙◌, List, length, ap, subst, arith}
use Rattle.std.specs.Prelude.{pos}
use Rattle.std.proofs.lemmas.List.Concat.{flat_map_single}
use Rattle.std.proofs.lemmas.Result.{err_from_is_err_and}
use Rattle.mill_base.specs.Points.{point_at}
use Rattle.mill_links.specs.declared.visit.Visit.{Visit}
use Rattle.mill_paths.specs.Limits.{IsListFault}
use Rattle.mill_paths.specs.inner.Levels.{point_visit}
use Rattle.mill_paths.proofs.Adding.{adds_all, adds_fault}
use Rattle.mill_paths.proofs.levels.add_points.Goals as goal

pub returns-in_err-push-clause-fault : goal.returns-in_err-push-clause-fault
returns-in_err-push-clause-fault c =
    let p = err_from_is_err_and c.from_residual.result c.from_residual.ensures.1 in
    let inside : c.loop-point.point-index < length c.args.points.now = omega arith in
    let here = rw c.visit_at.ensures at c.in_err-push.ensures.fault in
    rw (p.1, p.2)
    (subst (λ (vs : List Visit). IsListFault (c.args.list.now.visits.items ++ vs) c.in_err-push.field-0.0) (flat_map_single (point_visit c.args.job.now.fields.raster) c.args.points.now)
    (adds_fault (λ q. point_visit c.args.job.now.fields.raster q ∷ []) c.args.points.now (point_at (pos 0) (pos 0) (pos 0)) c.loop-point.point-index c.args.list.now.visits.items c.loop-point.list.visits.items
    c.in_err-push.field-0.0 inside c.loop-point.invariant here))

pub returns-clause-ok : goal.returns-clause-ok
returns-clause-ok c =
    let past : length c.args.points.now ≤ c.loop-point.point-index = omega arith in
    adds_all (λ q. point_visit c.args.job.now.fields.raster q ∷ []) c.args.points.now c.loop-point.point-index c.args.list.now.visits.items c.loop-point.list.visits.items past c.loop-point.invariant
    ∙ ap (λ (vs : List Visit). c.args.list.now.visits.items ++ vs) (flat_map_single (point_visit c.args.job.now.fields.raster) c.args.points.now)
