use Rattle.std.proofs.Common.{◌++◌, ◌<◌, ◌≤◌, ◌∙◌, List, length, sym, ap, subst, arith}
use Rattle.std.proofs.lemmas.List.Folds.{flat_map-map}
use Rattle.std.proofs.lemmas.Result.{err_from_is_err_and}
use Rattle.mill_links.specs.declared.visit.Visit.{Visit}
use Rattle.mill_paths.specs.Limits.{IsListFault}
use Rattle.mill_paths.specs.Visits.{point_visits}
use Rattle.mill_paths.proofs.Adding.{adds_all, adds_fault}
use Rattle.mill_paths.proofs.row_visits.add_paths.Goals as goal

pub add_path-requires : goal.add_path-requires
add_path-requires c =
    let inside : c.loop-path.path-index < length c.args.paths.now = omega arith in
    rw (c.deref.ensures.value, c.path-item.is) (c.requires c.loop-path.path-index c.path-item.result inside)

pub returns-in_err-add_path-clause-fault : goal.returns-in_err-add_path-clause-fault
returns-in_err-add_path-clause-fault c =
    let p = err_from_is_err_and c.from_residual.result c.from_residual.ensures.1 in
    let inside : c.loop-path.path-index < length c.args.paths.now = omega arith in
    let here = rw (c.deref.ensures.value, c.path-item.is) at c.in_err-add_path.ensures.fault in
    rw (p.1, p.2)
    (subst (λ (vs : List Visit). IsListFault (c.args.list.now.visits.items ++ vs) c.in_err-add_path.field-0.0) (sym (flat_map-map (point_visits c.args.job.now.fields) (λ path. path.items) c.args.paths.now))
    (adds_fault (λ path. point_visits c.args.job.now.fields path.items) c.args.paths.now c.path-item.result c.loop-path.path-index c.args.list.now.visits.items c.loop-path.list.visits.items
    c.in_err-add_path.field-0.0 inside c.loop-path.invariant here))

pub returns-clause-ok : goal.returns-clause-ok
returns-clause-ok c =
    let past : length c.args.paths.now ≤ c.loop-path.path-index = omega arith in
    adds_all (λ path. point_visits c.args.job.now.fields path.items) c.args.paths.now c.loop-path.path-index c.args.list.now.visits.items c.loop-path.list.visits.items past c.loop-path.invariant
    ∙ ap (λ (vs : List Visit). c.args.list.now.visits.items ++ vs) (sym (flat_map-map (point_visits c.args.job.now.fields) (λ path. path.items) c.args.paths.now))
