use Rattle.std.proofs.Common.{◌++◌, ◌<◌, ◌≤◌, ◌∙◌, List, length, map, sym, ap, subst, arith}
use Rattle.std.specs.List.{flat_map}
use Rattle.std.proofs.lemmas.List.Folds.{flat_map-map}
use Rattle.std.proofs.lemmas.Result.{err_from_is_err_and}
use Rattle.mill_level.specs.Waterlines.{seen}
use Rattle.mill_links.specs.declared.visit.Visit.{Visit}
use Rattle.mill_paths.specs.Limits.{IsListFault}
use Rattle.mill_paths.specs.Visits.{outline_visits}
use Rattle.mill_paths.proofs.Adding.{adds_all, adds_fault}
use Rattle.mill_paths.proofs.levels.add_waterlines.Goals as goal

pub returns-in_err-add_chains-clause-fault : goal.returns-in_err-add_chains-clause-fault
returns-in_err-add_chains-clause-fault c =
    let p = err_from_is_err_and c.from_residual.result c.from_residual.ensures.1 in
    let inside : c.loop-chains.chains-index < length c.args.waterlines.now = omega arith in
    let here = rw (c.deref.ensures.value, c.chains-item.is) at c.in_err-add_chains.ensures.fault in
    rw (p.1, p.2)
    (subst (λ (vs : List Visit). IsListFault (c.args.list.now.visits.items ++ vs) c.in_err-add_chains.field-0.0)
    (sym (flat_map-map (flat_map (outline_visits c.args.job.now.fields.raster)) (λ chains. map seen chains.items) c.args.waterlines.now))
    (adds_fault (λ chains. flat_map (outline_visits c.args.job.now.fields.raster) (map seen chains.items)) c.args.waterlines.now c.chains-item.result c.loop-chains.chains-index
    c.args.list.now.visits.items c.loop-chains.list.visits.items c.in_err-add_chains.field-0.0 inside c.loop-chains.invariant here))

pub returns-clause-ok : goal.returns-clause-ok
returns-clause-ok c =
    let past : length c.args.waterlines.now ≤ c.loop-chains.chains-index = omega arith in
    adds_all (λ chains. flat_map (outline_visits c.args.job.now.fields.raster) (map seen chains.items)) c.args.waterlines.now c.loop-chains.chains-index
    c.args.list.now.visits.items c.loop-chains.list.visits.items past c.loop-chains.invariant
    ∙ ap (λ (vs : List Visit). c.args.list.now.visits.items ++ vs) (sym (flat_map-map (flat_map (outline_visits c.args.job.now.fields.raster)) (λ chains. map seen chains.items) c.args.waterlines.now))
