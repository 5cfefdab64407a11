use Rattle.std.proofs.Common.{◌++◌, ◌<◌, ◌≤◌, ◌∙◌, List, length, sym, ap, subst, arith}
use Rattle.std.proofs.lemmas.List.Folds.{flat_map-map}
use Rattle.std.proofs.lemmas.Result.{err_from_is_err_and}
use Rattle.mill_level.specs.Waterlines.{seen}
use Rattle.mill_links.specs.declared.visit.Visit.{Visit}
use Rattle.mill_paths.specs.Limits.{IsListFault}
use Rattle.mill_paths.specs.Visits.{outline_visits}
use Rattle.mill_paths.proofs.Adding.{adds_all, adds_fault}
use Rattle.mill_paths.proofs.levels.add_chains.Goals as goal

pub returns-in_err-add_chain-clause-fault : goal.returns-in_err-add_chain-clause-fault
returns-in_err-add_chain-clause-fault c =
    let p = err_from_is_err_and c.from_residual.result c.from_residual.ensures.1 in
    let inside : c.loop-chain.chain-index < length c.args.chains.now = omega arith in
    let here = rw c.chain-item.is at c.in_err-add_chain.ensures.fault in
    rw (p.1, p.2)
    (subst (λ (vs : List Visit). IsListFault (c.args.list.now.visits.items ++ vs) c.in_err-add_chain.field-0.0) (sym (flat_map-map (outline_visits c.args.job.now.fields.raster) seen c.args.chains.now))
    (adds_fault (λ chain. outline_visits c.args.job.now.fields.raster (seen chain)) c.args.chains.now c.chain-item.result c.loop-chain.chain-index c.args.list.now.visits.items c.loop-chain.list.visits.items
    c.in_err-add_chain.field-0.0 inside c.loop-chain.invariant here))

pub returns-clause-ok : goal.returns-clause-ok
returns-clause-ok c =
    let past : length c.args.chains.now ≤ c.loop-chain.chain-index = omega arith in
    adds_all (λ chain. outline_visits c.args.job.now.fields.raster (seen chain)) c.args.chains.now c.loop-chain.chain-index c.args.list.now.visits.items c.loop-chain.list.visits.items past c.loop-chain.invariant
    ∙ ap (λ (vs : List Visit). c.args.list.now.visits.items ++ vs) (sym (flat_map-map (outline_visits c.args.job.now.fields.raster) seen c.args.chains.now))
