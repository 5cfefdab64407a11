use Rattle.std.proofs.Common.{◌≡◌, ◌∙◌}
use Rattle.std.proofs.lemmas.Result.{err_from_is_err_and}
use Rattle.std.proofs.lemmas.Slice.Zip.{AllZip-long}
use Rattle.mill_base.specs.Lattices.{nodes_of, IsMapLattice}
use Rattle.mill_drop.specs.Maps.{AreDropHeights, IsHeightAt}
use Rattle.mill_job.specs.Jobs.{tool_of}
use Rattle.mill_paths.specs.Lattices.{finish_lattice}
use Rattle.mill_paths.specs.Limits.{IsHeightsFault, IsListFault}
use Rattle.mill_paths.specs.Visits.{HaveManyNodeVisits, finish_visits_of}
use Rattle.mill_paths.proofs.FaultLemmas.{from_heights, from_list}
use Rattle.mill_paths.proofs.visits.node_visits.Goals as goal

pub returns-in_err-heights-clause-fault : goal.returns-in_err-heights-clause-fault
returns-in_err-heights-clause-fault g c =
    let p = err_from_is_err_and c.from_residual.result c.from_residual.ensures.1 in
    let fault : IsHeightsFault (finish_lattice c.args.job.now.fields) c.in_err-heights.field-0.0 = rw c.finish_lattice-lattice.ensures at c.in_err-heights.ensures.fault in
    rw (p.1, p.2) (from_heights (finish_lattice c.args.job.now.fields) (HaveManyNodeVisits c.args.job.now.fields c.args.part.now) c.in_err-heights.field-0.0 fault)

pub add_path-requires-clause-lattice_ok : goal.add_path-requires-clause-lattice_ok
add_path-requires-clause-lattice_ok g c =
    rw c.finish_lattice-lattice.ensures at c.in_ok-heights.ensures.lattice_ok

pub add_path-requires-clause-heights_ok : goal.add_path-requires-clause-heights_ok
add_path-requires-clause-heights_ok g c =
    let are : AreDropHeights (tool_of c.args.job.now.fields) c.args.part.now c.args.job.now.fields.floor (finish_lattice c.args.job.now.fields) c.in_ok-heights.heights.items = rw c.finish_lattice-lattice.ensures at c.in_ok-heights.ensures.heights in
    rw c.deref.ensures.value (AllZip-long (IsHeightAt (tool_of c.args.job.now.fields) c.args.part.now c.args.job.now.fields.floor) (nodes_of (finish_lattice c.args.job.now.fields)) c.in_ok-heights.heights.items are)

pub returns-in_err-add_path-clause-fault : goal.returns-in_err-add_path-clause-fault
returns-in_err-add_path-clause-fault g c =
    let p = err_from_is_err_and c.from_residual-in_err-add_path.result c.from_residual-in_err-add_path.ensures.1 in
    let fault : IsListFault (finish_visits_of c.args.job.now.fields c.in_ok-heights.heights.items) c.in_err-add_path.field-0.0 = rw (c.new-list.ensures, c.deref.ensures.value) at c.in_err-add_path.ensures.fault in
    let are : AreDropHeights (tool_of c.args.job.now.fields) c.args.part.now c.args.job.now.fields.floor (finish_lattice c.args.job.now.fields) c.in_ok-heights.heights.items = rw c.finish_lattice-lattice.ensures at c.in_ok-heights.ensures.heights in
    let map_ok : IsMapLattice (finish_lattice c.args.job.now.fields) = rw c.finish_lattice-lattice.ensures at c.in_ok-heights.ensures.lattice_ok in
    rw (p.1, p.2)
    (from_list (finish_lattice c.args.job.now.fields) (HaveManyNodeVisits c.args.job.now.fields c.args.part.now) (finish_visits_of c.args.job.now.fields c.in_ok-heights.heights.items) c.in_err-add_path.field-0.0 map_ok.few
    (λ many. record { heights = c.in_ok-heights.heights.items; are = are; many = many }) fault)

pub returns-clause-list : goal.returns-clause-list
returns-clause-list g c =
    let are : AreDropHeights (tool_of c.args.job.now.fields) c.args.part.now c.args.job.now.fields.floor (finish_lattice c.args.job.now.fields) c.in_ok-heights.heights.items = rw c.finish_lattice-lattice.ensures at c.in_ok-heights.ensures.heights in
    let added = rw (c.new-list.ensures, c.deref.ensures.value) at c.in_ok-add_path.ensures.ok in
    let visits : c.into_visits.result.items ≡ finish_visits_of c.args.job.now.fields c.in_ok-heights.heights.items = c.into_visits.ensures.visits ∙ added in
    record { heights = c.in_ok-heights.heights.items; are = are; visits = visits }

pub returns-clause-nodes : goal.returns-clause-nodes
returns-clause-nodes g c =
    let map_ok : IsMapLattice (finish_lattice c.args.job.now.fields) = rw c.finish_lattice-lattice.ensures at c.in_ok-heights.ensures.lattice_ok in
    map_ok.few
