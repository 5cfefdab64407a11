use Rattle.std.proofs.Common.{◌<◌, ◌≤◌, length}
use Rattle.std.proofs.lemmas.Result.{err_from_is_err_and}
use Rattle.mill_paths.specs.Lattices.{zigzag_row}
use Rattle.mill_paths.specs.inner.Paths.{path_lattice, path_visit}
use Rattle.mill_paths.proofs.Adding.{adds_all, adds_fault, adds_more}
use Rattle.mill_paths.proofs.ZigzagLemmas.{length-zigzag_row, number_within}
use Rattle.mill_paths.proofs.zigzag.add_row.Goals as goal

pub add_node-requires-clause-number_ok : goal.add_node-requires-clause-number_ok
add_node-requires-clause-number_ok c =
    rw c.node_number.ensures (number_within (path_lattice c.args.job.now.fields c.args.path) c.args.columns c.args.row c.loop-place.place c.requires.columns_ok c.requires.row_ok c.loop-place-test.true)

pub returns-in_err-add_node-clause-fault : goal.returns-in_err-add_node-clause-fault
returns-in_err-add_node-clause-fault c =
    let p = err_from_is_err_and c.from_residual.result c.from_residual.ensures.1 in
    let inside : c.loop-place.place < length (zigzag_row c.args.columns c.args.row) = rw (length-zigzag_row c.args.columns c.args.row) c.loop-place-test.true in
    let here = rw c.node_number.ensures at c.in_err-add_node.ensures.fault in
    rw (p.1, p.2)
    (adds_fault (path_visit c.args.job.now.fields c.args.heights.now c.args.path) (zigzag_row c.args.columns c.args.row) 0 c.loop-place.place c.args.list.now.visits.items c.loop-place.list.visits.items c.in_err-add_node.field-0.0
    inside c.loop-place.invariant here)

pub loop-place-preserved : goal.loop-place-preserved
loop-place-preserved c =
    let inside : c.loop-place.place < length (zigzag_row c.args.columns c.args.row) = rw (length-zigzag_row c.args.columns c.args.row) c.loop-place-test.true in
    let here = rw c.node_number.ensures at c.in_ok-add_node.ensures.ok in
    adds_more (path_visit c.args.job.now.fields c.args.heights.now c.args.path) (zigzag_row c.args.columns c.args.row) 0 c.loop-place.place c.args.list.now.visits.items c.loop-place.list.visits.items c.add_node.new.list.visits.items
    inside c.loop-place.invariant here

pub returns-clause-ok : goal.returns-clause-ok
returns-clause-ok c =
    let past : length (zigzag_row c.args.columns c.args.row) ≤ c.loop-place.place = rw (length-zigzag_row c.args.columns c.args.row) c.loop-place-test.false in
    adds_all (path_visit c.args.job.now.fields c.args.heights.now c.args.path) (zigzag_row c.args.columns c.args.row) c.loop-place.place c.args.list.now.visits.items c.loop-place.list.visits.items past c.loop-place.invariant
