use Rattle.std.proofs.Common.{◌≡◌, ℕ, List, ◌++◌, ◌<◌, ◌≤◌, ◌∙◌, length, ap, subst}
use Rattle.std.specs.List.{flat_map}
use Rattle.std.proofs.lemmas.Result.{err_from_is_err_and}
use Rattle.mill_base.specs.Lattices.{lattice_xs, lattice_ys}
use Rattle.mill_base.specs.declared.lattice.Lattice.{Lattice}
use Rattle.mill_links.specs.declared.visit.Visit.{Visit}
use Rattle.mill_paths.specs.Lattices.{zigzag_row}
use Rattle.mill_paths.specs.Limits.{IsListFault}
use Rattle.mill_paths.specs.inner.Paths.{path_lattice, path_visit}
use Rattle.mill_paths.proofs.Adding.{counts_all, counts_fault, counts_more}
use Rattle.mill_paths.proofs.ZigzagLemmas.{by_rows}
use Rattle.mill_paths.proofs.zigzag.add_path.Goals as goal

pub returns-in_err-add_row-clause-fault : goal.returns-in_err-add_row-clause-fault
returns-in_err-add_row-clause-fault c =
    let p = err_from_is_err_and c.from_residual.result c.from_residual.ensures.1 in
    let lattice : Lattice = path_lattice c.args.job.now.fields c.args.path in
    let columns : c.node_columns-columns.result ≡ length (lattice_xs lattice) = c.node_columns-columns.ensures.value ∙ ap (λ (l : Lattice). length (lattice_xs l)) c.lattice_of-lattice.ensures in
    let rows : c.node_rows-row-end.result ≡ length (lattice_ys lattice) = c.node_rows-row-end.ensures.value ∙ ap (λ (l : Lattice). length (lattice_ys l)) c.lattice_of-lattice.ensures in
    let inside : c.loop-row.row < length (lattice_ys lattice) = subst (λ (n : ℕ). c.loop-row.row < n) rows c.loop-row-test.true in
    rw (p.1, p.2)
    (subst (λ (vs : List Visit). IsListFault (c.args.list.now.visits.items ++ vs) c.in_err-add_row.field-0.0) (by_rows (path_visit c.args.job.now.fields c.args.heights.now c.args.path) lattice c.node_columns-columns.result columns)
    (counts_fault (λ (row : ℕ). flat_map (path_visit c.args.job.now.fields c.args.heights.now c.args.path) (zigzag_row c.node_columns-columns.result row)) (length (lattice_ys lattice)) c.loop-row.row
    c.args.list.now.visits.items c.loop-row.list.visits.items c.in_err-add_row.field-0.0 inside c.loop-row.invariant c.in_err-add_row.ensures.fault))

pub loop-row-preserved : goal.loop-row-preserved
loop-row-preserved c =
    let lattice : Lattice = path_lattice c.args.job.now.fields c.args.path in
    let rows : c.node_rows-row-end.result ≡ length (lattice_ys lattice) = c.node_rows-row-end.ensures.value ∙ ap (λ (l : Lattice). length (lattice_ys l)) c.lattice_of-lattice.ensures in
    let inside : c.loop-row.row < length (lattice_ys lattice) = subst (λ (n : ℕ). c.loop-row.row < n) rows c.loop-row-test.true in
    counts_more (λ (row : ℕ). flat_map (path_visit c.args.job.now.fields c.args.heights.now c.args.path) (zigzag_row c.node_columns-columns.result row)) (length (lattice_ys lattice)) c.loop-row.row
    c.args.list.now.visits.items c.loop-row.list.visits.items c.add_row.new.list.visits.items inside c.loop-row.invariant c.in_ok-add_row.ensures.ok

pub returns-clause-ok : goal.returns-clause-ok
returns-clause-ok c =
    let lattice : Lattice = path_lattice c.args.job.now.fields c.args.path in
    let columns : c.node_columns-columns.result ≡ length (lattice_xs lattice) = c.node_columns-columns.ensures.value ∙ ap (λ (l : Lattice). length (lattice_xs l)) c.lattice_of-lattice.ensures in
    let rows : c.node_rows-row-end.result ≡ length (lattice_ys lattice) = c.node_rows-row-end.ensures.value ∙ ap (λ (l : Lattice). length (lattice_ys l)) c.lattice_of-lattice.ensures in
    let past : length (lattice_ys lattice) ≤ c.loop-row.row = subst (λ (n : ℕ). n ≤ c.loop-row.row) rows c.loop-row-test.false in
    counts_all (λ (row : ℕ). flat_map (path_visit c.args.job.now.fields c.args.heights.now c.args.path) (zigzag_row c.node_columns-columns.result row)) (length (lattice_ys lattice)) c.loop-row.row
    c.args.list.now.visits.items c.loop-row.list.visits.items past c.loop-row.invariant
    ∙ ap (λ (vs : List Visit). c.args.list.now.visits.items ++ vs) (by_rows (path_visit c.args.job.now.fields c.args.heights.now c.args.path) lattice c.node_columns-columns.result columns)
