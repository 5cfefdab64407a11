use Rattle.std.proofs.Common.{◌≡◌, FitsSigned, rules, w32, length}
use Rattle.std.proofs.lemmas.Int.{to_z-of_z}
use Rattle.mill_base.specs.Lattices.{lattice_xs, lattice_ys}
use Rattle.mill_base.proofs.Ranges.{coordinate}
use Rattle.mill_base.proofs.NodeLemmas.{row_within, node_placed}
use Rattle.mill_base.proofs.lattice.Lattice.node.Goals as goal

pub position-y-requires-clause-number_ok : goal.position-y-requires-clause-number_ok
position-y-requires-clause-number_ok c =
    let fits_step : FitsSigned w32 c.args.self.now.step = search rules in
    let step = to_z-of_z w32 c.args.self.now.step fits_step in
    let x0 = coordinate c.args.self.now.area.x0 c.requires.lattice_ok.x0_ok in
    let x1 = coordinate c.args.self.now.area.x1 c.requires.lattice_ok.x1_ok in
    let y0 = coordinate c.args.self.now.area.y0 c.requires.lattice_ok.y0_ok in
    let y1 = coordinate c.args.self.now.area.y1 c.requires.lattice_ok.y1_ok in
    let columns : c.positions-columns.result ≡ length (lattice_xs c.args.self.now) = rw (x0, x1, step) at c.positions-columns.ensures.value in
    rw (y0, y1, step) (row_within (lattice_xs c.args.self.now) (lattice_ys c.args.self.now) c.positions-columns.result c.args.number
    columns c.positions-columns.ensures.some c.requires.number_ok)

pub returns-clause-place : goal.returns-clause-place
returns-clause-place c =
    let fits_step : FitsSigned w32 c.args.self.now.step = search rules in
    let step = to_z-of_z w32 c.args.self.now.step fits_step in
    let x0 = coordinate c.args.self.now.area.x0 c.requires.lattice_ok.x0_ok in
    let x1 = coordinate c.args.self.now.area.x1 c.requires.lattice_ok.x1_ok in
    let y0 = coordinate c.args.self.now.area.y0 c.requires.lattice_ok.y0_ok in
    let y1 = coordinate c.args.self.now.area.y1 c.requires.lattice_ok.y1_ok in
    let x = coordinate c.position-x.result c.position-x.ensures.bound in
    let y = coordinate c.position-y.result c.position-y.ensures.bound in
    let columns : c.positions-columns.result ≡ length (lattice_xs c.args.self.now) = rw (x0, x1, step) at c.positions-columns.ensures.value in
    let along = rw (x0, x1, step) at c.position-x.ensures.value in
    let row = rw (y0, y1, step) at c.position-y.ensures.value in
    rw (x, y) (node_placed (lattice_xs c.args.self.now) (lattice_ys c.args.self.now) c.positions-columns.result c.args.number _ _
    columns c.positions-columns.ensures.some c.requires.number_ok along row)
