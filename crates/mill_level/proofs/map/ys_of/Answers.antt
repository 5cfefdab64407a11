use Rattle.std.proofs.Common.{◌<◌, ℤ, length, ap, ◌∙◌, arith}
use Rattle.std.proofs.lemmas.List.{take_all}
use Rattle.mill_base.specs.Lattices.{lattice_ys}
use Rattle.mill_push.proofs.Stored.{stored}
use Rattle.mill_level.proofs.Positions.{is_node, node_y, one_taken}
use Rattle.mill_level.proofs.map.ys_of.Goals as goal

pub node-requires-clause-number_ok : goal.node-requires-clause-number_ok
node-requires-clause-number_ok c =
    let inside : c.loop-row.row < length (lattice_ys c.args.lattice.now) = omega arith in
    is_node c.args.lattice.now c.loop-row.row c.node_columns-columns.result c.node_columns-columns.ensures.value inside

pub loop-row-preserved : goal.loop-row-preserved
loop-row-preserved c =
    let ys = lattice_ys c.args.lattice.now in
    let k = c.loop-row.row in
    let inside : k < length ys = omega arith in
    let y = stored c.node.result.1 c.node.ensures.y_ok ∙ ap (λ (node : ℤ × ℤ). node.1) c.node.ensures.place ∙ node_y c.args.lattice.now k c.node_columns-columns.result c.node_columns-columns.ensures.value inside in
    one_taken ys c.loop-row.ys.items c.push.new.self.items k _ inside c.loop-row.invariant c.in_ok-push.ensures.items y

pub returns : goal.returns
returns c = c.loop-row.invariant ∙ take_all c.loop-row.row (lattice_ys c.args.lattice.now) (omega arith)
