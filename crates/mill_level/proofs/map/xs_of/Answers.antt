use Rattle.std.proofs.Common.{◌<◌, ℤ, length, ap, ◌∙◌, arith}
use Rattle.std.proofs.lemmas.List.{take_all}
use Rattle.mill_base.specs.Lattices.{lattice_xs}
use Rattle.mill_push.proofs.Stored.{stored}
use Rattle.mill_level.proofs.Positions.{is_node_of_first, node_x, one_taken}
use Rattle.mill_level.proofs.map.xs_of.Goals as goal

pub node-requires-clause-number_ok : goal.node-requires-clause-number_ok
node-requires-clause-number_ok c =
    let inside : c.loop-column.column < length (lattice_xs c.args.lattice.now) = omega arith in
    is_node_of_first c.args.lattice.now c.loop-column.column inside

pub loop-column-preserved : goal.loop-column-preserved
loop-column-preserved c =
    let xs = lattice_xs c.args.lattice.now in
    let k = c.loop-column.column in
    let inside : k < length xs = omega arith in
    let x = stored c.node.result.0 c.node.ensures.x_ok ∙ ap (λ (node : ℤ × ℤ). node.0) c.node.ensures.place ∙ node_x c.args.lattice.now k inside in
    one_taken xs c.loop-column.xs.items c.push.new.self.items k _ inside c.loop-column.invariant c.in_ok-push.ensures.items x

pub returns : goal.returns
returns c = c.loop-column.invariant ∙ take_all c.loop-column.column (lattice_xs c.args.lattice.now) (omega arith)
