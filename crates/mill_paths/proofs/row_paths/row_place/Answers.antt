use Rattle.std.proofs.Common.{◌≡◌, ℕ, ◌+◌, ◌*◌, ◌<◌, ◌≤◌, ◌∙◌, Fits, length, sym, ap, subst, w32, arith}
use Rattle.std.specs.Prelude.{ℤ}
use Rattle.mill_base.specs.Lattices.{lattice_xs, node_at, node_count, nodes_of}
use Rattle.mill_base.specs.declared.lattice.Lattice.{Lattice}
use Rattle.mill_base.specs.declared.limits.TheConstants.{MAX_NODES}
use Rattle.mill_base.proofs.Ranges.{coordinate}
use Rattle.mill_paths.specs.Lattices.{finish_lattice}
use Rattle.mill_paths.proofs.ZigzagLemmas.{row_within, start_on_row, start_within}
use Rattle.mill_paths.proofs.row_paths.row_place.Goals as goal

fits : (n m : ℕ) → n + m ≤ MAX_NODES → Fits w32 n
fits n m h = omega (h, arith)

upto : (a b c : ℕ) → a ≤ b → b ≤ c → a ≤ c
upto a b c h e = omega (h, e, arith)

pub overflow_mul-row : goal.overflow_mul-row
overflow_mul-row c =
    let lattice : Lattice = finish_lattice c.args.job.now.fields in
    let columns : c.node_columns.result ≡ length (lattice_xs lattice) = c.node_columns.ensures.value ∙ ap (λ (l : Lattice). length (lattice_xs l)) c.finish_lattice-lattice.ensures in
    fits (c.args.row * c.node_columns.result) c.node_columns.result
    (upto (c.args.row * c.node_columns.result + c.node_columns.result) (node_count lattice) MAX_NODES (row_within lattice c.node_columns.result c.args.row columns c.requires.row_ok) c.requires.few)

pub node-y-requires-clause-number_ok : goal.node-y-requires-clause-number_ok
node-y-requires-clause-number_ok c =
    let lattice : Lattice = finish_lattice c.args.job.now.fields in
    let columns : c.node_columns.result ≡ length (lattice_xs lattice) = c.node_columns.ensures.value ∙ ap (λ (l : Lattice). length (lattice_xs l)) c.finish_lattice-lattice.ensures in
    subst (λ (l : Lattice). c.args.row * c.node_columns.result < length (nodes_of l)) (sym c.finish_lattice-lattice.ensures)
    (start_within lattice c.node_columns.result c.args.row columns c.node_columns.ensures.some c.requires.row_ok)

pub returns : goal.returns
returns c =
    let lattice : Lattice = finish_lattice c.args.job.now.fields in
    let columns : c.node_columns.result ≡ length (lattice_xs lattice) = c.node_columns.ensures.value ∙ ap (λ (l : Lattice). length (lattice_xs l)) c.finish_lattice-lattice.ensures in
    coordinate c.node-y.result.1 c.node-y.ensures.y_ok
    ∙ ap (λ (node : ℤ × ℤ). node.1) c.node-y.ensures.place
    ∙ ap (λ (l : Lattice). (node_at l (c.args.row * c.node_columns.result)).1) c.finish_lattice-lattice.ensures
    ∙ start_on_row lattice c.node_columns.result c.args.row columns c.node_columns.ensures.some c.requires.row_ok
