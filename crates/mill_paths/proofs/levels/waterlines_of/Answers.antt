use Rattle.std.proofs.Common.{◌≤◌, subst}
use Rattle.mill_base.specs.Lattices.{node_count}
use Rattle.mill_base.specs.declared.lattice.Lattice.{Lattice}
use Rattle.mill_base.specs.declared.limits.TheConstants.{MAX_NODES}
use Rattle.mill_paths.proofs.levels.waterlines_of.Goals as goal

pub waterlines-requires-clause-few : goal.waterlines-requires-clause-few
waterlines-requires-clause-few g c =
    subst (λ (l : Lattice). node_count l ≤ MAX_NODES) c.finish_lattice-lattice.ensures c.in_ok-check_nodes.ensures.few
