use Rattle.std.proofs.Common.{rules, subst, w32}
use Rattle.std.specs.Prelude.{FitsSigned}
use Rattle.std.proofs.lemmas.Int.{to_z-of_z}
use Rattle.mill_base.specs.declared.lattice.Lattice.{Lattice}
use Rattle.mill_level.specs.Waterlines.{HasManyNodes}
use Rattle.mill_run.proofs.level.chains_at.Goals as goal

pub returns-clause-chains : goal.returns-clause-chains
returns-clause-chains c =
    let height_fits : FitsSigned w32 c.args.height = search rules in
    simp (to_z-of_z, c.in_ok-part.ensures, c.in_ok-all.ensures, c.finish_lattice-lattice.ensures, c.tool-tool.ensures) at c.waterline.ensures.chains

pub returns-clause-nodes : goal.returns-clause-nodes
returns-clause-nodes c = λ nodes is. subst (λ (lattice : Lattice). HasManyNodes lattice nodes) c.finish_lattice-lattice.ensures ((c.waterline.ensures.nodes nodes).0 is)
