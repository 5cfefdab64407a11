use Rattle.std.proofs.Common.{w32, to_z, of_z, List, map, ap, ◌∙◌}
use Rattle.mill_level.specs.declared.trace.Trail.{Trail}
use Rattle.mill_level.specs.Waterlines.{outline}
use Rattle.mill_level.specs.inner.Trails.{chain_of}
use Rattle.mill_level.proofs.Placed.{waterline_of}
use Rattle.mill_level.proofs.waterlines.waterline.Goals as goal

pub returns-clause-chains : goal.returns-clause-chains
returns-clause-chains c =
    waterline_of c.args.tool.now c.args.part.now c.args.z c.args.lattice.now c.in_ok-map.map c.in_ok-trails.trails.items _ c.requires.z_ok
    c.in_ok-map.ensures c.in_ok-trails.ensures.each c.in_ok-trails.ensures.chains
    (c.in_ok-chains_at.ensures ∙ ap (λ (ts : List Trail). map (λ trail. outline (to_z w32 (of_z w32 c.args.z)) (chain_of c.in_ok-map.map trail)) ts) c.deref.ensures.value)
