use Rattle.std.proofs.Common.{◌≡◌, map, take}
use Rattle.mill_level.specs.Waterlines.{outline, seen}
use Rattle.mill_level.specs.inner.Trails.{chain_of}
use Rattle.mill_level.proofs.outline.chains_at.Given as goal

abbrev pub invariant-loop-trail : goal.invariant-loop-trail
invariant-loop-trail l = map seen l.chains.items ≡ map (λ trail. outline l.fn.z (chain_of l.map trail)) (take l.trail-index l.trails)
