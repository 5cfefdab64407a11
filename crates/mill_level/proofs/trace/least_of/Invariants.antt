use Rattle.std.proofs.Common.{◌≡◌, ◌<◌, get_or}
use Rattle.mill_geom.specs.declared.touch.Axis.TheVariants.{X}
use Rattle.mill_level.specs.Grids.{edge}
use Rattle.mill_level.specs.inner.Maps.{crossing_at}
use Rattle.mill_level.specs.inner.Trails.{rank_of}
use Rattle.mill_level.proofs.Least.{IsLeastBelow}
use Rattle.mill_level.proofs.trace.least_of.Given as goal

-- the least of those that were seen, and its rank
abbrev pub invariant-loop-at : goal.invariant-loop-at
invariant-loop-at l = record {
  below : l.least < l.at;
  least : IsLeastBelow l.map l.edges l.at l.least;
  rank : l.least_rank ≡ rank_of (crossing_at l.map (get_or l.edges l.least (edge 0 0 X)));
}
