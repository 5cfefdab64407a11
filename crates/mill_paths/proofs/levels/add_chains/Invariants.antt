use Rattle.std.proofs.Common.{◌≡◌, ◌++◌, take}
use Rattle.std.specs.List.{flat_map}
use Rattle.mill_level.specs.Waterlines.{seen}
use Rattle.mill_paths.specs.Visits.{outline_visits}
use Rattle.mill_paths.proofs.levels.add_chains.Given as goal

abbrev pub invariant-loop-chain : goal.invariant-loop-chain
invariant-loop-chain l = l.list.visits.items ≡ l.fn.list.visits.items ++ flat_map (λ chain. outline_visits l.job.fields.raster (seen chain)) (take l.chain-index l.chains)
