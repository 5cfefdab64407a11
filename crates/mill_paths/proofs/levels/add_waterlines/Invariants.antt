use Rattle.std.proofs.Common.{◌≡◌, ◌++◌, map, take}
use Rattle.std.specs.List.{flat_map}
use Rattle.mill_level.specs.Waterlines.{seen}
use Rattle.mill_paths.specs.Visits.{outline_visits}
use Rattle.mill_paths.proofs.levels.add_waterlines.Given as goal

abbrev pub invariant-loop-chains : goal.invariant-loop-chains
invariant-loop-chains l =
    l.list.visits.items ≡ l.fn.list.visits.items ++ flat_map (λ chains. flat_map (outline_visits l.job.fields.raster) (map seen chains.items)) (take l.chains-index l.waterlines)
