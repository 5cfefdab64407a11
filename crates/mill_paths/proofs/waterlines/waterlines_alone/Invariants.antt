use Rattle.std.proofs.Common.{map, take}
use Rattle.std.specs.List.{AllZip}
use Rattle.mill_job.specs.Jobs.{tool_of}
use Rattle.mill_level.specs.Waterlines.{IsWaterline, seen}
use Rattle.mill_paths.specs.Lattices.{finish_lattice}
use Rattle.mill_paths.proofs.waterlines.waterlines_alone.Given as goal

abbrev pub invariant-loop-number : goal.invariant-loop-number
invariant-loop-number l =
    AllZip (λ z outlines. IsWaterline (tool_of l.job.fields) l.part z (finish_lattice l.job.fields) outlines) (take l.number l.job.fields.levels) (map (λ chains. map seen chains.items) l.waterlines.items)
