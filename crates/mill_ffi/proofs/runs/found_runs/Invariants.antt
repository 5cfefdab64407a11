use Rattle.std.specs.Prelude.{take}
use Rattle.mill_ffi.specs.Fibers.{AreRunsAt}
use Rattle.mill_ffi.proofs.runs.found_runs.Given as goal

abbrev pub invariant-loop-raw : goal.invariant-loop-raw
invariant-loop-raw l = AreRunsAt l.tool l.fn.part (take l.raw-index l.fibers) l.counts.items l.runs.items

abbrev pub ghosts-fiber_runs : goal.ghosts-fiber_runs
ghosts-fiber_runs a = record { name = a.blank.name; parts = a.blank.parts }
