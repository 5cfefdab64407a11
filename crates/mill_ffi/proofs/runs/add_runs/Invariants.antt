use Rattle.std.specs.Prelude.{◌≡◌, ◌++◌, map, take}
use Rattle.mill_ffi.specs.Fibers.{run_of}
use Rattle.mill_ffi.proofs.runs.add_runs.Given as goal

abbrev pub invariant-loop-run : goal.invariant-loop-run
invariant-loop-run l = map run_of l.runs.items ≡ map run_of l.fn.runs.items ++ take l.run-index l.found
