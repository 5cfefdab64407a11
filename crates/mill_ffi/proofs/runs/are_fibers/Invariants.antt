use Rattle.std.specs.Prelude.{All, take}
use Rattle.mill_ffi.specs.Fibers.{IsSoundFiber}
use Rattle.mill_ffi.proofs.runs.are_fibers.Given as goal

abbrev pub invariant-loop-raw : goal.invariant-loop-raw
invariant-loop-raw l = All IsSoundFiber (take l.raw-index l.raws)
