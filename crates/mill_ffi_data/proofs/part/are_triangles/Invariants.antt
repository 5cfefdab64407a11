use Rattle.std.specs.Prelude.{All, take}
use Rattle.mill_ffi_data.specs.Raw.{IsTriangle}
use Rattle.mill_ffi_data.proofs.part.are_triangles.Given as goal

abbrev pub invariant-loop-raw : goal.invariant-loop-raw
invariant-loop-raw l = All IsTriangle (take l.raw-index l.raws)
