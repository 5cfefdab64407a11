use Rattle.std.specs.Prelude.{◌≡◌, map, take}
use Rattle.mill_ffi_data.specs.Raw.{tri_of}
use Rattle.mill_ffi_data.proofs.part.part_from.Given as goal

abbrev pub invariant-loop-raw : goal.invariant-loop-raw
invariant-loop-raw l = l.tris.items ≡ map tri_of (take l.raw-index l.raws)
