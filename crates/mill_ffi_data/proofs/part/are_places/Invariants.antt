use Rattle.std.specs.Prelude.{All, take}
use Rattle.mill_ffi_data.specs.Raw.{IsPlace}
use Rattle.mill_ffi_data.proofs.part.are_places.Given as goal

abbrev pub invariant-loop-raw : goal.invariant-loop-raw
invariant-loop-raw l = All IsPlace (take l.raw-index l.raws)
