use Rattle.mill_ffi_data.proofs.Parts.{IsTriOf}
use Rattle.mill_ffi.proofs.Written.{AreWrittenTo}
use Rattle.mill_ffi.proofs.text.write_all.Given as goal

abbrev pub invariant-loop-i : goal.invariant-loop-i
invariant-loop-i l = AreWrittenTo IsTriOf l.tris l.triangles l.i
