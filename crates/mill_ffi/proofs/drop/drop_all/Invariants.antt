use Rattle.mill_ffi.specs.Asked.{IsHeightAt}
use Rattle.mill_ffi.proofs.Written.{AreWrittenTo}
use Rattle.mill_ffi.proofs.drop.drop_all.Given as goal

abbrev pub invariant-loop-i : goal.invariant-loop-i
invariant-loop-i l = AreWrittenTo (IsHeightAt l.tool l.part l.floor) l.places l.heights l.i
