use Rattle.std.proofs.Common.{refl}
use Rattle.mill_ffi_data.proofs.Parts.{IsTriOf, tris_of-zip}
use Rattle.mill_ffi.proofs.Written.{written_end, written_more}
use Rattle.mill_ffi.proofs.text.write_all.Goals as goal

pub loop-i-preserved : goal.loop-i-preserved
loop-i-preserved c = written_more IsTriOf c.args.tris.now c.loop-i.triangles c.loop-i.i _ c.raw_from.result _ refl c.loop-i-test.true c.loop-i.invariant c.raw_from.ensures

pub returns : goal.returns
returns c = tris_of-zip c.args.tris.now c.loop-i.triangles (written_end IsTriOf c.args.tris.now c.loop-i.triangles c.loop-i.i c.loop-i-test.false c.loop-i.invariant)
