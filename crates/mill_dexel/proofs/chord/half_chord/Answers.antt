use Rattle.std.proofs.Common.{w32, to_z, arith}
use Rattle.std.proofs.lemmas.Int.{ints}
use Rattle.mill_dexel.proofs.Chords.{half_is}
use Rattle.mill_dexel.proofs.chord.half_chord.Goals as goal

pub returns : goal.returns
returns c =
    half_is c.args.radius c.args.y c.args.middle (to_z w32 c.half_width.result) c.unsigned_abs-radius.result c.abs_diff-distance.result c.half_width.result
    (omega (arith, ints)) (omega (arith, ints)) (omega (arith, ints, c.half_width.ensures.most)) c.half_width.ensures.least c.half_width.ensures.wide
