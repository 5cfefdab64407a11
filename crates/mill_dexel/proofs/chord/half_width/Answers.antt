use Rattle.std.proofs.Common.{◌<◌, ◌*◌, ◌/◌, arith}
use Rattle.std.proofs.Math.Nat.{div-mul-le_self}
use Rattle.mill_dexel.proofs.Chords.{taken_less, rest_wide}
use Rattle.mill_dexel.proofs.chord.half_width.Goals as goal

pub returns : goal.returns
returns c =
    let taken = c.args.distance * c.args.distance / (2 * c.args.radius) in
    let part = div-mul-le_self (c.args.distance * c.args.distance) (2 * c.args.radius) in
    let less : taken < c.args.radius = taken_less taken c.args.radius c.args.distance c.requires.near part in
    record {
      least = omega (arith, less);
      most = omega (arith, less);
      wide = rest_wide taken c.args.radius c.args.distance (omega (arith, less)) part;
    }
