use Rattle.std.proofs.Common.{arith}
use Rattle.std.proofs.lemmas.Int.{ints}
use Rattle.mill_block.proofs.ArcNumbers.{arc_fits, centre_near, tolerance_least, tolerance_most}
use Rattle.mill_block.proofs.machine_arc.sweep_between.Goals as goal

pub returns-clause-fits : goal.returns-clause-fits
returns-clause-fits c =
    let least = tolerance_least c.args.control c.requires.control in
    let most = tolerance_most c.args.control c.requires.control in
    record {
      arc = rw (c.minus.ensures, c.minus-2.ensures, c.plus-centre.ensures.value)
          (arc_fits c.in_plane-from.result c.in_plane-to.result c.args.offset c.args.control.arc_tolerance _ c.args.unit c.in_plane-from.ensures.bound c.in_plane-to.ensures.bound c.requires.offset least most);
      centre = centre_near c.plus-centre.result c.plus-centre.ensures.bound;
      from = record { within = omega (arith, ints, c.along.ensures.bound.within) };
      to = record { within = omega (arith, ints, c.along-2.ensures.bound.within) };
    }
