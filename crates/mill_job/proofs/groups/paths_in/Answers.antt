use Rattle.std.proofs.Common.{arith}
use Rattle.std.proofs.lemmas.Int.{ints}
use Rattle.mill_job.proofs.Stored.{most}
use Rattle.mill_job.proofs.groups.paths_in.Goals as goal

pub returns-clause-in_range : goal.returns-clause-in_range
returns-clause-in_range c = record {
  lift_ok = record { low = omega (arith, ints, c.in_ok-lift.ensures.in_range); high = omega (arith, ints, c.in_ok-lift.ensures.in_range) };
  raster_ok = record { low = omega (arith, ints, c.in_ok-raster.ensures.in_range); high = omega (arith, ints, c.in_ok-raster.ensures.in_range) };
  rough_raster_ok = record { low = omega (arith, ints, c.in_ok-number_or.ensures.in_range); high = omega (arith, ints, c.in_ok-number_or.ensures.in_range) };
  layer_ok = record { low = omega (arith, ints, most c.args.unit, c.in_ok-depth.ensures.in_range); high = omega (arith, ints, most c.args.unit, c.in_ok-depth.ensures.in_range) };
  rough_stock_ok = record { low = omega (arith, ints, c.in_ok-number_or-2.ensures.in_range); high = omega (arith, ints, c.in_ok-number_or-2.ensures.in_range) };
  levels_ok = c.in_ok-levels.ensures.in_order;
}
