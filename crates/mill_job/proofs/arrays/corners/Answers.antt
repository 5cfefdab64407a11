use Rattle.std.proofs.Common.{arith}
use Rattle.std.proofs.lemmas.Int.{ints}
use Rattle.mill_base.proofs.Ranges.{greatest_of-le}
use Rattle.mill_job.proofs.arrays.corners.Goals as goal

pub returns-clause-in_range : goal.returns-clause-in_range
returns-clause-in_range c = record {
  x0_ok = record { within = omega (arith, ints, greatest_of-le c.args.unit, c.in_ok-as_coordinate.ensures.in_range) };
  y0_ok = record { within = omega (arith, ints, greatest_of-le c.args.unit, c.in_ok-as_coordinate-2.ensures.in_range) };
  x1_ok = record { within = omega (arith, ints, greatest_of-le c.args.unit, c.in_ok-as_coordinate-3.ensures.in_range) };
  y1_ok = record { within = omega (arith, ints, greatest_of-le c.args.unit, c.in_ok-as_coordinate-4.ensures.in_range) };
  x_order = c.is_ordered.ensures.x_order c.if-not-is_ordered.false;
  y_order = c.is_ordered.ensures.y_order c.if-not-is_ordered.false;
}
