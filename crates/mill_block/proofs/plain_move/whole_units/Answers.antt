use Rattle.std.proofs.Common.{◌≤◌, ◌<◌, ◌^◌, arith, rules}
use Rattle.mill_base.specs.Units.{greatest_of, places_of}
use Rattle.mill_base.specs.declared.unit.Unit.{Unit}
use Rattle.mill_base.specs.declared.unit.Unit.TheVariants.{Hundredth, Thousandth}
use Rattle.mill_block.proofs.PlainLemmas.{units-at}
use Rattle.mill_block.proofs.plain_move.whole_units.Goals as goal

few : (unit : Unit) → greatest_of unit < 10 ^ 18
few Hundredth = omega arith
few Thousandth = omega arith

short : (unit : Unit) → places_of unit ≤ 18
short Hundredth = omega arith
short Thousandth = omega arith

pub returns : goal.returns
returns c =
    let small : c.args.num.mant ≤ greatest_of c.args.unit = search rules in
    record { fits = record { mant = omega (arith, few c.args.unit, small); scale = rw c.requires (short c.args.unit) }; value = rw (units-at c.args.unit c.args._line c.args.num c.requires small) (search rules); within = search rules }
