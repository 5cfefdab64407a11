use Rattle.std.proofs.Common.{arith}
use Rattle.std.proofs.lemmas.Int.{ints}
use Rattle.mill_dexel.proofs.reach.reach_along.Goals as goal

pub returns : goal.returns
returns c = record {
  within = c.places_up_to-2.ensures.bound;
  under = λ i before. let near = c.places_up_to.ensures.inside i before in record { first = omega (arith, ints); second = omega (arith, ints) };
  over = λ i behind within. let far = c.places_up_to-2.ensures.outside i behind within in record { first = omega (arith, ints); second = omega (arith, ints) };
}
