use Rattle.std.proofs.Common.{inl, inr, arith}
use Rattle.std.proofs.lemmas.Int.{ints}
use Rattle.mill_dexel.proofs.reach.is_beyond.Goals as goal

pub returns-then-y-low_end : goal.returns-then-y-low_end
returns-then-y-low_end c = record { yes = λ under. inl (record { first = omega (arith, ints); second = omega (arith, ints) }) }

pub returns : goal.returns
returns c = record { yes = λ over. inr (record { first = omega (arith, ints); second = omega (arith, ints) }) }
