use Rattle.std.proofs.Common.{◌≡◌, Bool, true, false, ◌&&◌, refl, w64, to_z, of_z, arith}
use Rattle.std.specs.Prelude.{ℤ, pos, ◌*ℤ◌, ◌-ℤ◌, ◌≤ℤ◌, int_le}
use Rattle.std.proofs.lemmas.Int.{ints}
use Rattle.mill_base.specs.Numbers.{Within}
use Rattle.mill_arc.proofs.Decided.{true_le}
use Rattle.mill_arc.proofs.arc.is_near.Goals as goal

twice : (l : ℤ) → Within 2147483648 l → to_z w64 (of_z w64 (pos 2 *ℤ to_z w64 (of_z w64 l))) ≡ pos 2 *ℤ l
twice l h = omega (arith, ints)

step : (a b : Bool) → a ≡ true → b ≡ (a && b)
step true b e = refl
step false b e = cc

pub returns-then-greatest-least : goal.returns-then-greatest-least
returns-then-greatest-least c =
    let near : (c.args.greatest -ℤ c.args.least) ≤ℤ c.args.deviation = let h = c.if-greatest-least.true in omega (arith, ints) in
    let e : to_z w64 (of_z w64 c.args.greatest) ≡ c.args.greatest = omega (arith, ints) in
    rw (e, twice c.args.least c.requires.least_ok) (step (int_le (c.args.greatest -ℤ c.args.least) c.args.deviation) (int_le c.args.greatest (pos 2 *ℤ c.args.least)) (true_le _ _ near))
