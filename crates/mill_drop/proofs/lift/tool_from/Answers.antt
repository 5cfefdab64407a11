use Rattle.std.proofs.Common.{◌≡◌, ◌⊎◌, ◌≤◌, FitsSigned, rules, refl, inl, inr, cond, Bool, true, false, w32, arith}
use Rattle.std.specs.Int.{int_max}
use Rattle.std.specs.Prelude.{nat_abs}
use Rattle.std.proofs.lemmas.Int.{ints, clamps, to_z-of_z}
use lib.IntN.{ℤ, ◌-ℤ◌}
use Rattle.mill_base.proofs.Machine.{kept, stored}
use Rattle.mill_base.specs.Solids.{IsLift}
use Rattle.mill_drop.specs.Drops.{IsToolHeight}
use Rattle.mill_drop.specs.inner.Spindles.{IsTipHeight}
use Rattle.mill_drop.proofs.Stored.{lift_stored, tip_stored, tool_stored}
use Rattle.mill_drop.proofs.lift.tool_from.Goals as goal

-- the greater of two numbers is one of them
one_of : (less : Bool) (m a b : ℤ) → m ≡ cond less a b → (m ≡ b) ⊎ (m ≡ a)
one_of true m a b e = inr e
one_of false m a b e = inl e

module _ (tip lift z m : ℤ) (tip_ok : IsTipHeight tip) (lift_ok : IsLift lift) (z_ok : IsToolHeight z)
    (value : m ≡ int_max (stored w32 (stored w32 tip -ℤ stored w32 lift)) (stored w32 z)) where
  difference_stored : stored w32 (tip -ℤ lift) ≡ tip -ℤ lift
  difference_stored = kept w32 (tip -ℤ lift) 1052874 small refl
    where
      small : nat_abs (tip -ℤ lift) ≤ 1052874
      small = let a = tip_ok.least in let b = tip_ok.most in let p = lift_ok.least in let q = lift_ok.within in omega (arith, ints)

  is_greater : m ≡ int_max (tip -ℤ lift) z
  is_greater = rw (tip_stored tip tip_ok, lift_stored lift lift_ok, tool_stored z z_ok, difference_stored) at value

  is_one : (m ≡ z) ⊎ (m ≡ tip -ℤ lift)
  is_one = one_of _ m (tip -ℤ lift) z is_greater

  is_height : IsToolHeight m
  is_height =
      let a = tip_ok.most in let b = lift_ok.least in let p = z_ok.least in let q = z_ok.most in
      rw is_greater (record { least = omega (arith, ints, clamps); most = omega (arith, ints, clamps) })

pub returns-clause-least : goal.returns-clause-least
returns-clause-least c =
    let fits : FitsSigned w32 c.max.result = search rules in
    rw (to_z-of_z w32 c.max.result fits, ← c.lift.ensures.value) (is_one c.args.tip c.lift.result c.args.z c.max.result c.requires.tip_ok c.lift.ensures.in_range c.requires.z_ok c.max.ensures.value)

pub returns-clause-bound : goal.returns-clause-bound
returns-clause-bound c =
    let fits : FitsSigned w32 c.max.result = search rules in
    rw (to_z-of_z w32 c.max.result fits) (is_height c.args.tip c.lift.result c.args.z c.max.result c.requires.tip_ok c.lift.ensures.in_range c.requires.z_ok c.max.ensures.value)
