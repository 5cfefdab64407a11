-- Heights of a tool's tip and of a solid's, as the machine stores them.
use Rattle.std.specs.Prelude.{◌≡◌, ℤ, nat_abs, ◌≤◌}
use Rattle.std.proofs.Common.{refl, w32, arith}
use Rattle.std.proofs.lemmas.Int.{ints}
use Rattle.mill_base.proofs.Machine.{kept, stored}
use Rattle.mill_base.specs.Numbers.{Within}
use Rattle.mill_base.specs.Solids.{IsLift}
use Rattle.mill_base.specs.declared.limits.TheConstants.{MAX_COORDINATE}
use Rattle.mill_drop.specs.Drops.{IsToolHeight}
use Rattle.mill_drop.specs.inner.Spindles.{IsTipHeight}

pub tip_small : (z : ℤ) → IsTipHeight z → nat_abs z ≤ 528587
tip_small z h = let a = h.least in let b = h.most in omega (arith, ints)

pub tool_small : (z : ℤ) → IsToolHeight z → nat_abs z ≤ 528587
tool_small z h = let a = h.least in let b = h.most in omega (arith, ints)

pub tip_stored : (z : ℤ) → IsTipHeight z → stored w32 z ≡ z
tip_stored z h = kept w32 z 528587 (tip_small z h) refl

pub tool_stored : (z : ℤ) → IsToolHeight z → stored w32 z ≡ z
tool_stored z h = kept w32 z 528587 (tool_small z h) refl

-- so is a lift
pub lift_stored : (z : ℤ) → IsLift z → stored w32 z ≡ z
lift_stored z h = kept w32 z 524287 (let a = h.least in let b = h.within in omega (arith, ints)) refl

-- a coordinate is such a height
pub tip_within : (z : ℤ) → Within MAX_COORDINATE z → IsTipHeight z
tip_within z h = let w = h.within in record { least = omega (arith, ints); most = omega (arith, ints) }
