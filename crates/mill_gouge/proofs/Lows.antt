-- How far the tips of a tool's solids are under its own.
use Rattle.std.specs.Prelude.{ℤ, pos, ◌+ℤ◌, ◌-ℤ◌, ◌≤ℤ◌, Option, Some, None, IfSome}
use Rattle.std.proofs.Common.{arith}
use Rattle.std.proofs.lemmas.Int.{ints}
use Rattle.mill_base.specs.Numbers.{greater}
use Rattle.mill_base.specs.Solids.{IsSolid, Solid}
use Rattle.mill_base.specs.declared.limits.TheConstants.{LOWEST_LIFT}
use Rattle.mill_base.specs.declared.tool.Tool.{Tool}
use Rattle.mill_base.proofs.Extremes.{greater_left, greater_right, greater_least}
use Rattle.mill_gouge.specs.Lifts.{held_under_tip_of, low_of, under_tip_of}

through : (a b c : ℤ) → a ≤ℤ b → b ≤ℤ c → a ≤ℤ c
through a b c p q = omega (p, q, arith, ints)

-- a solid's tip isn't farther under the tool's than that of the lowest
cutter_low : (tool : Tool) → (pos 0 -ℤ tool.cutter.lift) ≤ℤ low_of tool
cutter_low tool = through _ _ _ (greater_left (pos 0 -ℤ tool.cutter.lift) (pos 0)) (greater_left (under_tip_of tool.cutter) (held_under_tip_of tool.holder))

holder_low : (tool : Tool) → IfSome tool.holder (λ holder. (pos 0 -ℤ holder.lift) ≤ℤ low_of tool)
holder_low tool = by tool.holder
  where
    by : (o : Option Solid) → IfSome o (λ holder. (pos 0 -ℤ holder.lift) ≤ℤ greater (under_tip_of tool.cutter) (held_under_tip_of o))
    by None = tt
    by (Some holder) = through _ _ _ (greater_left (pos 0 -ℤ holder.lift) (pos 0)) (greater_right (under_tip_of tool.cutter) (under_tip_of holder))

-- so where the tool's tip is so much over a height, a solid's tip isn't under it
over_by : (t z l s : ℤ) → t ≤ℤ (z -ℤ l) → (pos 0 -ℤ s) ≤ℤ l → t ≤ℤ (z +ℤ s)
over_by t z l s p q = omega (p, q, arith, ints)

pub cutter_over : (tool : Tool) (top z : ℤ) → top ≤ℤ (z -ℤ low_of tool) → top ≤ℤ (z +ℤ tool.cutter.lift)
cutter_over tool top z over = over_by top z (low_of tool) tool.cutter.lift over (cutter_low tool)

pub holder_over : (tool : Tool) (top z : ℤ) → top ≤ℤ (z -ℤ low_of tool) → IfSome tool.holder (λ holder. top ≤ℤ (z +ℤ holder.lift))
holder_over tool top z over = by tool.holder (holder_low tool)
  where
    by : (o : Option Solid) → IfSome o (λ holder. (pos 0 -ℤ holder.lift) ≤ℤ low_of tool) → IfSome o (λ holder. top ≤ℤ (z +ℤ holder.lift))
    by None low = tt
    by (Some holder) low = over_by top z (low_of tool) holder.lift over low

-- of solids in range the lowest isn't far under it
under_most : (solid : Solid) → IsSolid solid → under_tip_of solid ≤ℤ (pos 0 -ℤ LOWEST_LIFT)
under_most solid ok = greater_least (pos 0 -ℤ solid.lift) (pos 0) (pos 0 -ℤ LOWEST_LIFT) (up solid.lift ok.lift_ok.least) (omega (arith, ints))
  where
    up : (l : ℤ) → LOWEST_LIFT ≤ℤ l → (pos 0 -ℤ l) ≤ℤ (pos 0 -ℤ LOWEST_LIFT)
    up l least = omega (least, arith, ints)

pub low_most : (tool : Tool) → IsSolid tool.cutter → IfSome tool.holder IsSolid → low_of tool ≤ℤ (pos 0 -ℤ LOWEST_LIFT)
low_most tool cutter_ok holder_ok = greater_least (under_tip_of tool.cutter) (held_under_tip_of tool.holder) (pos 0 -ℤ LOWEST_LIFT) (under_most tool.cutter cutter_ok) (by tool.holder holder_ok)
  where
    by : (o : Option Solid) → IfSome o IsSolid → held_under_tip_of o ≤ℤ (pos 0 -ℤ LOWEST_LIFT)
    by None ok = omega (arith, ints)
    by (Some holder) ok = under_most holder ok
