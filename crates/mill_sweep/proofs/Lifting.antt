-- A move in range is one of a tip, and a solid's tip makes such a move.
use Rattle.std.specs.Prelude.{ℤ, pos, nat_abs, ◌≤◌, ◌+ℤ◌, ◌-ℤ◌, ◌≤ℤ◌}
use Rattle.std.proofs.Common.{arith}
use Rattle.std.proofs.lemmas.Int.{ints}
use Rattle.mill_base.specs.Ranges.{IsInRange, MoveInRange}
use Rattle.mill_base.specs.Solids.{IsLift, Solid, higher, lifted, raised}
use Rattle.mill_base.specs.declared.limits.TheConstants.{LOWEST_LIFT, MAX_COORDINATE}
use Rattle.mill_base.specs.declared.motion.Move.{Move}
use Rattle.mill_base.specs.declared.points.Pt3.{Pt3}
use Rattle.mill_base.proofs.SolidLemmas.{higher_once}
use Rattle.mill_sweep.specs.Lifted.{IsTipHeight, IsTipPlace, IsLiftedMove}
use Rattle.mill_sweep.specs.Widths.{longest, highest_tip}

least_in : (z : ℤ) → nat_abs z ≤ MAX_COORDINATE → (LOWEST_LIFT -ℤ pos MAX_COORDINATE) ≤ℤ z
least_in z h = omega (arith, ints)

most_in : (z : ℤ) → nat_abs z ≤ MAX_COORDINATE → nat_abs z ≤ highest_tip
most_in z h = omega (arith, ints)

pub height_in : (z : ℤ) → nat_abs z ≤ MAX_COORDINATE → IsTipHeight z
height_in z h = record { least = least_in z h; within = most_in z h }

place_in : (p : Pt3) → IsInRange p → IsTipPlace p
place_in p h = record { x_ok = h.x_ok; y_ok = h.y_ok; z_ok = height_in p.z h.z_ok.within }

rise_in : (a b : ℤ) → nat_abs a ≤ MAX_COORDINATE → nat_abs b ≤ MAX_COORDINATE → nat_abs (b -ℤ a) ≤ longest
rise_in a b p q = omega (arith, ints)

-- a move in range is a tip's
pub in_lift : (m : Move) → MoveInRange m → IsLiftedMove m
in_lift m h = record {
  from_ok = place_in m.from h.from_ok;
  to_ok = place_in m.to h.to_ok;
  rise_ok = rise_in m.from.z m.to.z h.from_ok.z_ok.within h.to_ok.z_ok.within;
}

-- and so is a solid's, higher by its lift
least_up : (z s : ℤ) → nat_abs z ≤ MAX_COORDINATE → LOWEST_LIFT ≤ℤ s → (LOWEST_LIFT -ℤ pos MAX_COORDINATE) ≤ℤ (z +ℤ s)
least_up z s h least = omega (arith, ints)

most_up : (z s : ℤ) → nat_abs z ≤ MAX_COORDINATE → LOWEST_LIFT ≤ℤ s → s ≤ℤ pos MAX_COORDINATE → nat_abs (z +ℤ s) ≤ highest_tip
most_up z s h least most = omega (arith, ints)

pub height_up : (z s : ℤ) → IsLift s → nat_abs z ≤ MAX_COORDINATE → IsTipHeight (higher (pos 1) z s)
height_up z s ok h = rw (higher_once z s) (record { least = least_up z s h ok.least; within = most_up z s h ok.least ok.within })

pub place_up : (p : Pt3) (s : ℤ) → IsLift s → IsInRange p → IsTipPlace (raised s (pos 1) p)
place_up p s ok h = record { x_ok = h.x_ok; y_ok = h.y_ok; z_ok = height_up p.z s ok h.z_ok.within }

rise_up : (a b s : ℤ) → nat_abs a ≤ MAX_COORDINATE → nat_abs b ≤ MAX_COORDINATE → nat_abs (higher (pos 1) b s -ℤ higher (pos 1) a s) ≤ longest
rise_up a b s p q = rw (higher_once b s, higher_once a s) (apart a b s p q)
  where
    apart : (a b s : ℤ) → nat_abs a ≤ MAX_COORDINATE → nat_abs b ≤ MAX_COORDINATE → nat_abs ((b +ℤ s) -ℤ (a +ℤ s)) ≤ longest
    apart a b s p q = omega (arith, ints)

pub lifted_in_lift : (solid : Solid) (m : Move) → IsLift solid.lift → MoveInRange m → IsLiftedMove (lifted solid m)
lifted_in_lift solid m ok h = record {
  from_ok = place_up m.from solid.lift ok h.from_ok;
  to_ok = place_up m.to solid.lift ok h.to_ok;
  rise_ok = rise_up m.from.z m.to.z solid.lift h.from_ok.z_ok.within h.to_ok.z_ok.within;
}
