-- A move straight up or down is one leaf of reach 0, whose outer cutter is the cutter itself at the lower end.
use Rattle.std.specs.Prelude.{◌≡◌, ℕ, zero, suc, ◌≤◌, nat_abs, ℤ, pos, ◌+ℤ◌, ◌-ℤ◌, ◌*ℤ◌, ◌<ℤ◌, ◌≤ℤ◌}
use Rattle.std.proofs.Common.{inl, refl, arith}
use Rattle.std.proofs.Math.Nat.{zero-div}
use Rattle.std.proofs.lemmas.Int.{ints}
use Rattle.mill_base.proofs.Integers.{zero-mul-ℤ}
use Rattle.mill_base.specs.Numbers.{ceil_div}
use Rattle.mill_base.specs.Points.{minus, times, point_at}
use Rattle.mill_base.specs.Contact.{Holds, Touches}
use Rattle.mill_base.specs.Sizes.{outer, shift}
use Rattle.mill_base.specs.declared.points.Pt3.{Pt3}
use Rattle.mill_base.specs.declared.points.Tri.{Tri}
use Rattle.mill_base.specs.declared.motion.Move.{Move}
use Rattle.mill_base.specs.declared.cutter.Cutter.{Cutter}
use Rattle.mill_base.specs.declared.cutter.Cutter.TheVariants.{Flat, Ball, Cone}
use Rattle.mill_base.specs.declared.limits.TheConstants.{MAX_REACH}
use Rattle.mill_sweep.specs.Leaves.{depth_of, middle_of, farther_of, reach_of, zlow_of, span_of}
use Rattle.mill_sweep.specs.Halving.{Blocks, IsFree, LeafPasses}
use Rattle.mill_sweep.specs.Vertical.{StaysOver, VerticalPasses, VerticalPassesPoint}
use Rattle.mill_sweep.proofs.Far.{lower_least}
use Rattle.mill_sweep.proofs.Lower.{inside_rises}
use Rattle.mill_sweep.proofs.Rest.{middle_at_rest, farther_at_rest}
use Rattle.mill_sweep.proofs.ByKind.{straight_passes}
use Rattle.mill_sweep.proofs.Unscaled.{touched_point}
use Rattle.mill_sweep.proofs.UnscaledCerts.{higher_over_lower}

-- along an axis on which both ends of the move are at x, so is its middle
rests : (f t x : ℤ) → f ≡ x → t ≡ x → middle_of f t 0 0 ≡ x
rests f t x e g = rw (e, g) (middle_at_rest x 0 0 (omega arith))

stays : (f t x : ℤ) → f ≡ x → t ≡ x → farther_of f t 0 0 ≡ 0
stays f t x e g = rw (e, g) (farther_at_rest x 0 0 (omega arith))

-- the cutter widened by 0 is the cutter, lowered by 0
as_wide : (cutter : Cutter) → outer cutter (pos 0) ≡ cutter
as_wide (Flat r) = rw (same r) refl
  where
    same : (r : ℤ) → r +ℤ pos 0 ≡ r
    same r = omega (arith, ints)
as_wide (Ball r) = rw (same r) refl
  where
    same : (r : ℤ) → r +ℤ pos 0 ≡ r
    same r = omega (arith, ints)
as_wide (Cone r a b) = rw (same r) refl
  where
    same : (r : ℤ) → r +ℤ pos 0 ≡ r
    same r = omega (arith, ints)

not_lowered : (cutter : Cutter) → shift cutter (pos 0) ≡ pos 0
not_lowered (Flat r) = refl
not_lowered (Ball r) = refl
not_lowered (Cone r a b) = rw (zero-mul-ℤ a) (none (nat_abs b))
  where
    none : (n : ℕ) → ceil_div (pos 0) n ≡ pos 0
    none n = rw (zero-div n) refl

-- what the outer cutter of reach 0 holds at a height, the cutter holds at that height and from each lower one
holds_lower : (cutter : Cutter) (q : ℕ) (x y z : ℤ) (p : Pt3) (n : ℤ) (s : Pt3) → q ≡ 0 → x ≡ p.x → y ≡ p.y → p.z ≤ℤ z → (pos 0) <ℤ n
    → Holds (outer cutter (pos q)) (pos 1) (point_at x y (z -ℤ shift cutter (pos q))) n s → Holds cutter (pos 1) p n s
holds_lower cutter q x y z p n s none ex ey low some held =
    inside_rises cutter (pos 1 *ℤ n) (minus (times (pos 1) s) (times n (point_at p.x p.y (z -ℤ pos 0)))) (pos 1 *ℤ s.z -ℤ n *ℤ p.z)
    (higher_over_lower n s.z z p.z some low)
    (rw (as_wide cutter, not_lowered cutter) at rw (none, ex, ey) at held)

module _ (cutter : Cutter) (move : Move) (tri : Tri) (p : Pt3) (over : StaysOver p move) where
  reach_none : reach_of move 0 0 ≡ 0
  reach_none = rw (stays move.from.x move.to.x p.x over.from.x_same over.to.x_same, stays move.from.y move.to.y p.y over.from.y_same over.to.y_same) refl

  touches_lower : Blocks cutter (span_of move 0 0) tri → Touches cutter (pos 1) p tri
  touches_lower blocks = let touches = blocks.touches in record {
    n = touches.n;
    p = touches.p;
    point = touches.point;
    inside = holds_lower cutter (reach_of move 0 0) (middle_of move.from.x move.to.x 0 0) (middle_of move.from.y move.to.y 0 0) (zlow_of move 0 0) p touches.n touches.p
        reach_none
        (rests move.from.x move.to.x p.x over.from.x_same over.to.x_same)
        (rests move.from.y move.to.y p.y over.from.y_same over.to.y_same)
        (lower_least move.from.z move.to.z p.z 0 0 (omega arith) over.from.z_least over.to.z_least)
        touches.point.some touches.inside;
  }

  free : (Touches cutter (pos 1) p tri → ⊥) → IsFree cutter move tri 0 0
  free clear = inl (few (reach_of move 0 0) reach_none, λ blocks. clear (touches_lower blocks))
    where
      few : (q : ℕ) → q ≡ 0 → q ≤ MAX_REACH
      few q e = omega arith

  passes_at_once : (more : ℕ) → IsFree cutter move tri 0 0 → LeafPasses cutter move tri more 0 0
  passes_at_once zero free = free
  passes_at_once (suc more) free = inl free

-- the leaf (0, 0) of such a move passes by itself
pub vertical_passes : VerticalPasses
vertical_passes cutter move tri p straight over clear = straight_passes cutter move tri straight (passes_at_once cutter move tri p over (depth_of move) (free cutter move tri p over clear))

pub vertical_passes_point : VerticalPassesPoint
vertical_passes_point cutter move q p straight over free = vertical_passes cutter move _ p straight over (λ touches. free (touched_point cutter p q touches))
