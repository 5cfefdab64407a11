-- A cutter that is pushed along a fiber.
use Rattle.std.proofs.Common.{◌≡◌, refl, sym, subst, w32, to_z, of_z, arith}
use Rattle.std.proofs.lemmas.Int.{ints}
use lib.IntN.{ℤ, pos, ◌+ℤ◌, ◌-ℤ◌}
use lib.Signed.{◌≤ℤ◌}
use Rattle.mill_base.specs.Contact.{Touches}
use Rattle.mill_base.specs.Numbers.{Within}
use Rattle.mill_base.specs.Sizes.{IsCutter, IsWideCutter, radius_of}
use Rattle.mill_base.specs.declared.limits.TheConstants.{LOWEST_LIFT, LOWEST_TIP, MAX_COORDINATE}
use Rattle.mill_base.specs.declared.points.Tri.{Tri}
use Rattle.mill_base.specs.declared.points.Pt3.{Pt3}
use Rattle.mill_base.specs.declared.cutter.Cutter.{Cutter}
use Rattle.mill_base.specs.declared.cutter.Cutter.TheVariants.{Flat, Ball, Cone}
use Rattle.mill_geom.specs.declared.touch.Axis.{Axis}
use Rattle.mill_geom.specs.declared.touch.Axis.TheVariants.{X, Y}
use Rattle.mill_geom.specs.declared.touch.Touch.{Touch}
use Rattle.mill_geom.specs.Sides.{IsTouch, along}
use Rattle.mill_geom.specs.Offsets.{IsCentre}
use Rattle.mill_geom.proofs.Along.{touch_carried}
use Rattle.mill_push.specs.declared.fiber.Fiber.{Fiber}
use Rattle.mill_push.specs.Fibers.{IsTouched, place_on, tip_on}
use Rattle.mill_push.specs.declared.stretch.Pusher.{Pusher}
use Rattle.mill_push.specs.inner.Pushers.{IsPusher, IsTipFiber}
use Rattle.mill_push.proofs.Stored.{small, through, stored, stored_reach, less_reach, and_reach}

-- a job's cutter is one of a contact test's
pub is_wide : (cutter : Cutter) → IsCutter cutter → IsWideCutter cutter
is_wide (Flat r) h = record { least = h.least; within = through r (pos 10000) (pos 11024) h.within (omega (arith, ints)) }
is_wide (Ball r) h = record { least = h.least; within = through r (pos 10000) (pos 11024) h.within (omega (arith, ints)) }
is_wide (Cone r a b) h = (record { least = h.0.least; within = through r (pos 10000) (pos 11024) h.0.within (omega (arith, ints)) }, h.1)

-- and at least one unit wide
pub has_radius : (cutter : Cutter) → IsCutter cutter → (pos 1) ≤ℤ radius_of cutter
has_radius (Flat r) h = h.least
has_radius (Ball r) h = h.least
has_radius (Cone r a b) h = h.0.least

pub most_radius : (cutter : Cutter) → IsCutter cutter → radius_of cutter ≤ℤ pos 10000
most_radius (Flat r) h = h.within
most_radius (Ball r) h = h.within
most_radius (Cone r a b) h = h.0.within

-- a reach is no more than the greatest radius
pub most_reach : (p : Pusher) → IsPusher p → p.reach ≤ℤ pos 10000
most_reach p ok = through p.reach (radius_of p.cutter) (pos 10000) ok.reach_most (most_radius p.cutter ok.cutter_ok)

-- a reach less and more than a position, as the machine stores them
pub about_by : (r x : ℤ) → (pos 1) ≤ℤ r → r ≤ℤ pos 10000 → Within MAX_COORDINATE x
    → (to_z w32 (of_z w32 (to_z w32 (of_z w32 x) -ℤ to_z w32 (of_z w32 r))) ≡ x -ℤ r) × (to_z w32 (of_z w32 (to_z w32 (of_z w32 x) +ℤ to_z w32 (of_z w32 r))) ≡ x +ℤ r)
about_by r x some most h = rw (stored x h, stored_reach r some most) (less_reach x r h some most, and_reach x r h some most)

pub about : (p : Pusher) (x : ℤ) → IsPusher p → Within MAX_COORDINATE x
    → (to_z w32 (of_z w32 (to_z w32 (of_z w32 x) -ℤ to_z w32 (of_z w32 p.reach))) ≡ x -ℤ p.reach) × (to_z w32 (of_z w32 (to_z w32 (of_z w32 x) +ℤ to_z w32 (of_z w32 p.reach))) ≡ x +ℤ p.reach)
about p x ok h = about_by p.reach x ok.reach_least (most_reach p ok) h

-- the tips of a fiber are in range, and its height is stored as it is
over_lowest : (z : ℤ) → (LOWEST_LIFT -ℤ pos MAX_COORDINATE) ≤ℤ z → LOWEST_TIP ≤ℤ z
over_lowest z h = omega (arith, ints)

pub height_stored : (fiber : Fiber) → IsTipFiber fiber → to_z w32 (of_z w32 fiber.z) ≡ fiber.z
height_stored fiber h = small fiber.z (let a = h.z_least in let b = h.z_most in omega (arith, ints))

pub tip_centre : (fiber : Fiber) (v : ℤ) → IsTipFiber fiber → Within MAX_COORDINATE v → IsCentre (tip_on fiber v)
tip_centre fiber v h k = by fiber.axis
  where
    by : (axis : Axis) → IsCentre (place_on axis fiber.at fiber.z v)
    by X = record { x_ok = k; y_ok = h.at_ok; z_from = over_lowest fiber.z h.z_least; z_to = h.z_most }
    by Y = record { x_ok = h.at_ok; y_ok = k; z_from = over_lowest fiber.z h.z_least; z_to = h.z_most }

-- t further along the axis than the tip at v is the tip at v + t
along_is : (axis : Axis) (across z v t : ℤ) → along axis (place_on axis across z v) t ≡ place_on axis across z (v +ℤ t)
along_is X across z v t = refl
along_is Y across z v t = refl

pub touch_on : (r : Touch) (cutter : Cutter) (tri : Tri) (fiber : Fiber) (v : ℤ) → IsTouch r (λ t. Touches cutter (pos 1) (along fiber.axis (tip_on fiber v) t) tri)
    → IsTouch r (λ t. IsTouched cutter tri fiber (v +ℤ t))
touch_on r cutter tri fiber v h =
    touch_carried r (λ t. Touches cutter (pos 1) (along fiber.axis (tip_on fiber v) t) tri) (λ t. IsTouched cutter tri fiber (v +ℤ t))
    (λ x. subst (λ (p : Pt3). Touches cutter (pos 1) p tri) (along_is fiber.axis fiber.at fiber.z v (pos 0)) x)
    (λ t x. subst (λ (p : Pt3). Touches cutter (pos 1) p tri) (sym (along_is fiber.axis fiber.at fiber.z v t)) x)
    h
