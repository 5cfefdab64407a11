-- What the laws of passing use: a cutter's least radius, and a point as the one point of its triangle.
use Rattle.std.proofs.Common.{◌≡◌, refl, arith}
use Rattle.std.specs.Prelude.{ℤ, pos, ◌+ℤ◌, ◌*ℤ◌, ◌≤ℤ◌}
use Rattle.std.proofs.lemmas.Int.{ints}
use Rattle.mill_base.proofs.Integers.{one-mul-ℤ, zero-mul-ℤ}
use Rattle.mill_base.specs.Points.{IsPointOf, plus, times, point_at, point_tri}
use Rattle.mill_base.specs.Sizes.{IsCutter, radius_of}
use Rattle.mill_base.specs.declared.points.Pt3.{Pt3}
use Rattle.mill_base.specs.declared.cutter.Cutter.{Cutter}
use Rattle.mill_base.specs.declared.cutter.Cutter.TheVariants.{Flat, Ball, Cone}

-- the radius of a job's cutter is at least 1
pub radius_least : (cutter : Cutter) → IsCutter cutter → (pos 1) ≤ℤ radius_of cutter
radius_least (Flat r) h = h.least
radius_least (Ball r) h = h.least
radius_least (Cone r a b) h = h.0.least

once : (x y z : ℤ) → point_at x y z ≡ plus (plus (times (pos 1) (point_at x y z)) (times (pos 0) (point_at x y z))) (times (pos 0) (point_at x y z))
once x y z = same _ _ _ _ _ _ (one x) (one y) (one z)
  where
    one : (a : ℤ) → a ≡ ((pos 1 *ℤ a) +ℤ (pos 0 *ℤ a)) +ℤ (pos 0 *ℤ a)
    one a = let i = one-mul-ℤ a in let z = zero-mul-ℤ a in omega (arith, ints)

    same : (a b c d e f : ℤ) → a ≡ d → b ≡ e → c ≡ f → point_at a b c ≡ point_at d e f
    same a b c d e f p q r = cc

-- a point is the one point of its triangle
pub itself : (p : Pt3) → IsPointOf (point_tri p) (pos 1) p
itself p = record {
  u = pos 1;
  v = pos 0;
  w = pos 0;
  u_ok = omega (arith, ints);
  v_ok = omega (arith, ints);
  w_ok = omega (arith, ints);
  some = omega (arith, ints);
  weights = refl;
  place = once p.x p.y p.z;
}
