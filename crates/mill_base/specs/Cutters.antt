-- What is strictly inside a cutter. An offset d over the denominator n goes from the tip to a point.
use Rattle.std.specs.Prelude.{◌⊎◌, ℤ, pos, ◌+ℤ◌, ◌-ℤ◌, ◌*ℤ◌, ◌<ℤ◌, ◌≤ℤ◌}
use Rattle.mill_base.specs.Numbers.{square}
use Rattle.mill_base.specs.declared.points.Pt3.{Pt3}
use Rattle.mill_base.specs.declared.cutter.Cutter.{Cutter}
use Rattle.mill_base.specs.declared.cutter.Cutter.TheVariants.{Flat, Ball, Cone}

-- the square of the distance from the axis
abbrev pub apart : Pt3 → ℤ
apart d = square d.x +ℤ square d.y

-- nearer to the axis than r, and over the tip's plane
pub record InFlat (r n : ℤ) (d : Pt3) : Type 0 where
  pub near : apart d <ℤ (square r *ℤ square n)
  pub over : (pos 0) <ℤ d.z

-- nearer to the axis than r, and at or over the centre of the sphere that stands on the tip, or in that sphere
pub record InBall (r n : ℤ) (d : Pt3) : Type 0 where
  pub near : apart d <ℤ (square r *ℤ square n)
  pub over : ((r *ℤ n) ≤ℤ d.z) ⊎ ((apart d +ℤ square (d.z -ℤ r *ℤ n)) <ℤ (square r *ℤ square n))

-- nearer to the axis than r, and over the cone that rises by a over a run of b
pub record InCone (r a b n : ℤ) (d : Pt3) : Type 0 where
  pub near : apart d <ℤ (square r *ℤ square n)
  pub over : (pos 0) <ℤ d.z
  pub steep : (square a *ℤ apart d) <ℤ (square b *ℤ square d.z)

-- the offset d over n is strictly inside the cutter
abbrev pub Inside : Cutter → ℤ → Pt3 → Type 0
Inside (Flat r) n d = InFlat r n d
Inside (Ball r) n d = InBall r n d
Inside (Cone r a b) n d = InCone r a b n d
