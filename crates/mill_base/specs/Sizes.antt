-- The sizes that a cutter may have, wider and narrower cutters, and the height to which a cutter lowers a column.
use Rattle.std.specs.Prelude.{◌/◌, Bool, if◌then◌else◌, ℤ, pos, ◌+ℤ◌, ◌-ℤ◌, ◌*ℤ◌, ◌<ℤ◌, ◌≤ℤ◌, nat_abs, int_lt, int_le, Option, Some, None}
use Rattle.mill_base.specs.Numbers.{square, floor_root_of, ceil_root_of, ceil_div}
use Rattle.mill_base.specs.Points.{point_at}
use Rattle.mill_base.specs.Contact.{Holds}
use Rattle.mill_base.specs.declared.points.Pt3.{Pt3}
use Rattle.mill_base.specs.declared.limits.TheConstants.{MAX_RADIUS, MAX_WIDE_RADIUS}
use Rattle.mill_base.specs.declared.cutter.Cutter.{Cutter}
use Rattle.mill_base.specs.declared.cutter.Cutter.TheVariants.{Flat, Ball, Cone}

-- the radius of the shank
abbrev pub radius_of : Cutter → ℤ
radius_of (Flat r) = r
radius_of (Ball r) = r
radius_of (Cone r a b) = r

-- the radius is from 1 to most
pub record HasRadius (r most : ℤ) : Type 0 where
  pub least : (pos 1) ≤ℤ r
  pub within : r ≤ℤ most

-- a cone's slope: rise a and run b from 1 to 100, and a at most 16*b
pub record IsSlope (a b : ℤ) : Type 0 where
  pub rise : (pos 1) ≤ℤ a
  pub rise_most : a ≤ℤ pos 100
  pub run : (pos 1) ≤ℤ b
  pub run_most : b ≤ℤ pos 100
  pub steepest : a ≤ℤ (pos 16 *ℤ b)

-- the radius, up to a limit, and the slope are in their ranges
abbrev pub IsCutterUpTo : ℤ → Cutter → Type 0
IsCutterUpTo limit (Flat r) = HasRadius r limit
IsCutterUpTo limit (Ball r) = HasRadius r limit
IsCutterUpTo limit (Cone r a b) = HasRadius r limit × IsSlope a b

-- a cutter of a job
abbrev pub IsCutter : Cutter → Type 0
IsCutter cutter = IsCutterUpTo MAX_RADIUS cutter

-- a cutter of a contact test, which may be a job's widened by the greatest reach
abbrev pub IsWideCutter : Cutter → Type 0
IsWideCutter cutter = IsCutterUpTo MAX_WIDE_RADIUS cutter

-- the same cutter with the radius s
abbrev pub with_radius : Cutter → ℤ → Cutter
with_radius (Flat r) s = Flat s
with_radius (Ball r) s = Ball s
with_radius (Cone r a b) s = Cone s a b

-- how far a wider cutter is lowered, or a narrower one raised, for a change of the radius by reach: by a cone's slope, rounded up
abbrev pub shift : Cutter → ℤ → ℤ
shift (Flat r) reach = pos 0
shift (Ball r) reach = reach
shift (Cone r a b) reach = ceil_div (reach *ℤ a) (nat_abs b)

-- the cutter widened by reach
abbrev pub outer : Cutter → ℤ → Cutter
outer cutter reach = with_radius cutter (radius_of cutter +ℤ reach)

-- the cutter narrowed by 1, none at radius 1
abbrev pub inner : Cutter → Option Cutter
inner cutter = if int_le (radius_of cutter) (pos 1) then None else Some (with_radius cutter (radius_of cutter -ℤ pos 1))

-- the whole (x, y) lies strictly within the cutter's radius
abbrev pub is_within : Cutter → Pt3 → ℤ → ℤ → Bool
is_within cutter tip x y = int_lt (square (x -ℤ tip.x) +ℤ square (y -ℤ tip.y)) (square (radius_of cutter))

-- the rise of the cutter's surface over its tip where the square of the distance from the axis is s, rounded down
abbrev pub surface : Cutter → ℤ → ℤ
surface (Flat r) s = pos 0
surface (Ball r) s = r -ℤ pos (ceil_root_of (nat_abs (square r -ℤ s)))
surface (Cone r a b) s = pos (floor_root_of (nat_abs (square a *ℤ s) / nat_abs (square b)))

-- the height to which the cutter cuts a column, none where the column isn't strictly within its radius
abbrev pub cut_height_of : Cutter → Pt3 → ℤ → ℤ → Option ℤ
cut_height_of cutter tip x y = if is_within cutter tip x y then Some (tip.z +ℤ surface cutter (square (x -ℤ tip.x) +ℤ square (y -ℤ tip.y))) else None

-- h is the greatest whole height of the column that isn't strictly inside the cutter
pub record IsCutHeight (cutter : Cutter) (tip : Pt3) (x y h : ℤ) : Type 0 where
  pub free : ¬ Holds cutter (pos 1) tip (pos 1) (point_at x y h)
  pub greatest : (higher : ℤ) → h <ℤ higher → Holds cutter (pos 1) tip (pos 1) (point_at x y higher)
