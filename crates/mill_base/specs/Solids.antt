-- A solid: a cutter with its tip at some height over the tip of the tool that it is part of.
use Rattle.std.specs.Prelude.{ℤ, pos, zero, ◌+ℤ◌, ◌*ℤ◌, ◌≤ℤ◌, List}
use Rattle.mill_base.specs.Contact.{Gouges, Holds}
use Rattle.mill_base.specs.Points.{point_at}
use Rattle.mill_base.specs.Sizes.{IsCutter}
use Rattle.mill_base.specs.declared.cutter.Cutter.{Cutter}
use Rattle.mill_base.specs.declared.limits.TheConstants.{LOWEST_LIFT, MAX_COORDINATE}
use Rattle.mill_base.specs.declared.motion.Move.{Move}
use Rattle.mill_base.specs.declared.points.Pt3.{Pt3}
use Rattle.mill_base.specs.declared.points.Tri.{Tri}

-- a cutter whose tip is so much over the tool's tip, or under it
pub record Solid : Type 0 where
  pub cutter : Cutter
  pub lift : ℤ

-- how far a solid's tip may be over the tool's, or under it
pub record IsLift (lift : ℤ) : Type 0 where
  pub least : LOWEST_LIFT ≤ℤ lift
  pub within : lift ≤ℤ pos MAX_COORDINATE

-- a cutter of a job's size, at such a lift
pub record IsSolid (solid : Solid) : Type 0 where
  pub cutter_ok : IsCutter solid.cutter
  pub lift_ok : IsLift solid.lift

-- the cutter with its tip at the tool's
abbrev pub at_tip : Cutter → Solid
at_tip cutter = record { cutter = cutter; lift = pos 0 }

-- a height over the denominator m, so much higher; higher by nothing it is the height itself, so that what is said of a cutter at the tool's tip is said of the
-- cutter
abbrev pub higher : ℤ → ℤ → ℤ → ℤ
higher m z (pos zero) = z
higher m z lift = z +ℤ m *ℤ lift

-- a point so much higher
abbrev pub raised : ℤ → ℤ → Pt3 → Pt3
raised lift m p = point_at p.x p.y (higher m p.z lift)

-- where the solid's tip is, over the denominator m, with the tool's tip at t over m
abbrev pub solid_tip : Solid → ℤ → Pt3 → Pt3
solid_tip solid m t = raised solid.lift m t

-- the move as the solid's tip makes it
abbrev pub lifted : Solid → Move → Move
lifted solid m = record { kind = m.kind; from = solid_tip solid (pos 1) m.from; to = solid_tip solid (pos 1) m.to }

-- with the tool's tip at t over m, the solid strictly holds the point p over n
abbrev pub SolidHolds : Solid → ℤ → Pt3 → ℤ → Pt3 → Type 0
SolidHolds solid m t n p = Holds solid.cutter m (solid_tip solid m t) n p

-- with the tool's tip at t over m, some part point is strictly inside the solid
abbrev pub SolidGouges : Solid → ℤ → Pt3 → List Tri → Type 0
SolidGouges solid m t part = Gouges solid.cutter m (solid_tip solid m t) part
