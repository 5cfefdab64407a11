-- How far from its axis a cutter holds points that aren't high over its tip.
use Rattle.std.specs.Prelude.{ℕ, ◌-◌, ◌*◌, ◌<◌, ◌≤◌, ℤ, pos, ◌-ℤ◌, ◌*ℤ◌, ◌<ℤ◌, ◌≤ℤ◌, List}
use Rattle.mill_base.specs.Numbers.{square}
use Rattle.mill_base.specs.Covers.{IsUnder}
use Rattle.mill_base.specs.Cutters.{Inside, apart}
use Rattle.mill_base.specs.Sizes.{radius_of}
use Rattle.mill_base.specs.declared.points.Pt3.{Pt3}
use Rattle.mill_base.specs.declared.points.Tri.{Tri}
use Rattle.mill_base.specs.declared.cutter.Cutter.{Cutter}

-- whatever the cutter holds that is at most `height` over its tip is nearer to its axis than the reach, which is no more than the radius
pub record IsReach (cutter : Cutter) (height reach : ℤ) : Type 0 where
  pub least : (pos 1) ≤ℤ reach
  pub most : reach ≤ℤ radius_of cutter
  pub near : (n : ℤ) (d : Pt3) → (pos 0) <ℤ n → d.z ≤ℤ (n *ℤ height) → Inside cutter n d → apart d <ℤ (square reach *ℤ square n)

-- a reach for what the triangle has, with the tip at the height z: for all up to some height that no corner of it is over
pub record IsReachForTri (cutter : Cutter) (z reach : ℤ) (tri : Tri) : Type 0 where
  pub top : ℤ
  pub under : (tri.a.z ≤ℤ top) × (tri.b.z ≤ℤ top) × (tri.c.z ≤ℤ top)
  pub holds : IsReach cutter (top -ℤ z) reach

-- a reach for what the part has
pub record IsReachForPart (cutter : Cutter) (z reach : ℤ) (part : List Tri) : Type 0 where
  pub top : ℤ
  pub under : IsUnder part top
  pub holds : IsReach cutter (top -ℤ z) reach

-- a ball's reach: that of its shank from the centre of its sphere on, and under it a root, rounded up
pub record IsBallReach (radius height reach : ℕ) : Type 0 where
  pub least : 0 < reach
  pub most : reach ≤ radius
  pub high : radius ≤ height → radius * radius ≤ reach * reach
  pub low : height < radius → height * (2 * radius - height) ≤ reach * reach

-- a cone's reach, as far as its wall goes on: the height over the slope, rounded up
pub record IsWallReach (height rise run reach : ℕ) : Type 0 where
  pub least : 0 < reach
  pub wall : height * run ≤ reach * rise
