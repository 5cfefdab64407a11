-- The search for the least height at which a triangle is free.
use lib.IntN.{ℤ}
use lib.Signed.{◌<ℤ◌, ◌≤ℤ◌}
use Rattle.mill_base.specs.declared.points.Tri.{Tri}
use Rattle.mill_base.specs.declared.cutter.Cutter.{Cutter}
use Rattle.mill_drop.specs.inner.Solids.{TouchesAt}

-- the cutter holds some of the triangle at low and none at high, which lie from start to end
pub record IsBetween (cutter : Cutter) (tri : Tri) (x y start end low high : ℤ) : Type 0 where
  pub held : TouchesAt cutter tri x y low
  pub free : ¬ TouchesAt cutter tri x y high
  pub order : low <ℤ high
  pub from : start ≤ℤ low
  pub to : high ≤ℤ end
