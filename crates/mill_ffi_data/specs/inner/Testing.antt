-- The parts of a test.
use Rattle.std.specs.Prelude.{pos, ◌≤ℤ◌}
use Rattle.mill_base.specs.Numbers.{Within}
use Rattle.mill_base.specs.declared.limits.TheConstants.{MAX_COORDINATE}
use Rattle.mill_ffi_data.specs.declared.raw.RawLattice.{RawLattice}

-- the ends of a lattice are in range
pub record IsCorners (raw : RawLattice) : Type 0 where
  pub x0_ok : Within MAX_COORDINATE raw.x0
  pub x1_ok : Within MAX_COORDINATE raw.x1
  pub y0_ok : Within MAX_COORDINATE raw.y0
  pub y1_ok : Within MAX_COORDINATE raw.y1

-- they are the right way round, and the step is at least one unit
pub record IsInOrder (raw : RawLattice) : Type 0 where
  pub x_order : raw.x0 ≤ℤ raw.x1
  pub y_order : raw.y0 ≤ℤ raw.y1
  pub step_ok : (pos 1) ≤ℤ raw.step
