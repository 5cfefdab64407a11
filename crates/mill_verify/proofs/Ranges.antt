-- What a job's ranges say of its columns and their tops.
use Rattle.std.specs.Prelude.{◌≡◌, ℕ, ◌+◌, ◌*◌, ◌/◌, ◌<◌, ◌≤◌, ℤ, pos, negsuc, nat_abs, ◌+ℤ◌, ◌-ℤ◌, ◌*ℤ◌, ◌≤ℤ◌, refl}
use Rattle.std.proofs.Common.{arith}
use Rattle.std.proofs.Math.Nat.{div-mul-le_self, mul-le-mul_right}
use Rattle.std.proofs.lemmas.Int.{ints}
use Rattle.mill_base.specs.Numbers.{Within}
use Rattle.mill_base.specs.declared.limits.TheConstants.{MAX_COORDINATE}
use Rattle.mill_base.specs.Points.{point_at}
use Rattle.mill_base.specs.Ranges.{IsInRange}
use Rattle.mill_base.specs.Units.{greatest_of}
use Rattle.mill_base.specs.declared.unit.Unit.{Unit}
use Rattle.mill_base.proofs.Ranges.{within_of_unit}
use Rattle.mill_job.specs.declared.fields.JobFields.{JobFields}
use Rattle.mill_job.specs.Jobs.{IsJob, IsFrom}
use Rattle.mill_job.specs.Columns.{row_count, column_count, column_x, column_y, IsColumn}

-- what lies between two coordinates of a unit is in range
within_between : (unit : Unit) (lo hi v : ℤ) → Within (greatest_of unit) lo → Within (greatest_of unit) hi → IsFrom lo hi v → Within MAX_COORDINATE v
within_between unit lo hi v a b h = record { within = by lo hi v (within_of_unit unit lo a).within (within_of_unit unit hi b).within h.low h.high }
  where
    by : (lo hi v : ℤ) → nat_abs lo ≤ MAX_COORDINATE → nat_abs hi ≤ MAX_COORDINATE → lo ≤ℤ v → v ≤ℤ hi → nat_abs v ≤ MAX_COORDINATE
    by lo hi v p q r s = omega (arith, ints)

-- a height of the stock is in range
pub stock_within : {job : JobFields} {h : ℤ} → IsJob job → IsFrom job.floor job.top h → Within MAX_COORDINATE h
stock_within {job} {h} ok stays = within_between job.unit job.floor job.top h ok.floor_ok ok.top_ok stays

-- a row has at most as many columns as the stock
pub columns_few : {job : JobFields} → IsJob job → column_count job ≤ 4000000
columns_few {job} ok = by _ (column_count job) ok.few
  where
    by : (a b : ℕ) → (a + 1) * b ≤ 4000000 → b ≤ 4000000
    by a b h = omega arith

-- the stock has at most as many rows as columns
pub rows_few : {job : JobFields} → IsJob job → row_count job ≤ 4000000
rows_few {job} ok = by (row_count job) _ ok.few
  where
    by : (a b : ℕ) → a * (b + 1) ≤ 4000000 → a ≤ 4000000
    by a b h = omega arith

pub some_columns : (job : JobFields) → 0 < column_count job
some_columns job = omega arith

pub some_rows : (job : JobFields) → 0 < row_count job
some_rows job = omega arith

-- i steps of q don't pass d where i is at most d / q
steps_within : (d q i : ℕ) → i < d / q + 1 → i * q ≤ d
steps_within d q i h = omega (arith, h, mul-le-mul_right q (at_most i (d / q) h), div-mul-le_self d q)
  where
    at_most : (a b : ℕ) → a < b + 1 → a ≤ b
    at_most a b h = omega (arith, h)

-- a position stands from the first place to the last
position_from : (a b p : ℤ) (i : ℕ) → a ≤ℤ b → (pos 1) ≤ℤ p → i < nat_abs (b -ℤ a) / nat_abs p + 1 → IsFrom a b (a +ℤ pos i *ℤ p)
position_from a b (pos q) i order least h = by (i * q) (pos i *ℤ pos q) refl (steps_within (nat_abs (b -ℤ a)) q i h)
  where
    by : (n : ℕ) (z : ℤ) → z ≡ pos n → n ≤ nat_abs (b -ℤ a) → IsFrom a b (a +ℤ z)
    by n z e k = record { low = omega (e, order, arith, ints); high = omega (e, k, order, arith, ints) }
position_from a b (negsuc q) i order least h = absurd (omega (least, arith, ints))

-- a point of a column of the job is in range
pub column_within : {job : JobFields} {j i : ℕ} {z : ℤ} → IsJob job → IsColumn job j i → Within MAX_COORDINATE z → IsInRange (point_at (column_x job i) (column_y job j) z)
column_within {job} {j} {i} ok c h = record {
  x_ok = within_between job.unit job.area.x0 job.area.x1 _ ok.x0_ok ok.x1_ok (position_from job.area.x0 job.area.x1 job.pitch i ok.x_order ok.pitch_ok.low c.column);
  y_ok = within_between job.unit job.area.y0 job.area.y1 _ ok.y0_ok ok.y1_ok (position_from job.area.y0 job.area.y1 job.pitch j ok.y_order ok.pitch_ok.low c.row);
  z_ok = h;
}
