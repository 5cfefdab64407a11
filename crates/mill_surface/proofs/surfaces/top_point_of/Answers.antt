use Rattle.std.specs.Prelude.{pos, slice_index_or}
use Rattle.std.proofs.Common.{arith}
use Rattle.std.proofs.lemmas.Int.{ints}
use Rattle.mill_base.proofs.Ranges.{coordinate, greatest_of-le, within_of_unit}
use Rattle.mill_base.specs.Numbers.{Within}
use Rattle.mill_base.specs.declared.limits.TheConstants.{MAX_COORDINATE}
use Rattle.mill_job.specs.Jobs.{IsFrom}
use Rattle.mill_surface.proofs.RangeLemmas.{point_read, top_in_stock, top_there}
use Rattle.mill_surface.proofs.surfaces.top_point_of.Goals as goal

pub bounds-tops-column : goal.bounds-tops-column
bounds-tops-column c =
    top_there c.args.job.now.fields c.args.rows.now c.args.row c.args.column c.index-rows-row.result c.tops.result.now c.requires.rows_ok (omega arith) c.index-rows-row.is c.tops.ensures c.requires.column

pub returns-clause-value : goal.returns-clause-value
returns-clause-value c =
    let job = c.args.job.now.fields in
    let most = greatest_of-le job.unit in
    let z : IsFrom job.floor job.top (slice_index_or c.tops.result.now c.args.column (pos 0)) =
    top_in_stock job c.args.rows.now c.args.row c.args.column c.index-rows-row.result c.tops.result.now c.requires.rows_ok (omega arith) c.index-rows-row.is c.tops.ensures c.requires.column
    in
    let floor = c.args.job.now.is_job.floor_ok in
    let top = c.args.job.now.is_job.top_ok in
    let z_ok : Within MAX_COORDINATE (slice_index_or c.tops.result.now c.args.column (pos 0)) = record { within = omega (arith, ints, most, z, floor, top) } in
    rw (coordinate c.column_x.result (within_of_unit job.unit _ c.column_x.ensures.in_range), coordinate c.row_y.result (within_of_unit job.unit _ c.row_y.ensures.in_range), coordinate _ z_ok)
    (point_read job c.args.rows.now c.args.row c.args.column c.index-rows-row.result c.tops.result.now c.column_x.result c.row_y.result (omega arith) c.index-rows-row.is c.tops.ensures
    c.column_x.ensures.value c.row_y.ensures.value)

pub returns-clause-in_range : goal.returns-clause-in_range
returns-clause-in_range c =
    let job = c.args.job.now.fields in
    let most = greatest_of-le job.unit in
    let x = c.column_x.ensures.in_range in
    let y = c.row_y.ensures.in_range in
    let z : IsFrom job.floor job.top (slice_index_or c.tops.result.now c.args.column (pos 0)) =
    top_in_stock job c.args.rows.now c.args.row c.args.column c.index-rows-row.result c.tops.result.now c.requires.rows_ok (omega arith) c.index-rows-row.is c.tops.ensures c.requires.column
    in
    let floor = c.args.job.now.is_job.floor_ok in
    let top = c.args.job.now.is_job.top_ok in
    record {
      x_ok = record { within = omega (arith, ints, most, x) };
      y_ok = record { within = omega (arith, ints, most, y) };
      z_ok = record { within = omega (arith, ints, most, z, floor, top) };
    }
