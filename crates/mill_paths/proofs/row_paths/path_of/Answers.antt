use Rattle.mill_base.specs.Numbers.{Within}
use Rattle.mill_base.specs.declared.limits.TheConstants.{MAX_COORDINATE}
use Rattle.mill_base.proofs.Ranges.{coordinate, within_of_unit}
use Rattle.mill_part.proofs.Stored.{band_kept}
use Rattle.mill_links.proofs.Kept.{unit_coordinate}
use Rattle.mill_paths.specs.RowPaths.{row_y}
use Rattle.mill_paths.proofs.VisitLemmas.{row_in_range}
use Rattle.mill_paths.proofs.row_paths.path_of.Goals as goal

pub path_drop-requires-clause-row_ok : goal.path_drop-requires-clause-row_ok
path_drop-requires-clause-row_ok c =
    let job = c.args.job.now.fields in
    let y : Within MAX_COORDINATE (row_y job c.args.row) = within_of_unit job.unit (row_y job c.args.row) (row_in_range job c.args.row c.args.job.now.is_job c.requires.row_ok) in
    let x0 : Within MAX_COORDINATE job.area.x0 = within_of_unit job.unit job.area.x0 c.args.job.now.is_job.x0_ok in
    let x1 : Within MAX_COORDINATE job.area.x1 = within_of_unit job.unit job.area.x1 c.args.job.now.is_job.x1_ok in
    rw (c.row_place-y.ensures, coordinate (row_y job c.args.row) y, coordinate job.area.x0 x0, coordinate job.area.x1 x1) (record { y_ok = y; x0_ok = x0; x1_ok = x1; order = c.args.job.now.is_job.x_order })

pub returns : goal.returns
returns c =
    let job = c.args.job.now.fields in
    let y : Within MAX_COORDINATE (row_y job c.args.row) = within_of_unit job.unit (row_y job c.args.row) (row_in_range job c.args.row c.args.job.now.is_job c.requires.row_ok) in
    let x0 : Within MAX_COORDINATE job.area.x0 = within_of_unit job.unit job.area.x0 c.args.job.now.is_job.x0_ok in
    let x1 : Within MAX_COORDINATE job.area.x1 = within_of_unit job.unit job.area.x1 c.args.job.now.is_job.x1_ok in
    let path = rw (
      c.tool-tool.ensures,
      c.row_place-y.ensures,
      coordinate (row_y job c.args.row) y,
      coordinate job.area.x0 x0,
      coordinate job.area.x1 x1,
      unit_coordinate job.unit job.floor c.args.job.now.is_job.floor_ok,
      band_kept c.args.tol c.requires.tol_ok.low c.requires.tol_ok.high,
    ) at c.in_ok-path.ensures.path in
    record { path = c.in_ok-path.path.items; is = path; turned = c.turn.ensures }
