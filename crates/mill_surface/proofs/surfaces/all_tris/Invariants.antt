use Rattle.std.proofs.Common.{◌≡◌}
use Rattle.std.specs.List.{flat_map, range_with_len}
use Rattle.mill_base.specs.Ranges.{TrisInUnitRange}
use Rattle.mill_job.specs.Columns.{column_count}
use Rattle.mill_surface.specs.Surfaces.{strip_tris, point_in}
use Rattle.mill_surface.proofs.surfaces.all_tris.Given as goal

abbrev pub invariant-loop-row : goal.invariant-loop-row
invariant-loop-row l = record {
  tris : l.tris.items ≡ flat_map (strip_tris (column_count l.job.fields) (point_in l.job.fields l.rows)) (range_with_len 0 l.row);
  in_range : TrisInUnitRange l.job.fields.unit l.tris.items;
}
