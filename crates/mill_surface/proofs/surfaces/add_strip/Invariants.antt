use Rattle.std.proofs.Common.{◌≡◌, ◌++◌}
use Rattle.std.specs.List.{flat_map, range_with_len}
use Rattle.mill_base.specs.Ranges.{TrisInUnitRange}
use Rattle.mill_surface.specs.Surfaces.{square_tris, point_in}
use Rattle.mill_surface.proofs.surfaces.add_strip.Given as goal

abbrev pub invariant-loop-column : goal.invariant-loop-column
invariant-loop-column l = record {
  tris : l.tris.items ≡ l.fn.tris.items ++ flat_map (square_tris (point_in l.job.fields l.rows) l.row) (range_with_len 0 l.column);
  in_range : TrisInUnitRange l.job.fields.unit l.tris.items;
}
