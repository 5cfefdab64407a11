use Rattle.std.proofs.Common.{◌≡◌, ◌++◌, ◌-◌, ◌∙◌, ap, ℕ, arith}
use Rattle.std.specs.List.{flat_map, range_with_len}
use Rattle.mill_job.specs.Columns.{column_count}
use Rattle.mill_surface.specs.Surfaces.{square_tris, strip_tris, point_in}
use Rattle.mill_surface.proofs.Strips.{added_more}
use Rattle.mill_surface.proofs.surfaces.add_strip.Goals as goal

pub loop-column-preserved : goal.loop-column-preserved
loop-column-preserved c = record {
  tris = added_more (square_tris (point_in c.args.job.now.fields c.args.rows.now) c.args.row) c.args.tris.now.items c.loop-column.tris.items c.add_square.new.tris.items c.loop-column.column
      c.loop-column.invariant.tris c.in_ok-add_square.ensures.tris;
  in_range = c.in_ok-add_square.ensures.in_range;
}

pub returns-clause-tris : goal.returns-clause-tris
unfolding strip_tris
returns-clause-tris c =
    let all : c.loop-column.column ≡ column_count c.args.job.now.fields - 1 = omega arith in
    c.loop-column.invariant.tris ∙ ap (λ (n : ℕ). c.args.tris.now.items ++ flat_map (square_tris (point_in c.args.job.now.fields c.args.rows.now) c.args.row) (range_with_len 0 n)) all
