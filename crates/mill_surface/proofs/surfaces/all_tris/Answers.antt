use Rattle.std.proofs.Common.{◌≡◌, ◌-◌, ◌∙◌, ap, ℕ, [], arith}
use Rattle.std.specs.List.{flat_map, range_with_len}
use Rattle.mill_job.specs.Columns.{row_count, column_count}
use Rattle.mill_surface.specs.Surfaces.{strip_tris, surface_tris, point_in}
use Rattle.mill_surface.proofs.Strips.{added_more}
use Rattle.mill_surface.proofs.surfaces.all_tris.Goals as goal

pub loop-row-preserved : goal.loop-row-preserved
loop-row-preserved c = record {
  tris = added_more (strip_tris (column_count c.args.job.now.fields) (point_in c.args.job.now.fields c.args.rows.now)) [] c.loop-row.tris.items c.add_strip.new.tris.items c.loop-row.row
      c.loop-row.invariant.tris c.in_ok-add_strip.ensures.tris;
  in_range = c.in_ok-add_strip.ensures.in_range;
}

pub returns-clause-tris : goal.returns-clause-tris
unfolding surface_tris
returns-clause-tris c =
    let all : c.loop-row.row ≡ row_count c.args.job.now.fields - 1 = omega arith in
    c.loop-row.invariant.tris ∙ ap (λ (n : ℕ). flat_map (strip_tris (column_count c.args.job.now.fields) (point_in c.args.job.now.fields c.args.rows.now)) (range_with_len 0 n)) all
