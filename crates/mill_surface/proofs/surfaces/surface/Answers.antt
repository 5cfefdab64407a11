use Rattle.std.proofs.Common.{◌≡◌, ◌∙◌, sym, ap, length, arith}
use Rattle.std.specs.Prelude.{List}
use Rattle.mill_base.specs.declared.points.Tri.{Tri}
use Rattle.mill_surface.specs.Surfaces.{point_in}
use Rattle.mill_surface.proofs.Strips.{surface_after}
use Rattle.mill_surface.proofs.Counts.{length-surface}
use Rattle.mill_surface.proofs.surfaces.surface.Goals as goal

pub returns-clause-after : goal.returns-clause-after
returns-clause-after c = λ moves stock. c.in_ok-all_tris.ensures.tris ∙ surface_after c.args.job.now.fields moves c.args.rows.now stock

pub returns-clause-count : goal.returns-clause-count
returns-clause-count c =
    ap (λ (tris : List Tri). length tris) c.in_ok-all_tris.ensures.tris ∙ length-surface c.args.job.now.fields (point_in c.args.job.now.fields c.args.rows.now)

pub returns-clause-few : goal.returns-clause-few
returns-clause-few c =
    let all : length c.in_ok-all_tris.field-0.items ≡ c.triangle_count-count.result = returns-clause-count c ∙ sym c.triangle_count-count.ensures in
    omega arith
