use Rattle.std.proofs.Common.{◌≡◌, ◌∙◌, FitsSigned, rules, w32, ap, arith}
use Rattle.std.specs.Prelude.{ℤ, neg_ℤ, ◌-ℤ◌}
use Rattle.std.proofs.lemmas.Int.{ints, to_z-of_z}
use Rattle.mill_base.specs.Numbers.{Within, greater}
use Rattle.mill_base.specs.declared.limits.TheConstants.{MAX_COORDINATE}
use Rattle.mill_base.proofs.Machine.{stored}
use Rattle.mill_base.proofs.Ranges.{coordinate}
use Rattle.mill_cells.proofs.BoxLemmas.{most}
use Rattle.mill_paths.proofs.RowPoints.{x_within}
use Rattle.mill_paths.proofs.row_visits.step_from.Goals as goal

way_fits : (u v : ℤ) → Within MAX_COORDINATE u → Within MAX_COORDINATE v → FitsSigned w32 (u -ℤ v)
way_fits u v u_ok v_ok = let p = u_ok.within in let q = v_ok.within in omega (p, q, arith, ints)

back_fits : (u v : ℤ) → Within MAX_COORDINATE u → Within MAX_COORDINATE v → FitsSigned w32 (neg_ℤ (u -ℤ v))
back_fits u v u_ok v_ok = let p = u_ok.within in let q = v_ok.within in omega (p, q, arith, ints)

pub overflow_sub-point : goal.overflow_sub-point
overflow_sub-point c =
    let to : Within MAX_COORDINATE c.args.point.x = x_within c.args.job.now.fields c.args.point c.args.job.now.is_job c.requires.point_ok in
    let from : Within MAX_COORDINATE c.args.before.x = x_within c.args.job.now.fields c.args.before c.args.job.now.is_job c.requires.before_ok in
    rw (coordinate c.args.point.x to, coordinate c.args.before.x from) (way_fits c.args.point.x c.args.before.x to from)

pub abs-requires : goal.abs-requires
abs-requires c =
    let to : Within MAX_COORDINATE c.args.point.x = x_within c.args.job.now.fields c.args.point c.args.job.now.is_job c.requires.point_ok in
    let from : Within MAX_COORDINATE c.args.before.x = x_within c.args.job.now.fields c.args.before c.args.job.now.is_job c.requires.before_ok in
    rw (coordinate c.args.point.x to, coordinate c.args.before.x from, to_z-of_z w32 (c.args.point.x -ℤ c.args.before.x) (way_fits c.args.point.x c.args.before.x to from))
    (back_fits c.args.point.x c.args.before.x to from)

pub returns : goal.returns
returns c =
    let to : Within MAX_COORDINATE c.args.point.x = x_within c.args.job.now.fields c.args.point c.args.job.now.is_job c.requires.point_ok in
    let from : Within MAX_COORDINATE c.args.before.x = x_within c.args.job.now.fields c.args.before c.args.job.now.is_job c.requires.before_ok in
    let way = rw (coordinate c.args.point.x to, coordinate c.args.before.x from, to_z-of_z w32 (c.args.point.x -ℤ c.args.before.x) (way_fits c.args.point.x c.args.before.x to from)) at c.abs.ensures.value in
    let is : stored w32 c.max.result ≡ greater c.args.job.now.fields.raster c.abs.result = most c.max.result c.args.job.now.fields.raster c.abs.result (search rules) (search rules) (search rules) c.max.ensures.value in
    is ∙ ap (λ (d : ℤ). greater c.args.job.now.fields.raster d) way
