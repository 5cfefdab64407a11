use Rattle.std.proofs.Common.{◌≡◌, ◌∙◌, false, FitsSigned, rules, w32, w64, arith}
use Rattle.std.specs.Prelude.{ℤ, ◌+ℤ◌, ◌-ℤ◌, ◌<ℤ◌, ◌≤ℤ◌}
use Rattle.std.proofs.lemmas.Int.{ints, to_z-of_z}
use lib.Signed.{le_z}
use Rattle.mill_base.proofs.Ranges.{within_of_unit}
use Rattle.mill_part.proofs.Stored.{band_kept, less_band}
use Rattle.mill_paths.proofs.PathLemmas.{finish_height, rough_height, no_finish_height, no_rough_height}
use Rattle.mill_paths.proofs.path.tip_height.Goals as goal

lower : (a b : ℤ) → le_z a b ≡ false → b <ℤ a
lower a b e = omega (arith, ints)

pub overflow_add-result : goal.overflow_add-result
overflow_add-result c =
    let drop = to_z-of_z w32 c.args.drop c.ranges.drop in
    let lift = band_kept c.args.job.now.fields.lift c.args.job.now.is_job.lift_ok.low c.args.job.now.is_job.lift_ok.high in
    let less = less_band c.args.job.now.fields.top c.args.job.now.fields.lift (within_of_unit c.args.job.now.fields.unit c.args.job.now.fields.top c.args.job.now.is_job.top_ok) c.args.job.now.is_job.lift_ok.low c.args.job.now.is_job.lift_ok.high in
    let under = rw (less, drop) at c.if-drop-job.true in
    rw (drop, lift) (omega (arith, ints))

pub returns-then-least-from : goal.returns-then-least-from
returns-then-least-from c =
    let fits : FitsSigned w32 c.in-Layer.z = search rules in
    let kept = to_z-of_z w32 c.in-Layer.z fits in
    let high : (c.args.drop +ℤ c.args.job.now.fields.rough_stock) ≤ℤ c.in-Layer.z = omega (arith, ints) in
    rw (c.in-Layer.is, kept) (rough_height c.args.job.now.fields c.in-Layer.z c.args.drop high)

pub returns-else-least-from : goal.returns-else-least-from
returns-else-least-from c =
    let fits : FitsSigned w32 c.in-Layer.z = search rules in
    let drop = c.from.ensures ∙ to_z-of_z w32 c.args.drop c.ranges.drop in
    let stock = c.from-in-Layer.ensures ∙ band_kept c.args.job.now.fields.rough_stock c.args.job.now.is_job.rough_stock_ok.low c.args.job.now.is_job.rough_stock_ok.high in
    let z = c.from-in-Layer-2.ensures ∙ to_z-of_z w32 c.in-Layer.z fits in
    let drop_fits : FitsSigned w64 c.args.drop = omega (arith, ints) in
    let stock_fits : FitsSigned w64 c.args.job.now.fields.rough_stock = omega (arith, ints) in
    let sum_fits : FitsSigned w64 (c.args.drop +ℤ c.args.job.now.fields.rough_stock) = omega (arith, ints) in
    let z_fits : FitsSigned w64 c.in-Layer.z = omega (arith, ints) in
    let test = rw (
      drop,
      stock,
      z,
      to_z-of_z w64 c.args.drop drop_fits,
      to_z-of_z w64 c.args.job.now.fields.rough_stock stock_fits,
      to_z-of_z w64 (c.args.drop +ℤ c.args.job.now.fields.rough_stock) sum_fits,
      to_z-of_z w64 c.in-Layer.z z_fits,
    ) at c.if-least-from.false in
    rw c.in-Layer.is (no_rough_height c.args.job.now.fields c.in-Layer.z c.args.drop (lower _ _ test))

pub returns-then-drop-job : goal.returns-then-drop-job
returns-then-drop-job c =
    let drop = to_z-of_z w32 c.args.drop c.ranges.drop in
    let lift = band_kept c.args.job.now.fields.lift c.args.job.now.is_job.lift_ok.low c.args.job.now.is_job.lift_ok.high in
    let less = less_band c.args.job.now.fields.top c.args.job.now.fields.lift (within_of_unit c.args.job.now.fields.unit c.args.job.now.fields.top c.args.job.now.is_job.top_ok) c.args.job.now.is_job.lift_ok.low c.args.job.now.is_job.lift_ok.high in
    let under = rw (less, drop) at c.if-drop-job.true in
    let low : c.args.drop <ℤ (c.args.job.now.fields.top -ℤ c.args.job.now.fields.lift) = omega (arith, ints) in
    let fits : FitsSigned w32 (c.args.drop +ℤ c.args.job.now.fields.lift) = omega (arith, ints) in
    rw (c.in-Finish.is, drop, lift, to_z-of_z w32 (c.args.drop +ℤ c.args.job.now.fields.lift) fits) (finish_height c.args.job.now.fields c.args.drop low)

pub returns-else-drop-job : goal.returns-else-drop-job
returns-else-drop-job c =
    let drop = to_z-of_z w32 c.args.drop c.ranges.drop in
    let less = less_band c.args.job.now.fields.top c.args.job.now.fields.lift (within_of_unit c.args.job.now.fields.unit c.args.job.now.fields.top c.args.job.now.is_job.top_ok) c.args.job.now.is_job.lift_ok.low c.args.job.now.is_job.lift_ok.high in
    let over = rw (less, drop) at c.if-drop-job.false in
    let high : (c.args.job.now.fields.top -ℤ c.args.job.now.fields.lift) ≤ℤ c.args.drop = omega (arith, ints) in
    rw c.in-Finish.is (no_finish_height c.args.job.now.fields c.args.drop high)
