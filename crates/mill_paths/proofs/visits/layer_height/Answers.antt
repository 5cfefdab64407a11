use Rattle.std.proofs.Common.{◌≡◌, ℕ, ◌<◌, ◌≤◌, sym, w32, arith}
use Rattle.std.specs.Prelude.{nat_abs, pos, ◌-ℤ◌}
use Rattle.std.proofs.lemmas.Int.{ints, to_z-of_z, to_z_pos}
use mir.Val.{to_z}
use Rattle.mill_links.proofs.Kept.{unit_coordinate}
use Rattle.mill_paths.proofs.LayerLemmas.{IsLowered, is_lowered, layer_within, layer_height_fits, layer_height_is, lowering}
use Rattle.mill_paths.proofs.visits.layer_height.Goals as goal

pub overflow_add-lowered : goal.overflow_add-lowered
overflow_add-lowered c =
    let h : IsLowered c.args.job.now.fields c.args.number = is_lowered c.args.job.now.fields c.args.number c.args.job.now.is_job c.requires.layer_ok c.requires.number_ok in
    let low = h.counted in
    let small = h.small in
    omega arith

pub overflow_mul-lowered : goal.overflow_mul-lowered
overflow_mul-lowered c =
    let h : IsLowered c.args.job.now.fields c.args.number = is_lowered c.args.job.now.fields c.args.number c.args.job.now.is_job c.requires.layer_ok c.requires.number_ok in
    let layer = unit_coordinate c.args.job.now.fields.unit c.args.job.now.fields.layer (layer_within c.args.job.now.fields c.args.job.now.is_job) in
    let thick : c.unsigned_abs.result ≡ nat_abs c.args.job.now.fields.layer = rw layer at c.unsigned_abs.ensures.value in
    let small = h.small in
    rw thick (omega arith)

pub overflow_cast-result : goal.overflow_cast-result
overflow_cast-result c =
    let h : IsLowered c.args.job.now.fields c.args.number = is_lowered c.args.job.now.fields c.args.number c.args.job.now.is_job c.requires.layer_ok c.requires.number_ok in
    let layer = unit_coordinate c.args.job.now.fields.unit c.args.job.now.fields.layer (layer_within c.args.job.now.fields c.args.job.now.is_job) in
    let thick : c.unsigned_abs.result ≡ nat_abs c.args.job.now.fields.layer = rw layer at c.unsigned_abs.ensures.value in
    let small = h.small in
    rw thick (omega (arith, ints))

small_number : (n : ℕ) → n ≤ 1048574 → n < 2147483648
small_number n h = omega arith

pub overflow_sub-result : goal.overflow_sub-result
overflow_sub-result c =
    let h : IsLowered c.args.job.now.fields c.args.number = is_lowered c.args.job.now.fields c.args.number c.args.job.now.is_job c.requires.layer_ok c.requires.number_ok in
    let layer = unit_coordinate c.args.job.now.fields.unit c.args.job.now.fields.layer (layer_within c.args.job.now.fields c.args.job.now.is_job) in
    let thick : c.unsigned_abs.result ≡ nat_abs c.args.job.now.fields.layer = rw layer at c.unsigned_abs.ensures.value in
    let top = unit_coordinate c.args.job.now.fields.unit c.args.job.now.fields.top c.args.job.now.is_job.top_ok in
    let down : to_z w32 (lowering c.args.job.now.fields c.args.number) ≡ pos (lowering c.args.job.now.fields c.args.number) = to_z_pos w32 _ (small_number _ h.small) in
    rw (thick, top, down) (layer_height_fits c.args.job.now.fields c.args.number c.args.job.now.is_job h)

pub returns : goal.returns
returns c =
    let h : IsLowered c.args.job.now.fields c.args.number = is_lowered c.args.job.now.fields c.args.number c.args.job.now.is_job c.requires.layer_ok c.requires.number_ok in
    let layer = unit_coordinate c.args.job.now.fields.unit c.args.job.now.fields.layer (layer_within c.args.job.now.fields c.args.job.now.is_job) in
    let thick : c.unsigned_abs.result ≡ nat_abs c.args.job.now.fields.layer = rw layer at c.unsigned_abs.ensures.value in
    let top = unit_coordinate c.args.job.now.fields.unit c.args.job.now.fields.top c.args.job.now.is_job.top_ok in
    let down : to_z w32 (lowering c.args.job.now.fields c.args.number) ≡ pos (lowering c.args.job.now.fields c.args.number) = to_z_pos w32 _ (small_number _ h.small) in
    rw (thick, top, down, to_z-of_z w32 (c.args.job.now.fields.top -ℤ pos (lowering c.args.job.now.fields c.args.number)) (layer_height_fits c.args.job.now.fields c.args.number c.args.job.now.is_job h))
    (sym (layer_height_is c.args.job.now.fields c.args.number c.requires.layer_ok c.requires.number_ok))
