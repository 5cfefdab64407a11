use Rattle.std.proofs.Common.{◌≡◌, ◌-◌, sym}
use Rattle.std.specs.Prelude.{nat_abs, ◌-ℤ◌}
use Rattle.mill_links.proofs.Kept.{unit_coordinate}
use Rattle.mill_paths.proofs.LayerLemmas.{layer_within, length-layer_heights}
use Rattle.mill_paths.proofs.visits.layer_count.Goals as goal

pub returns : goal.returns
returns c =
    let top = unit_coordinate c.args.job.now.fields.unit c.args.job.now.fields.top c.args.job.now.is_job.top_ok in
    let floor = unit_coordinate c.args.job.now.fields.unit c.args.job.now.fields.floor c.args.job.now.is_job.floor_ok in
    let layer = unit_coordinate c.args.job.now.fields.unit c.args.job.now.fields.layer (layer_within c.args.job.now.fields c.args.job.now.is_job) in
    let height : c.abs_diff.result ≡ nat_abs (c.args.job.now.fields.top -ℤ c.args.job.now.fields.floor) = rw (top, floor) at c.abs_diff.ensures in
    let thick : c.unsigned_abs.result ≡ nat_abs c.args.job.now.fields.layer = rw layer at c.unsigned_abs.ensures.value in
    let less : c.saturating_sub.result ≡ c.abs_diff.result - 1 = c.saturating_sub.ensures in
    rw (less, height, thick) (sym (length-layer_heights c.args.job.now.fields c.requires))
