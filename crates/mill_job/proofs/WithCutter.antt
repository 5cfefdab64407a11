-- A job with another cutter.
use Rattle.mill_base.specs.declared.cutter.Cutter.{Cutter}
use Rattle.mill_job.specs.Jobs.{FitsJob, IsJob}
use Rattle.mill_job.specs.declared.fields.JobFields.{JobFields}
use Rattle.mill_job.proofs.Room.{holder_room_with, room_with}

-- with a cutter that fits in the place of its own, a job is one
pub is_job_with : (job : JobFields) (cutter : Cutter) → IsJob job → FitsJob job cutter → IsJob (record job { cutter = cutter })
is_job_with job cutter ok fits = record {
  cutter_ok = fits.cutter_ok;
  floor_ok = ok.floor_ok;
  top_ok = ok.top_ok;
  clear_ok = ok.clear_ok;
  x0_ok = ok.x0_ok;
  y0_ok = ok.y0_ok;
  x1_ok = ok.x1_ok;
  y1_ok = ok.y1_ok;
  home_ok = ok.home_ok;
  pitch_ok = ok.pitch_ok;
  sample_ok = ok.sample_ok;
  allowance_ok = ok.allowance_ok;
  band_ok = ok.band_ok;
  x_order = ok.x_order;
  y_order = ok.y_order;
  stock = ok.stock;
  over_stock = ok.over_stock;
  few = ok.few;
  narrow = fits.narrow;
  lift_ok = ok.lift_ok;
  raster_ok = ok.raster_ok;
  rough_raster_ok = ok.rough_raster_ok;
  layer_ok = ok.layer_ok;
  rough_stock_ok = ok.rough_stock_ok;
  layers = ok.layers;
  levels_ok = ok.levels_ok;
  max_cut_ok = ok.max_cut_ok;
  holder_ok = ok.holder_ok;
  stickout = ok.stickout;
  wider = fits.wider;
  path_tol_ok = ok.path_tol_ok;
  slack_ok = ok.slack_ok;
  overcut_ok = ok.overcut_ok;
  graze_ok = ok.graze_ok;
  peck_clearance_ok = ok.peck_clearance_ok;
  arc_tol_ok = ok.arc_tol_ok;
  keep_out_ok = ok.keep_out_ok;
  room = room_with job cutter cutter fits.room;
  holder_room = holder_room_with job cutter ok.holder_room;
  away = ok.away;
  arc_room = ok.arc_room;
}
