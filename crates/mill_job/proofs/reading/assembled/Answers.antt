use Rattle.std.proofs.Common.{refl}
use Rattle.mill_job.proofs.Stored.{most, stored_coordinate, stored_number}
use Rattle.mill_job.proofs.reading.assembled.Goals as goal

-- Each number is stored as it is.
pub returns : goal.returns
returns c =
    let unit = c.args.unit in
    let space = c.requires.space_ok in
    let measure = c.requires.measure_ok in
    let paths = c.requires.paths_ok in
    let extras = c.requires.extras_ok in
    rw (
      stored_coordinate unit space.floor_ok,
      stored_coordinate unit space.top_ok,
      stored_coordinate unit space.clear_ok,
      stored_number measure.pitch_ok (record { le = tt }) (record { le = tt }),
      stored_number measure.sample_ok (record { le = tt }) (record { le = tt }),
      stored_number measure.allowance_ok (record { le = tt }) (record { le = tt }),
      stored_number measure.band_ok (record { le = tt }) (record { le = tt }),
      stored_number paths.lift_ok (record { le = tt }) (record { le = tt }),
      stored_number paths.raster_ok (record { le = tt }) (record { le = tt }),
      stored_number paths.rough_raster_ok (record { le = tt }) (record { le = tt }),
      stored_number paths.layer_ok (record { le = tt }) (most unit),
      stored_number paths.rough_stock_ok (record { le = tt }) (record { le = tt }),
      stored_number extras.max_cut_ok (record { le = tt }) (most unit),
      stored_number extras.slack_ok (record { le = tt }) (record { le = tt }),
      stored_number extras.overcut_ok (record { le = tt }) (record { le = tt }),
    ) refl
