use Rattle.mill_job.proofs.WithCutter.{is_job_with}
use Rattle.mill_job.proofs.Stored.{most, stored_coordinate, stored_number}
use Rattle.mill_job.proofs.job.Job.with_cutter.Goals as goal

-- Each number is stored as it is, and the cutter fits.
pub new-requires : goal.new-requires
new-requires c =
    let job = c.args.self.now.fields in
    let ok = c.args.self.now.is_job in
    rw (
      stored_coordinate job.unit ok.floor_ok,
      stored_coordinate job.unit ok.top_ok,
      stored_coordinate job.unit ok.clear_ok,
      stored_number ok.pitch_ok (record { le = tt }) (record { le = tt }),
      stored_number ok.sample_ok (record { le = tt }) (record { le = tt }),
      stored_number ok.allowance_ok (record { le = tt }) (record { le = tt }),
      stored_number ok.band_ok (record { le = tt }) (record { le = tt }),
      stored_number ok.lift_ok (record { le = tt }) (record { le = tt }),
      stored_number ok.raster_ok (record { le = tt }) (record { le = tt }),
      stored_number ok.rough_raster_ok (record { le = tt }) (record { le = tt }),
      stored_number ok.layer_ok (record { le = tt }) (most job.unit),
      stored_number ok.rough_stock_ok (record { le = tt }) (record { le = tt }),
      stored_number ok.max_cut_ok (record { le = tt }) (most job.unit),
      stored_number ok.slack_ok (record { le = tt }) (record { le = tt }),
      stored_number ok.overcut_ok (record { le = tt }) (record { le = tt }),
    ) (is_job_with job c.args.cutter ok c.requires)
