use Rattle.std.proofs.Common.{refl}
use Rattle.mill_part.proofs.Stored.{less_band, more_band}
use Rattle.mill_part.proofs.near.Column.area.Goals as goal

pub returns : goal.returns
returns c =
    let s = c.args.self in
    rw (
      less_band s.x s.band s.x_ok s.band_least s.band_most,
      less_band s.y s.band s.y_ok s.band_least s.band_most,
      more_band s.x s.band s.x_ok s.band_least s.band_most,
      more_band s.y s.band s.y_ok s.band_least s.band_most,
    ) refl
