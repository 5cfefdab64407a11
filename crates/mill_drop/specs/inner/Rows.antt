-- The heights along a row.
use Rattle.std.specs.Prelude.{◌^◌, ◌<◌, ℤ, List, length, All}
use Rattle.mill_drop.specs.Drops.{IsToolHeight}

-- these are heights at the places of a row
pub record AreHeights (heights : List ℤ) : Type 0 where
  pub each : All IsToolHeight heights
  pub few : length heights < 2 ^ 21
