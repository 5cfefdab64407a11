-- Bands in y within which some of a program's moves go, 64 by 64.
use Rattle.std.specs.Prelude.{◌≡◌, ℕ, ◌+◌, ◌*◌, ◌<◌, ◌≤◌, min, ℤ, ◌≤ℤ◌, List, length, slice_index_or}
use Rattle.mill_base.specs.declared.motion.Move.{Move}
use Rattle.mill_dexel.specs.declared.band.Band.{Band}
use Rattle.mill_dexel.specs.Turns.{move_at}

-- a program's moves, and how many of them, from the first on, bands are of
pub record Banded : Type 0 where
  pub moves : List Move
  pub count : ℕ

-- a move goes from low to high in y
pub record IsInBand (low high : ℤ) (m : Move) : Type 0 where
  pub from_low : low ≤ℤ m.from.y
  pub from_high : m.from.y ≤ℤ high
  pub to_low : low ≤ℤ m.to.y
  pub to_high : m.to.y ≤ℤ high

-- so does each of the moves that the band is of
abbrev pub IsBand : List Move → Band → Type 0
IsBand moves band = (k : ℕ) → band.first ≤ k → k < band.«end» → IsInBand band.low band.high (move_at moves k)

-- the band is number i of those that the first so many moves stand in, 64 by 64
pub record IsBandAt (moves : List Move) (count i : ℕ) (band : Band) : Type 0 where
  pub first : band.first ≡ i * 64
  pub «end» : band.«end» ≡ min (i * 64 + 64) count
  pub is_band : IsBand moves band

-- the bands are those from number 0 on, before n
pub record AreBandsTo (moves : List Move) (count n : ℕ) (bands : List Band) : Type 0 where
  pub number : length bands ≡ n
  pub each : (i : ℕ) (other : Band) → i < n → IsBandAt moves count i (slice_index_or bands i other)

-- the bands are all that the first so many moves stand in
pub record AreBands (moves : List Move) (count : ℕ) (bands : List Band) : Type 0 where
  pub there : count ≤ length moves
  pub enough : count ≤ length bands * 64
  pub are : AreBandsTo moves count (length bands) bands
