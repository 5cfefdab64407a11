use Rattle.std.specs.Prelude.{ℕ, ◌<◌, ◌≤◌}
use Rattle.mill_dexel.specs.Bands.{IsInBand}
use Rattle.mill_dexel.specs.Turns.{move_at}
use Rattle.mill_dexel.proofs.band.band_of.Given as goal

abbrev pub invariant-loop-t : goal.invariant-loop-t
invariant-loop-t l = (k : ℕ) → l.first ≤ k → k < l.t → IsInBand l.low l.high (move_at l.moves k)
