-- Lists of runs that may overlap.
use Rattle.std.specs.Prelude.{◌↔◌, ℕ, ◌<◌, ◌≤◌, ℤ, ◌≤ℤ◌, List, length, slice_index_or, Contains}
use Rattle.mill_push.specs.declared.fiber.Run.{Run}
use Rattle.mill_push.specs.Runs.{StandsIn}

-- the run has a position, and lies from `from` to `to`
pub record IsSpan (from to : ℤ) (run : Run) : Type 0 where
  pub after : from ≤ℤ run.first
  pub some : run.first ≤ℤ run.last
  pub within : run.last ≤ℤ to

-- so does each run of the list
abbrev pub AreSpans : ℤ → ℤ → List Run → Type 0
AreSpans from to runs = (run : Run) → Contains runs run → IsSpan from to run

-- no run begins before an earlier one
abbrev pub AreOrdered : List Run → Type 0
AreOrdered runs = (i j : ℕ) (other : Run) → i ≤ j → j < length runs → (slice_index_or runs i other).first ≤ℤ (slice_index_or runs j other).first

-- each run of the list has a position from `from` to `to`, and the positions there that are blocked are those that stand in a run of the list
pub record AreStretches (Blocked : ℤ → Type 0) (from to : ℤ) (runs : List Run) : Type 0 where
  pub spans : AreSpans from to runs
  pub blocked : (v : ℤ) → from ≤ℤ v → v ≤ℤ to → Blocked v ↔ StandsIn runs v
