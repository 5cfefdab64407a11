-- What a row, and rows, need for their turns.
use Rattle.std.specs.Prelude.{◌≡◌, ℕ, ◌<◌, ◌≤◌, List, length, None, All}
use Rattle.mill_base.specs.Ranges.{MovesInRange}
use Rattle.mill_base.specs.declared.limits.TheConstants.{MAX_WORKERS}
use Rattle.mill_base.specs.declared.motion.Move.{Move}
use Rattle.mill_job.specs.declared.fields.JobFields.{JobFields}
use Rattle.mill_job.specs.Jobs.{IsJob}
use Rattle.mill_dexel.specs.Rows.{RowState, IsRowOf}

-- the row hasn't failed, and move t is its next one
pub record IsNext (moves : List Move) (r : RowState) (t : ℕ) : Type 0 where
  pub unfailed : r.failed ≡ None
  pub next : t ≡ r.done
  pub there : t < length moves

-- the rows are some of the job's, the moves are in range, and the workers are no more than there may be
pub record AreReady (job : JobFields) (moves : List Move) (workers : ℕ) (rows : List RowState) : Type 0 where
  pub job_ok : IsJob job
  pub moves_ok : MovesInRange moves
  pub rows_ok : All (IsRowOf job) rows
  pub few : workers ≤ MAX_WORKERS
