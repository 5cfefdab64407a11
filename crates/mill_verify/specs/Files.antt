-- Files whose moves are made in turn on one stock, each with its own cutter.
use Rattle.std.specs.Prelude.{◌≡◌, ℕ, ◌≤◌, pos, ◌≤ℤ◌, List, [], fold, length, take, slice_index_or}
use Rattle.mill_base.specs.Motion.{Follow}
use Rattle.mill_base.specs.Ranges.{MovesInRange}
use Rattle.mill_base.specs.declared.cutter.Cutter.{Cutter}
use Rattle.mill_base.specs.declared.cutter.Cutter.TheVariants.{Flat}
use Rattle.mill_base.specs.declared.limits.TheConstants.{MAX_MOVES}
use Rattle.mill_base.specs.declared.motion.Move.{Move}
use Rattle.mill_base.specs.declared.points.Pt3.{Pt3}
use Rattle.mill_job.specs.declared.fields.JobFields.{JobFields}
use Rattle.mill_job.specs.declared.habits.Start.TheVariants as start
use Rattle.mill_job.specs.Columns.{home}
use Rattle.mill_job.specs.Jobs.{FitsJob}
use Rattle.mill_dexel.specs.Tops.{Stock, stock_after, uncut}

-- the moves of a file, and the cutter that makes them
pub record File : Type 0 where
  pub cutter : Cutter
  pub moves : List Move

-- the job with a file's cutter in the place of its own
abbrev pub job_of : JobFields → File → JobFields
job_of job file = record job { cutter = file.cutter }

-- the moves follow on each other from a place: from home, or from any no lower where the job's programs start elsewhere
pub record GoOn (job : JobFields) (moves : List Move) : Type 0 where
  pub from : Pt3
  pub over : job.clear ≤ℤ from.z
  pub at_home : job.start ≡ start.Home → from ≡ home job
  pub follow : Follow from moves

-- the job's relations hold with the file's cutter; the moves are in range, follow on each other as the job says, and are at most as many as there may be
pub record IsFileOf (job : JobFields) (file : File) : Type 0 where
  pub fits : FitsJob job file.cutter
  pub moves_ok : MovesInRange file.moves
  pub follow : GoOn job file.moves
  pub few : length file.moves ≤ MAX_MOVES

-- a file has no more moves than there may be
abbrev pub HasFewMoves : File → Type 0
HasFewMoves file = length file.moves ≤ MAX_MOVES

-- file f; there is none past the end, so what stands there is never looked at
abbrev pub file_at : List File → ℕ → File
file_at files f = slice_index_or files f (record { cutter = Flat (pos 1); moves = [] })

-- a stock after one file more
abbrev pub after_file : JobFields → Stock → File → Stock
after_file job stock file = stock_after (job_of job file) stock file.moves

-- a stock after files in turn
abbrev pub after_files : JobFields → Stock → List File → Stock
after_files job stock files = fold (after_file job) stock files

-- the uncut stock after the files before file f
abbrev pub stock_before : JobFields → List File → ℕ → Stock
stock_before job files f = after_files job (uncut job) (take f files)
