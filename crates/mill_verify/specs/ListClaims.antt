-- What accepted files do, at every fraction of every move.
use Rattle.std.specs.Prelude.{ℕ, ◌<◌, List, [], ◌∷◌, ◌++◌, Contains, length, take}
use Rattle.mill_base.specs.declared.points.Pt3.{Pt3}
use Rattle.mill_base.specs.declared.points.Tri.{Tri}
use Rattle.mill_job.specs.declared.fields.JobFields.{JobFields}
use Rattle.mill_job.specs.Solids.{inner_of}
use Rattle.mill_dexel.specs.Removed.{IsRemovedBy}
use Rattle.mill_verify.specs.Claims.{AreCovered, HolderKeepsClearOf, KeepsDepthOn, KeepsOut, KeepsPart, NeverGouges, Points, PointsMet, RapidsMiss, column_point}
use Rattle.mill_verify.specs.Files.{File, file_at, job_of, stock_before}

-- some move of a file removes the whole point p for sure, with the file's cutter
pub record IsRemovedByFile (job : JobFields) (files : List File) (p : Pt3) : Type 0 where
  pub file : File
  pub member : Contains files file
  pub removed : IsRemovedBy (inner_of (job_of job file)) file.moves p

-- the column points that no move of the files removes for sure
abbrev pub left_by : JobFields → List File → Points
left_by job files = λ j i h. ¬ IsRemovedByFile job files (column_point job j i h)

-- the files before file f, and of it the moves before move k
abbrev pub files_to : List File → ℕ → ℕ → List File
files_to files f k = take f files ++ record { cutter = (file_at files f).cutter; moves = take k (file_at files f).moves } ∷ []

-- the column points that may be left as each move of file f meets them
abbrev pub met_by : JobFields → List File → ℕ → PointsMet
met_by job files f = λ k. left_by job (files_to files f k)

-- the moves of file f, with its cutter: none gouges the part, nor takes what is at or under it; no Rapid takes a column point that all moves before it may have
-- left, but for the graze; where the job limits the depth of cut, none cuts deeper; the holder, if there is one, touches neither the part nor what all moves
-- before may have left; and neither touches a fixture
pub record FileCutsSafely (job : JobFields) (part : List Tri) (files : List File) (f : ℕ) : Type 0 where
  pub gouges : NeverGouges (job_of job (file_at files f)) part (file_at files f).moves
  pub kept : KeepsPart (job_of job (file_at files f)) part (file_at files f).moves
  pub rapids : RapidsMiss (job_of job (file_at files f)) (file_at files f).moves (met_by job files f)
  pub depth : KeepsDepthOn (job_of job (file_at files f)) (stock_before job files f) (file_at files f).moves
  pub holder : HolderKeepsClearOf (job_of job (file_at files f)) part (file_at files f).moves (met_by job files f)
  pub fixtures : KeepsOut (job_of job (file_at files f)) (file_at files f).moves

-- so each file cuts; and every column point that all of them may leave is covered
pub record FilesCutSafely (job : JobFields) (part : List Tri) (files : List File) : Type 0 where
  pub each : (f : ℕ) → f < length files → FileCutsSafely job part files f
  pub covered : AreCovered job part (left_by job files)
