-- What the tests of files in turn come to, before the test of what is left.
use Rattle.std.specs.Prelude.{ℕ, ◌<◌, List, length}
use Rattle.mill_base.specs.declared.points.Tri.{Tri}
use Rattle.mill_job.specs.declared.fields.JobFields.{JobFields}
use Rattle.mill_dexel.specs.Rows.{RowState}
use Rattle.mill_dexel.specs.Stocks.{AreSame, ShowsStock}
use Rattle.mill_dexel.specs.Tops.{uncut}
use Rattle.mill_verify.specs.Files.{File, after_files, file_at, job_of, stock_before}
use Rattle.mill_verify.specs.Lists.{GoodFilesBefore}
use Rattle.mill_verify.specs.declared.start.Start.{Start}
use Rattle.mill_verify.specs.declared.verdict.Reason.{Reason}
use Rattle.mill_verify.specs.inner.Firsts.{IsStopped}
use Rattle.mill_verify.specs.inner.Readiness.{IsStart, stock_of}

-- the files before file n are good, and the stock that they leave is the one from which file n starts
pub record AreFilesPassedTo (job : JobFields) (part : List Tri) (files : List File) (n : ℕ) (start : Start) : Type 0 where
  pub good : GoodFilesBefore job part files n
  pub is_start : IsStart job start
  pub same : AreSame job (stock_of job start) (stock_before job files n)

-- all files are good, and the rows show the stock that they leave
pub record AreFilesPassed (job : JobFields) (part : List Tri) (files : List File) (rows : List RowState) : Type 0 where
  pub good : GoodFilesBefore job part files (length files)
  pub shows : ShowsStock job (after_files job (uncut job) files) rows

-- the files before this one are good, and a move of it is the first that fails
pub record IsFileStopped (job : JobFields) (part : List Tri) (files : List File) (f : ℕ) (reason : Reason) : Type 0 where
  pub there : f < length files
  pub before : GoodFilesBefore job part files f
  pub stops : IsStopped (job_of job (file_at files f)) part (stock_before job files f) (file_at files f).moves reason
