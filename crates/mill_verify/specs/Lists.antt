-- The verdict on files in turn on one stock: the first failing test, or that there is none.
use Rattle.std.specs.Prelude.{◌≡◌, ℕ, ◌<◌, ◌*◌, ℤ, List, [], ◌∷◌, length, sum_by}
use Rattle.mill_base.specs.declared.points.Tri.{Tri}
use Rattle.mill_job.specs.declared.fields.JobFields.{JobFields}
use Rattle.mill_job.specs.Columns.{IsColumn, row_count, column_count}
use Rattle.mill_dexel.specs.Tops.{uncut}
use Rattle.mill_verify.specs.Files.{File, after_files, file_at, job_of, stock_before}
use Rattle.mill_verify.specs.Tests.{GoodBeforeOn, IsCutOn}
use Rattle.mill_verify.specs.Verdicts.{IsFirstUncut, IsMostLeftOn, IsOfMove, IsRejectionOn, IsVerdict}
use Rattle.mill_verify.specs.declared.list.ListVerdict.{ListVerdict}
use Rattle.mill_verify.specs.declared.list.ListVerdict.TheVariants as list
use Rattle.mill_verify.specs.declared.verdict.Reason.{Reason}
use Rattle.mill_verify.specs.declared.verdict.Reason.TheVariants.{Floor, Gouge, Holder, Fixture, HolderFixture, Rapid, Cut, HolderStock, Left}
use Rattle.mill_verify.specs.declared.verdict.Verdict.{Verdict}
use Rattle.mill_verify.specs.declared.verdict.Verdict.TheVariants.{Accept, Reject}

-- every move of file f is good with its cutter, from the stock on that the files before it left
abbrev pub IsGoodFile : JobFields → List Tri → List File → ℕ → Type 0
IsGoodFile job part files f = GoodBeforeOn (job_of job (file_at files f)) part (stock_before job files f) (file_at files f).moves (length (file_at files f).moves)

-- so is every file before file f
abbrev pub GoodFilesBefore : JobFields → List Tri → List File → ℕ → Type 0
GoodFilesBefore job part files f = (e : ℕ) → e < f → IsGoodFile job part files e

-- all files before file f are good, and a move of it is rejected with its cutter, from the stock on that they left
pub record RejectsFile (job : JobFields) (part : List Tri) (files : List File) (f : ℕ) (reason : Reason) : Type 0 where
  pub there : f < length files
  pub before : GoodFilesBefore job part files f
  pub of_move : IsOfMove reason
  pub rejects : IsRejectionOn (job_of job (file_at files f)) part (stock_before job files f) (file_at files f).moves reason

-- all files are good, and test (iv) fails first at column (j, i) of the stock that they leave, with this top
pub record LeavesUncut (job : JobFields) (part : List Tri) (files : List File) (j i : ℕ) (top : ℤ) : Type 0 where
  pub good : GoodFilesBefore job part files (length files)
  pub first : IsFirstUncut job part (after_files job (uncut job) files) j i top

-- how many moves there are in all files
abbrev pub moves_in : List File → ℕ
moves_in files = sum_by (λ file. length file.moves) files

-- all files are good, every column of the stock that they leave is cut, and these are the numbers of files, of all their moves and of columns and what is left at most
pub record AcceptsFiles (job : JobFields) (part : List Tri) (files : List File) (count moves columns : ℕ) (left : ℤ) : Type 0 where
  pub good : GoodFilesBefore job part files (length files)
  pub cut : (j i : ℕ) → IsColumn job j i → IsCutOn job part (after_files job (uncut job) files) j i
  pub all_files : count ≡ length files
  pub all_moves : moves ≡ moves_in files
  pub all_columns : columns ≡ row_count job * column_count job
  pub most : IsMostLeftOn job part (after_files job (uncut job) files) left

-- the verdict on the files: their first failing test, or their acceptance
abbrev pub IsListVerdict : JobFields → List Tri → List File → ListVerdict → Type 0
IsListVerdict job part files (list.Accept count moves columns left) = AcceptsFiles job part files count moves columns left
IsListVerdict job part files (list.Reject f reason) = RejectsFile job part files f reason
IsListVerdict job part files (list.Left j i top) = LeavesUncut job part files j i top

-- ---- laws

-- a job, a part and a list of files have at most one verdict
abbrev pub OneListVerdict : Type 0
OneListVerdict = (job : JobFields) (part : List Tri) (files : List File) (v w : ListVerdict) → IsListVerdict job part files v → IsListVerdict job part files w → v ≡ w

-- a verdict on a program, as one on a list of one file
abbrev pub of_reason : Reason → ListVerdict
of_reason (Floor k) = list.Reject 0 (Floor k)
of_reason (Gouge k t leaf) = list.Reject 0 (Gouge k t leaf)
of_reason (Holder k t leaf) = list.Reject 0 (Holder k t leaf)
of_reason (Fixture k b leaf) = list.Reject 0 (Fixture k b leaf)
of_reason (HolderFixture k b leaf) = list.Reject 0 (HolderFixture k b leaf)
of_reason (Rapid k j i leaf) = list.Reject 0 (Rapid k j i leaf)
of_reason (Cut k j i leaf) = list.Reject 0 (Cut k j i leaf)
of_reason (HolderStock k j i leaf) = list.Reject 0 (HolderStock k j i leaf)
of_reason (Left j i top) = list.Left j i top

abbrev pub of_verdict : Verdict → ListVerdict
of_verdict (Accept count columns left) = list.Accept 1 count columns left
of_verdict (Reject reason) = of_reason reason

-- for one file the verdict on the list is that on its program, for the job with its cutter
abbrev pub AloneIsVerdict : Type 0
AloneIsVerdict = (job : JobFields) (part : List Tri) (file : File) (v : ListVerdict) (w : Verdict) → IsListVerdict job part (file ∷ []) v → IsVerdict (job_of job file) part file.moves w → v ≡ of_verdict w
