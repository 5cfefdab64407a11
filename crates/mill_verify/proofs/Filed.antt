-- Files in turn: each starts from the stock that those before it leave.
use Rattle.std.specs.Prelude.{◌≡◌, ℕ, ◌+◌, ◌<◌, ◌≤◌, List, [], ◌∷◌, All, length, take, Option, Some, None, IfSome, slice_index_or, refl}
use Rattle.std.proofs.Common.{sym, ◌∙◌, ap, subst, inl, inr, arith}
use Rattle.std.proofs.lemmas.Bool.{cases_lt}
use Rattle.std.proofs.lemmas.List.{get_or_default, take_all}
use Rattle.std.proofs.lemmas.List.Sums.{fold_more}
use Rattle.mill_base.specs.declared.motion.Move.{Move}
use Rattle.mill_base.specs.declared.points.Tri.{Tri}
use Rattle.mill_base.specs.Ranges.{MovesInRange}
use Rattle.mill_base.specs.declared.limits.TheConstants.{MAX_MOVES}
use Rattle.mill_job.specs.declared.fields.JobFields.{JobFields}
use Rattle.mill_job.specs.Columns.{IsColumn}
use Rattle.mill_job.specs.Jobs.{IsJob}
use Rattle.mill_dexel.specs.Rows.{RowState}
use Rattle.mill_dexel.specs.Stocks.{AreSame, IsStockOf, ShowsStock}
use Rattle.mill_dexel.specs.Tops.{Stock, uncut}
use Rattle.mill_dexel.proofs.SameStocks.{shown_same, shows_same}
use Rattle.mill_dexel.proofs.TopLaws.{stock_stays, uncut_stays}
use Rattle.mill_verify.specs.Files.{File, IsFileOf, after_file, after_files, file_at, job_of, stock_before}
use Rattle.mill_verify.specs.Lists.{GoodFilesBefore, IsGoodFile}
use Rattle.mill_verify.specs.declared.start.Start.{Start}
use Rattle.mill_verify.specs.declared.verdict.Reason.{Reason}
use Rattle.mill_verify.specs.inner.Firsts.{ArePassed, IsStopped}
use Rattle.mill_verify.specs.inner.Listed.{AreFilesPassed, AreFilesPassedTo, IsFileStopped}
use Rattle.mill_verify.specs.inner.Readiness.{AreJobRows, IsStart, rows_at, start_stock, stock_of}
use Rattle.mill_verify.proofs.Mounted.{each_some}
use Rattle.mill_verify.proofs.SameTests.{same_passed, same_stopped}
use Rattle.mill_verify.proofs.Starts.{shown_rows}

-- the file that the code reads
pub file_read : (files : List File) (n : ℕ) (d : File) → n < length files → slice_index_or files n d ≡ file_at files n
file_read files n d there = get_or_default files n d _ there

pub file_ok : (job : JobFields) (files : List File) (n : ℕ) → All (IsFileOf job) files → n < length files → IsFileOf job (file_at files n)
file_ok job files n all there = all n _ there

-- what is said of columns, stocks and rows is said of them whatever the cutter
module _ (job : JobFields) (file : File) where
  pub column_as : {j i : ℕ} → IsColumn job j i → IsColumn (job_of job file) j i
  column_as c = record { row = c.row; column = c.column }

  pub column_back : {j i : ℕ} → IsColumn (job_of job file) j i → IsColumn job j i
  column_back c = record { row = c.row; column = c.column }

  pub stock_as : (stock : Stock) → IsStockOf job stock → IsStockOf (job_of job file) stock
  stock_as stock of_job j i c = of_job j i (column_back c)

  stock_back : (stock : Stock) → IsStockOf (job_of job file) stock → IsStockOf job stock
  stock_back stock of_job j i c = of_job j i (column_as c)

  shows_as : (stock : Stock) (rows : List RowState) → ShowsStock job stock rows → ShowsStock (job_of job file) stock rows
  shows_as stock rows h = record { count = h.count; rows_ok = λ j other there. let r = h.rows_ok j other there in record { number = r.number; after = r.after } }

  shows_back : (stock : Stock) (rows : List RowState) → ShowsStock (job_of job file) stock rows → ShowsStock job stock rows
  shows_back stock rows h = record { count = h.count; rows_ok = λ j other there. let r = h.rows_ok j other there in record { number = r.number; after = r.after } }

  rows_as : (rows : List RowState) → AreJobRows job rows → AreJobRows (job_of job file) rows
  rows_as rows h = record { shows = shows_as _ rows h.shows; tops_ok = stock_as _ h.tops_ok }

  pub start_as : (start : Start) → IsStart job start → IsStart (job_of job file) start
  start_as start = each_some (AreJobRows job) (AreJobRows (job_of job file)) (rows_at start) rows_as

  start_same : (rows : Option (List RowState)) (stock : Stock) → AreSame job (start_stock job rows) stock → AreSame (job_of job file) (start_stock (job_of job file) rows) stock
  start_same None stock same j i c = same j i (column_back c)
  start_same (Some rows) stock same j i c = same j i (column_back c)

-- the tops stay the job's
pub files_stay : (job : JobFields) (stock : Stock) (files : List File) → IsStockOf job stock → IsStockOf job (after_files job stock files)
files_stay job stock [] of_job = of_job
files_stay job stock (file ∷ files) of_job =
    files_stay job (after_file job stock file) files (stock_back job file (after_file job stock file) (stock_stays (job_of job file) stock file.moves (stock_as job file stock of_job)))

pub before_stays : (job : JobFields) (files : List File) (n : ℕ) → IsJob job → IsStockOf job (stock_before job files n)
before_stays job files n ok = files_stay job (uncut job) (take n files) (uncut_stays job ok.stock)

-- before the first file the stock is uncut
pub none_passed : (job : JobFields) (part : List Tri) (files : List File) (start : Start) → rows_at start ≡ None → AreFilesPassedTo job part files 0 start
none_passed job part files start at = record {
  good = λ e under. absurd (omega (under, arith));
  is_start = subst (λ (rows : Option (List RowState)). IfSome rows (AreJobRows job)) (sym at) tt;
  same = subst (λ (rows : Option (List RowState)). AreSame job (start_stock job rows) (stock_before job files 0)) (sym at) (λ j i c. refl);
}

module _ (job : JobFields) (part : List Tri) (files : List File) (n : ℕ) (ok : IsJob job) (there : n < length files) where
  -- file n, and the job with its cutter
  abbrev file : File
  file = file_at files n

  abbrev its : JobFields
  its = job_of job file

  before_more : stock_before job files (n + 1) ≡ after_file job (stock_before job files n) file
  before_more = fold_more (after_file job) (uncut job) files n _ there

  good_more : GoodFilesBefore job part files n → IsGoodFile job part files n → GoodFilesBefore job part files (n + 1)
  good_more before here e under = elim (cases_lt e n) [
    | inl less ↦ before e less
    | inr rest ↦ subst (IsGoodFile job part files) (same e rest under) here
  ]
    where
      same : (e : ℕ) → n ≤ e → e < n + 1 → n ≡ e
      same e low high = omega (low, high, arith)

  module _ (start : Start) (so_far : AreFilesPassedTo job part files n start) where
    from : AreSame its (stock_of its start) (stock_before job files n)
    from = start_same job file (rows_at start) (stock_before job files n) so_far.same

    -- once all its moves have passed, the next file starts from what they leave
    pub file_passed : (rows : List RowState) (new : Start) → rows_at new ≡ Some rows → ArePassed its part (stock_of its start) file.moves rows → AreFilesPassedTo job part files (n + 1) new
    file_passed rows new at passed =
        let on = same_passed its part (stock_of its start) (stock_before job files n) file.moves from rows passed in
        let shows : ShowsStock job (stock_before job files (n + 1)) rows =
        subst (λ (stock : Stock). ShowsStock job stock rows) (sym before_more) (shows_back job file (after_file job (stock_before job files n) file) rows on.shows) in
        record {
          good = good_more so_far.good on.good;
          is_start = subst (λ (o : Option (List RowState)). IfSome o (AreJobRows job)) (sym at) (shown_rows job (stock_before job files (n + 1)) rows (before_stays job files (n + 1) ok) shows);
          same = subst (λ (o : Option (List RowState)). AreSame job (start_stock job o) (stock_before job files (n + 1))) (sym at) (shown_same job (stock_before job files (n + 1)) rows shows);
        }

    -- and where one fails, the list is rejected by it
    pub file_stopped : (reason : Reason) → IsStopped its part (stock_of its start) file.moves reason → IsFileStopped job part files n reason
    file_stopped reason stopped = record {
      there = there;
      before = so_far.good;
      stops = same_stopped its part (stock_of its start) (stock_before job files n) file.moves from reason stopped;
    }

-- the same by the names that the code has for the file, its job and its moves
module _ (job : JobFields) (part : List Tri) (files : List File) (n : ℕ) (ok : IsJob job) (there : n < length files) (start : Start) (so_far : AreFilesPassedTo job part files n start)
    (file : File) (its : JobFields) (moves : List Move) (read : file ≡ slice_index_or files n file) (its_is : its ≡ job_of job file) (are : moves ≡ file.moves) where
  file_is : file ≡ file_at files n
  file_is = read ∙ file_read files n file there

  pub starts_so : IsStart its start
  starts_so = subst (λ (v : JobFields). IsStart v start) (sym its_is) (start_as job file start so_far.is_start)

  -- its moves are those of a file of the job
  pub moves_so : All (IsFileOf job) files → MovesInRange moves × (length moves ≤ MAX_MOVES)
  moves_so all =
      let its_ok = file_ok job files n all there in
      let same : moves ≡ (file_at files n).moves = are ∙ ap (λ (f : File). f.moves) file_is in
      rw same (its_ok.moves_ok, its_ok.few)

  by_name : (P : JobFields → List Move → Type 0) → P its moves → P (job_of job (file_at files n)) (file_at files n).moves
  by_name P p =
      subst (λ (f : File). P (job_of job f) f.moves) file_is
      (subst (λ (ms : List Move). P (job_of job file) ms) are (subst (λ (v : JobFields). P v moves) its_is p))

  pub passed_so : (rows : List RowState) (new : Start) → rows_at new ≡ Some rows → ArePassed its part (stock_of its start) moves rows → AreFilesPassedTo job part files (n + 1) new
  passed_so rows new at passed = file_passed job part files n ok there start so_far rows new at (by_name (λ v ms. ArePassed v part (stock_of v start) ms rows) passed)

  pub stopped_so : (reason : Reason) → IsStopped its part (stock_of its start) moves reason → IsFileStopped job part files n reason
  stopped_so reason stopped = file_stopped job part files n ok there start so_far reason (by_name (λ v ms. IsStopped v part (stock_of v start) ms reason) stopped)

-- after the last file the rows are what all files leave
pub all_passed : (job : JobFields) (part : List Tri) (files : List File) (n : ℕ) (start : Start) (rows : List RowState) → n ≡ length files → AreFilesPassedTo job part files n start → ShowsStock job (stock_of job start) rows
    → AreFilesPassed job part files rows
all_passed job part files n start rows all so_far shows = record {
  good = subst (GoodFilesBefore job part files) all so_far.good;
  shows = subst (λ (stock : Stock). ShowsStock job stock rows) (ap (after_files job (uncut job)) (take_all n files (omega (all, arith)))) (shows_same job (stock_of job start) (stock_before job files n) so_far.same rows shows);
}
