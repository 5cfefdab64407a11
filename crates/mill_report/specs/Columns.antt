-- All columns of a stock that are left too high.
use Rattle.std.specs.Prelude.{◌≡◌, ℕ, ◌+◌, ◌*◌, List, length, take}
use Rattle.mill_base.specs.declared.points.Tri.{Tri}
use Rattle.mill_base.specs.declared.motion.Move.{Move}
use Rattle.mill_job.specs.declared.fields.JobFields.{JobFields}
use Rattle.mill_job.specs.Columns.{IsColumn, column_count, row_count}
use Rattle.mill_dexel.specs.Tops.{Stock, stock_after, uncut}
use Rattle.mill_verify.specs.Tests.{IsCutOn}
use Rattle.mill_report.specs.Listings.{IsListing}
use Rattle.mill_report.specs.declared.left.LeftColumn.{LeftColumn}
use Rattle.mill_report.specs.declared.left.TheConstants.{MAX_LEFT}

-- the number of a column, row by row
abbrev pub column_number : JobFields → ℕ → ℕ → ℕ
column_number job j i = j * column_count job + i

-- the job has this column, test (iv) fails at it, and it has this top
pub record IsLeftColumn (job : JobFields) (part : List Tri) (stock : Stock) (left : LeftColumn) : Type 0 where
  pub column : IsColumn job left.row left.col
  pub fails : ¬ IsCutOn job part stock left.row left.col
  pub shown : left.top ≡ stock left.row left.col

-- the column of this number passes test (iv)
abbrev pub IsCutAt : JobFields → List Tri → Stock → ℕ → Type 0
IsCutAt job part stock k = (j i : ℕ) → IsColumn job j i → k ≡ column_number job j i → IsCutOn job part stock j i

-- the columns left too high of those before column n, in order, by row first: each other one of them is cut
abbrev pub AreLeftTo : JobFields → List Tri → Stock → ℕ → List LeftColumn → Type 0
AreLeftTo job part stock n left = IsListing LeftColumn (λ c. column_number job c.row c.col) (IsLeftColumn job part stock) (IsCutAt job part stock) n left

-- all columns left too high
abbrev pub AreLeft : JobFields → List Tri → Stock → List LeftColumn → Type 0
AreLeft job part stock left = AreLeftTo job part stock (row_count job * column_count job) left

-- the first of them, as many as are shown, and how many there are
pub record IsShownLeft (job : JobFields) (part : List Tri) (stock : Stock) (shown : List LeftColumn) (total : ℕ) : Type 0 where
  pub left : List LeftColumn
  pub are : AreLeft job part stock left
  pub first : shown ≡ take MAX_LEFT left
  pub count : total ≡ length left

-- so it is of the stock that the moves leave
abbrev pub IsLeftAfter : JobFields → List Tri → List Move → List LeftColumn → ℕ → Type 0
IsLeftAfter job part moves shown total = IsShownLeft job part (stock_after job (uncut job) moves) shown total
