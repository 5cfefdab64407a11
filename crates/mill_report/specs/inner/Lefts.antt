-- The columns left too high, as they are gathered.
use Rattle.std.specs.Prelude.{◌≡◌, ℕ, List, [], ◌∷◌, ◌++◌, length, take, nat_lt, if◌then◌else◌}
use Rattle.mill_base.specs.declared.points.Tri.{Tri}
use Rattle.mill_job.specs.declared.fields.JobFields.{JobFields}
use Rattle.mill_dexel.specs.Tops.{Stock}
use Rattle.mill_report.specs.Columns.{AreLeftTo}
use Rattle.mill_report.specs.declared.left.LeftColumn.{LeftColumn}
use Rattle.mill_report.specs.declared.left.LeftColumns.{LeftColumns}
use Rattle.mill_report.specs.declared.left.TheConstants.{MAX_LEFT}

-- those that are shown after one more of so many
abbrev pub shown_more : ℕ → List LeftColumn → LeftColumn → List LeftColumn
shown_more total shown column = if nat_lt total MAX_LEFT then shown ++ column ∷ [] else shown

-- so many of the first are shown of the columns left too high before column n, and all are counted
pub record IsLeftTo (job : JobFields) (part : List Tri) (stock : Stock) (n : ℕ) (gathered : LeftColumns) : Type 0 where
  pub left : List LeftColumn
  pub are : AreLeftTo job part stock n left
  pub first : gathered.shown.items ≡ take MAX_LEFT left
  pub count : gathered.total ≡ length left
