-- The tops that the moves of findings meet, one after another.
use Rattle.std.proofs.Common.{◌≡◌, ℕ, ◌+◌, ◌<◌, ◌≤◌, List, [], ◌∷◌, ◌++◌, length, get_or, map, take, sym, ap, subst, ◌∙◌, arith}
use Rattle.std.proofs.lemmas.List.{get_or_default, map_more}
use Rattle.std.proofs.lemmas.Int.{ints}
use Rattle.std.specs.Int.{w32}
use Rattle.std.specs.Prelude.{All, AllPairs, ℤ, pos, nat_abs, ◌≤ℤ◌}
use Rattle.mill_base.specs.Numbers.{Within}
use Rattle.mill_base.specs.declared.limits.TheConstants.{MAX_COORDINATE}
use Rattle.mill_base.proofs.Machine.{stored}
use Rattle.mill_base.proofs.Ranges.{coordinate, within_of_unit}
use Rattle.mill_base.specs.declared.motion.Move.{Move}
use Rattle.mill_base.specs.declared.points.Tri.{Tri}
use Rattle.mill_document.specs.Details.{column_numbers, shown_top, top_met}
use Rattle.mill_dexel.proofs.RowLaws.{row_tops-at}
use Rattle.mill_dexel.specs.Rows.{IsRowOf, RowState}
use Rattle.mill_dexel.specs.Stocks.{ShowsRow, ShowsStock}
use Rattle.mill_dexel.specs.Tops.{Stock, uncut}
use Rattle.mill_job.specs.Columns.{IsColumn, row_count}
use Rattle.mill_job.specs.Jobs.{IsFrom, IsJob}
use Rattle.mill_job.specs.declared.fields.JobFields.{JobFields}
use Rattle.mill_report.specs.Findings.{IsFinding, move_of}
use Rattle.mill_verify.specs.Tests.{stock_met}
use Rattle.mill_verify.specs.declared.verdict.Reason.{Reason}

-- one top more
pub met_more : (job : JobFields) (moves : List Move) (found : List Reason) (index : ℕ) (reason : Reason) (tops : List ℤ) (top : ℤ) → index < length found
    → tops ≡ map (top_met job moves) (take index found) → top ≡ top_met job moves (get_or found index reason) → tops ++ top ∷ [] ≡ map (top_met job moves) (take (index + 1) found)
met_more job moves found index reason tops top there are is =
    ap (λ (ts : List ℤ). ts ++ top ∷ []) are
    ∙ ap (λ (t : ℤ). map (top_met job moves) (take index found) ++ t ∷ []) is
    ∙ sym (map_more (top_met job moves) found index reason there)

-- the next findings are of later moves
pub later : (found : List Reason) (index : ℕ) (reason : Reason) → AllPairs (λ a b. move_of a < move_of b) found → (k : ℕ) (other : Reason) → index + 1 ≤ k → k < length found
    → move_of (get_or found index reason) ≤ move_of (get_or found k other)
later found index reason order k other high there =
    let here : index < length found = omega arith in
    let less : move_of (get_or found index other) < move_of (get_or found k other) = order index k other (omega arith) there in
    subst (λ (r : Reason). move_of r ≤ move_of (get_or found k other)) (get_or_default found index other reason here) (omega arith)

-- what the code reads of a column
module _ (job : JobFields) (rows : List RowState) (j i : ℕ) (row : RowState) (tops : List ℤ) (count : length rows ≡ row_count job) (column : IsColumn job j i) (read : row ≡ get_or rows j row) (same : tops ≡ row.tops) where
  inside : j < length rows
  inside = let c = column.row in omega (c, count, arith)

  pub in_row : All (IsRowOf job) rows → i < length tops
  in_row rows_ok =
      let is : IsRowOf job row = subst (IsRowOf job) (sym read) (rows_ok j row inside) in
      let c = column.column in
      subst (λ (ts : List ℤ). i < length ts) (sym same) (let n = is.columns in omega (c, n, arith))

  pub top_from : All (IsRowOf job) rows → IsFrom job.floor job.top (get_or tops i (pos 0))
  top_from rows_ok =
      let is : IsRowOf job row = subst (IsRowOf job) (sym read) (rows_ok j row inside) in
      let c = column.column in
      subst (λ (ts : List ℤ). IsFrom job.floor job.top (get_or ts i (pos 0))) (sym same) (is.in_stock i (pos 0) (let n = is.columns in omega (c, n, arith)))

  pub top_is : (stock : Stock) → ShowsStock job stock rows → get_or tops i (pos 0) ≡ stock j i
  top_is stock shows =
      let shown = subst (ShowsRow job stock j) (sym read) (shows.rows_ok j row column.row) in
      ap (λ (ts : List ℤ). get_or ts i (pos 0)) (same ∙ shown.after) ∙ row_tops-at job stock j i (pos 0) column.column

-- a top of a row is in range
pub top_within : {job : JobFields} {z : ℤ} → IsJob job → IsFrom job.floor job.top z → Within MAX_COORDINATE z
top_within {job} {z} ok from = record { within = by job.floor job.top z (within_of_unit job.unit job.floor ok.floor_ok).within (within_of_unit job.unit job.top ok.top_ok).within from.low from.high }
  where
    by : (lo hi v : ℤ) → nat_abs lo ≤ MAX_COORDINATE → nat_abs hi ≤ MAX_COORDINATE → lo ≤ℤ v → v ≤ℤ hi → nat_abs v ≤ MAX_COORDINATE
    by lo hi v p q r s = omega (arith, ints)

pub stored_within : (z : ℤ) → Within MAX_COORDINATE z → Within MAX_COORDINATE (stored w32 z)
stored_within z ok = subst (Within MAX_COORDINATE) (sym (coordinate z ok)) ok

-- a finding's move is one of the program's
pub inside_of : (job : JobFields) (part : List Tri) (moves : List Move) (found : List Reason) (index : ℕ) (reason : Reason) → All (IsFinding job part moves) found → index < length found
    → move_of (get_or found index reason) ≤ length moves
inside_of job part moves found index reason each here = let there = (each index reason here).there in omega arith

-- what the code reads is the top that the finding's move meets
pub met_is : (job : JobFields) (moves : List Move) (found : List Reason) (index next : ℕ) (reason : Reason) (top : ℤ) → next ≡ move_of (get_or found index reason)
    → top ≡ shown_top (stock_met job (uncut job) moves next) (column_numbers (get_or found index reason)) → top ≡ top_met job moves (get_or found index reason)
met_is job moves found index next reason top next_is is =
    is ∙ ap (λ (k : ℕ). shown_top (stock_met job (uncut job) moves k) (column_numbers (get_or found index reason))) next_is
