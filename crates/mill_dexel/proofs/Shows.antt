-- What the moves before one have left of a row of a stock.
use Rattle.std.specs.Prelude.{◌≡◌, ℕ, ◌-◌, ℤ, List, [], ◌∷◌, ◌++◌, take, refl, slice_range}
use Rattle.std.proofs.Common.{sym, ◌∙◌, ap, arith}
use Rattle.std.proofs.lemmas.List.{append-nil, append_assoc}
use Rattle.mill_base.specs.declared.motion.Move.{Move}
use Rattle.mill_job.specs.declared.fields.JobFields.{JobFields}
use Rattle.mill_dexel.specs.Rows.{fresh_row}
use Rattle.mill_dexel.specs.Stocks.{ShowsRow}
use Rattle.mill_dexel.specs.Tops.{Stock, row_tops, stock_after}
use Rattle.mill_dexel.specs.Turns.{row_before, tops_after}
use Rattle.mill_dexel.proofs.RowLaws.{row_tops_more}

module _ (job : JobFields) (start : Stock) (j : ℕ) where
  -- move by move, the tops after some moves become those after more
  tops_from : (before ms : List Move) → tops_after job j ms (row_tops job (stock_after job start before) j) ≡ row_tops job (stock_after job start (before ++ ms)) j
  tops_from before [] = ap (λ (ms : List Move). row_tops job (stock_after job start ms) j) (sym (append-nil before))
  tops_from before (m ∷ ms) =
      ap (λ (ts : List ℤ). tops_after job j ms ts) (sym (row_tops_more job start j before m))
      ∙ tops_from (before ++ m ∷ []) ms
      ∙ ap (λ (all : List Move). row_tops job (stock_after job start all) j) (append_assoc before (m ∷ []) ms)

  -- the row as move k meets it shows the stock that the moves before k leave
  pub met_shows : (moves : List Move) (k : ℕ) → ShowsRow job (stock_after job start (take k moves)) j (row_before job moves (fresh_row job start j) k)
  met_shows moves k = record {
    number = refl;
    after = tops_from [] (slice_range moves 0 k) ∙ ap (λ (n : ℕ). row_tops job (stock_after job start (take n moves)) j) same;
  }
    where
      same : k - 0 ≡ k
      same = omega arith
