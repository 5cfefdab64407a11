-- The whole stock, row by row: a further feed is tested at the rows in its reach, and a further move cuts these.
use Rattle.std.proofs.Common.{◌≡◌, ◌⊎◌, inl, inr, ℕ, zero, suc, ◌+◌, ◌<◌, ◌≤◌, refl, sym, subst, ap, ◌∙◌, length, get_or, arith}
use Rattle.std.specs.Prelude.{pos, List, [], ◌∷◌, ◌++◌, All, min, true, false, Option, Some, None, IfSome, is_some}
use Rattle.std.proofs.lemmas.Bool.{cases_lt}
use Rattle.std.proofs.lemmas.List.{get_or_default, get_or_append_left, length-append}
use Rattle.std.proofs.lemmas.List.Elements.{All-append}
use Rattle.std.proofs.Math.Seq.{get_or-append_seam}
use Rattle.mill_base.specs.Ranges.{MoveInRange}
use Rattle.mill_base.specs.declared.points.Pt3.{Pt3}
use Rattle.mill_base.specs.declared.motion.Move.{Move}
use Rattle.mill_base.specs.declared.motion.Kind.{Kind}
use Rattle.mill_base.specs.declared.motion.Kind.TheVariants.{Feed}
use Rattle.mill_job.specs.Solids.{inner_of, stock_solid_of}
use Rattle.mill_job.proofs.SolidFacts.{inner_ok, stock_solid_ok}
use Rattle.mill_job.specs.Jobs.{IsJob}
use Rattle.mill_job.specs.declared.fields.JobFields.{JobFields}
use Rattle.mill_job.specs.Columns.{IsColumn, row_count, column_count, column_y}
use Rattle.mill_sweep.specs.Solids.{SolidPassesPoint}
use Rattle.mill_sweep.specs.Reach.{margin_of}
use Rattle.mill_sweep.specs.declared.leaf.Leaf.{Leaf}
use Rattle.mill_dexel.specs.inner.Cuts.{IsBeyond, IsRowReach}
use Rattle.mill_dexel.specs.Tops.{IsTested, ClearsColumns, tested_point, row_after, tops_after_move}
use Rattle.mill_dexel.specs.Rows.{RowState, IsRowOf, cutting, IsFirstStop, PassesRow, row_point, uncut_row}
use Rattle.mill_dexel.specs.Stocks.{IsRow, IsStock}
use Rattle.mill_dexel.proofs.Beyond.{move_keeps}
use Rattle.mill_dexel.proofs.Reaches.{past_margin, stock_beyond}
use Rattle.mill_dexel.proofs.Trials.{far_passes_row}
use Rattle.mill_dexel.proofs.RowLaws.{row_after-at, row_after_more, turned_is_row}

-- a column's point at which a move of a kind is tested, by the row that it stands in
point_is : (job : JobFields) (kind : Kind) (done : List Move) (j i : ℕ) (r : RowState) → IsRow job done j r → i < column_count job → row_point job kind r i ≡ tested_point job kind done j i
point_is job kind done j i r is there = rw (is.number, is.after, row_after-at job j done i (pos 0) there) refl

-- a feed passes a row as low as it may cut it, if the depth of cut is limited
abbrev pub PassesDeep : JobFields → Move → RowState → Type 0
PassesDeep job m r = IsTested job Feed → PassesRow job (cutting job Feed m) r

-- so it does the rows from first on, before n
abbrev pub ArePassed : JobFields → Move → List RowState → ℕ → ℕ → Type 0
ArePassed job m rows first n = (j : ℕ) (other : RowState) → first ≤ j → j < n → PassesDeep job m (get_or rows j other)

-- a row out of a move's reach stands far away from it
out_of_reach : (job : JobFields) (m : Move) (first «end» j : ℕ) → IsRowReach job m.from.y m.to.y first «end» → j < row_count job → (j < first) ⊎ («end» ≤ j)
    → IsBeyond (margin_of (inner_of job).cutter) m.from.y m.to.y (column_y job j)
out_of_reach job m first «end» j reach there (inl before) = inl (reach.under j before)
out_of_reach job m first «end» j reach there (inr behind) = inr (reach.over j behind there)

module _ (job : JobFields) (m : Move) (done : List Move) (rows : List RowState) (first «end» n : ℕ) where
  -- where the rows in its reach are passed, so are all
  pub stock_passed : IsJob job → MoveInRange m → IsRowReach job m.from.y m.to.y first «end» → IsStock job done rows → («end» ≤ n) ⊎ (length rows ≤ n) → ArePassed job m rows first n
      → m.kind ≡ Feed → ClearsColumns job done m
  stock_passed ok range reach stock over passed feed =
      subst (λ (k : Kind). IsTested job k → (j i : ℕ) → IsColumn job j i → SolidPassesPoint (stock_solid_of job) m (tested_point job k done j i)) (sym feed)
      (λ tested j i column. by j i column (uncut_row job j) tested (cases_lt j first) (cases_lt j n))
    where
      by : (j i : ℕ) → IsColumn job j i → (other : RowState) → IsTested job Feed → (j < first) ⊎ (first ≤ j) → (j < n) ⊎ (n ≤ j) → SolidPassesPoint (stock_solid_of job) m (tested_point job Feed done j i)
      by j i column other tested under below =
          subst (λ (p : Pt3). SolidPassesPoint (stock_solid_of job) m p) (point_is job Feed done j i (get_or rows j other) is column.column) (row under below i column.column)
        where
          is : IsRow job done j (get_or rows j other)
          is = stock.rows_ok j other column.row

          far : IsBeyond (margin_of (inner_of job).cutter) m.from.y m.to.y (column_y job j) → PassesRow job (cutting job Feed m) (get_or rows j other)
          far beyond = far_passes_row job (cutting job Feed m) (get_or rows j other) (stock_solid_ok job ok) range
              (stock_beyond job m.from.y m.to.y (column_y job (get_or rows j other).row) ok (subst (λ (k : ℕ). IsBeyond (margin_of (inner_of job).cutter) m.from.y m.to.y (column_y job k)) (sym is.number) beyond))

          behind : n ≤ j → («end» ≤ n) ⊎ (length rows ≤ n) → «end» ≤ j
          behind h (inl l) = omega (arith, h, l)
          behind h (inr l) = absurd (omega (arith, h, l, stock.count, column.row))

          row : (j < first) ⊎ (first ≤ j) → (j < n) ⊎ (n ≤ j) → PassesRow job (cutting job Feed m) (get_or rows j other)
          row (inl h) below = far (out_of_reach job m first «end» j reach column.row (inl h))
          row (inr h) (inl l) = passed j other h l tested
          row (inr h) (inr l) = far (out_of_reach job m first «end» j reach column.row (inr (behind l over)))

-- the depth of cut is limited, and a feed cuts column i of a row too deep
pub record IsTooDeep (job : JobFields) (m : Move) (r : RowState) : Type 0 where
  pub i : ℕ
  pub column : i < column_count job
  pub limited : IsTested job Feed
  pub stops : ¬ SolidPassesPoint (stock_solid_of job) m (row_point job Feed r i)

-- a test of a row finds such a column, or none
pub none_found : (o : Option (ℕ × Leaf)) → is_some o ≡ false → o ≡ None
none_found None e = refl
none_found (Some s) e = cc

pub too_deep : (job : JobFields) (m : Move) (r : RowState) (o : Option (ℕ × Leaf)) → is_some o ≡ true → IfSome o (λ s. IsTested job Feed) → IfSome o (λ s. IsFirstStop job (cutting job Feed m) r s.0 s.1) → IsTooDeep job m r
too_deep job m r None e tested first = cc
too_deep job m r (Some s) e tested first = record { i = s.0; column = first.column; limited = tested; stops = first.fails.fails }

-- where a feed cuts a column of one of the stock's rows too deep, it doesn't pass each column
pub stock_stops : (job : JobFields) (m : Move) (done : List Move) (rows : List RowState) (j : ℕ) (r : RowState) → IsStock job done rows → j < length rows → r ≡ get_or rows j r → IsTooDeep job m r
    → m.kind ≡ Feed → ¬ ClearsColumns job done m
stock_stops job m done rows j r stock there read deep feed clears =
    deep.stops (subst (λ (p : Pt3). SolidPassesPoint (stock_solid_of job) m p) (sym (point_is job Feed done j deep.i r is deep.column))
    (subst (λ (k : Kind). IsTested job k → (j i : ℕ) → IsColumn job j i → SolidPassesPoint (stock_solid_of job) m (tested_point job k done j i)) feed clears deep.limited j deep.i (record { row = in_job; column = deep.column })))
  where
    in_job : j < row_count job
    in_job = subst (λ (n : ℕ). j < n) stock.count there

    is : IsRow job done j r
    is = subst (IsRow job done j) (sym read) (stock.rows_ok j r in_job)

this_one : (n j : ℕ) → n ≤ j → j < n + 1 → n ≡ j
this_one n j h l = omega (arith, h, l)

-- one row more is passed
pub passed_more : (job : JobFields) (m : Move) (rows : List RowState) (first n : ℕ) (r : RowState) → n < length rows → r ≡ get_or rows n r → PassesDeep job m r → ArePassed job m rows first n → ArePassed job m rows first (n + 1)
passed_more job m rows first n r there read passes so_far = λ j other from to. by j other (cases_lt j n) from to
  where
    by : (j : ℕ) (other : RowState) → (j < n) ⊎ (n ≤ j) → first ≤ j → j < n + 1 → PassesDeep job m (get_or rows j other)
    by j other (inl before) from to = so_far j other from before
    by j other (inr here) from to =
        subst (λ (k : ℕ). PassesDeep job m (get_or rows k other)) (this_one n j here to)
        (subst (PassesDeep job m) (read ∙ get_or_default rows n r other there) passes)

-- after the last of the rows there are, or of those in reach
pub passed_over : (count «end» last n : ℕ) → last ≡ min count «end» → last ≤ n → («end» ≤ n) ⊎ (count ≤ n)
passed_over count «end» last n e h = by (cases_lt count «end»)
  where
    by : (count < «end») ⊎ («end» ≤ count) → («end» ≤ n) ⊎ (count ≤ n)
    by (inl less) = inr (omega (arith, e, h, less))
    by (inr more) = inl (omega (arith, e, h, more))

-- ---- cuts

-- a row after one move more
abbrev pub cut_by : JobFields → Move → RowState → RowState
cut_by job m r = record r { tops = tops_after_move job r.row 0 m r.tops }

-- the rows from first on, before n, are cut by the move, and the others are as they were
pub record AreCutTo (job : JobFields) (m : Move) (first n : ℕ) (old new : List RowState) : Type 0 where
  pub count : length new ≡ length old
  pub cut : (j : ℕ) (other : RowState) → first ≤ j → j < n → j < length old → get_or new j other ≡ cut_by job m (get_or old j other)
  pub rest : (j : ℕ) (other : RowState) → (j < first) ⊎ (n ≤ j) → get_or new j other ≡ get_or old j other

-- the rows stay the job's
pub cut_are_rows : (job : JobFields) (m : Move) (first n : ℕ) (old new : List RowState) → AreCutTo job m first n old new → All (IsRowOf job) old → All (IsRowOf job) new
cut_are_rows job m first n old new cut rows = λ j other within. by j other (subst (λ (k : ℕ). j < k) cut.count within) (cases_lt j first) (cases_lt j n)
  where
    by : (j : ℕ) (other : RowState) → j < length old → (j < first) ⊎ (first ≤ j) → (j < n) ⊎ (n ≤ j) → IsRowOf job (get_or new j other)
    by j other there (inl h) below = subst (IsRowOf job) (sym (cut.rest j other (inl h))) (rows j other there)
    by j other there (inr h) (inl l) = turned_is_row job (get_or old j other) (get_or new j other) m (cut.cut j other h l there) (rows j other there)
    by j other there (inr h) (inr l) = subst (IsRowOf job) (sym (cut.rest j other (inr l))) (rows j other there)

module _ (job : JobFields) (m : Move) (first «end» n : ℕ) (old new : List RowState) (over : («end» ≤ n) ⊎ (length old ≤ n)) (cut : AreCutTo job m first n old new) where
  -- once the rows in the move's reach are cut, the stock is as after one move more
  pub stock_cut : IsJob job → IsRowReach job m.from.y m.to.y first «end» → (done : List Move) → IsStock job done old → IsStock job (done ++ m ∷ []) new
  stock_cut ok reach done stock = record {
    count = cut.count ∙ stock.count;
    rows_ok = λ j other there. row j other there (cases_lt j first) (cases_lt j n);
  }
    where
      more : (j : ℕ) → row_after job j (done ++ m ∷ []) ≡ tops_after_move job j 0 m (row_after job j done)
      more j = row_after_more job j done m

      far : (j : ℕ) (other : RowState) → j < row_count job → (j < first) ⊎ («end» ≤ j) → get_or new j other ≡ get_or old j other → IsRow job (done ++ m ∷ []) j (get_or new j other)
      far j other there out same =
          let is = stock.rows_ok j other there in
          subst (IsRow job (done ++ m ∷ []) j) (sym same) (record {
            number = is.number;
            after = is.after
                ∙ move_keeps job j m (row_after job j done) (inner_ok job ok).cutter_ok (past_margin (inner_of job).cutter m.from.y m.to.y (column_y job j) (out_of_reach job m first «end» j reach there out))
                ∙ sym (more j);
          })

      near : (j : ℕ) (other : RowState) → j < row_count job → get_or new j other ≡ cut_by job m (get_or old j other) → IsRow job (done ++ m ∷ []) j (get_or new j other)
      near j other there e =
          let is = stock.rows_ok j other there in
          subst (IsRow job (done ++ m ∷ []) j) (sym e) (record {
            number = is.number;
            after = rw (is.number, is.after) (sym (more j));
          })

      behind : (j : ℕ) → j < row_count job → n ≤ j → («end» ≤ n) ⊎ (length old ≤ n) → «end» ≤ j
      behind j there h (inl l) = omega (arith, h, l)
      behind j there h (inr l) = absurd (omega (arith, h, l, stock.count, there))

      row : (j : ℕ) (other : RowState) → j < row_count job → (j < first) ⊎ (first ≤ j) → (j < n) ⊎ (n ≤ j) → IsRow job (done ++ m ∷ []) j (get_or new j other)
      row j other there (inl h) below = far j other there (inl h) (cut.rest j other (inl h))
      row j other there (inr h) (inl l) = near j other there (cut.cut j other h l (subst (λ (k : ℕ). j < k) (sym stock.count) there))
      row j other there (inr h) (inr l) = far j other there (inr (behind j there l over)) (cut.rest j other (inr l))

-- ---- the uncut stock

-- the rows are the uncut stock's from the first on, before row n
pub record AreUncutTo (job : JobFields) (n : ℕ) (rows : List RowState) : Type 0 where
  pub count : length rows ≡ n
  pub uncut : (j : ℕ) (other : RowState) → j < n → get_or rows j other ≡ uncut_row job j
  pub rows_ok : All (IsRowOf job) rows

-- one row more
pub uncut_more : (job : JobFields) (n : ℕ) (rows : List RowState) (r : RowState) → AreUncutTo job n rows → IsRowOf job r → r ≡ uncut_row job n → AreUncutTo job (n + 1) (rows ++ r ∷ [])
uncut_more job n rows r so_far is_row is = record {
  count = length-append rows (r ∷ []) ∙ ap (λ (k : ℕ). k + 1) so_far.count;
  uncut = λ j other below. by j other (cases_lt j n) below;
  rows_ok = All-append (IsRowOf job) rows (r ∷ []) so_far.rows_ok (one r is_row);
}
  where
    one : (r : RowState) → IsRowOf job r → All (IsRowOf job) (r ∷ [])
    one r h zero d there = h
    one r h (suc k) d there = absurd (omega (arith, there))

    by : (j : ℕ) (other : RowState) → (j < n) ⊎ (n ≤ j) → j < n + 1 → get_or (rows ++ r ∷ []) j other ≡ uncut_row job j
    by j other (inl before) below = get_or_append_left rows (r ∷ []) other j (subst (λ (k : ℕ). j < k) (sym so_far.count) before) ∙ so_far.uncut j other before
    by j other (inr here) below =
        subst (λ (k : ℕ). get_or (rows ++ r ∷ []) k other ≡ uncut_row job k) (this_one n j here below)
        (subst (λ (k : ℕ). get_or (rows ++ r ∷ []) k other ≡ uncut_row job n) so_far.count (get_or-append_seam rows r [] other ∙ is))

-- all of them are the stock before the first move
pub stock_uncut : (job : JobFields) (n : ℕ) (rows : List RowState) → n ≡ row_count job → AreUncutTo job n rows → IsStock job [] rows
stock_uncut job n rows all so_far = record {
  count = so_far.count ∙ all;
  rows_ok = λ j other there. subst (IsRow job [] j) (sym (so_far.uncut j other (subst (λ (k : ℕ). j < k) (sym all) there))) (record { number = refl; after = refl });
}
