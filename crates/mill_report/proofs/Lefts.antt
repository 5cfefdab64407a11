-- The columns left too high, one after another.
use Rattle.std.specs.Prelude.{◌≡◌, ◌↔◌, ℕ, ◌+◌, ◌*◌, ◌<◌, ◌≤◌, ℤ, pos, nat_abs, ◌-ℤ◌, ◌≤ℤ◌, List, [], ◌∷◌, ◌++◌, length, slice_index_or, All, take, nat_lt, if◌then◌else◌, Bool, true, false, refl}
use Rattle.std.proofs.Common.{sym, ◌∙◌, ap, subst, ⊎_elim, arith}
use Rattle.std.proofs.lemmas.Int.{ints}
use Rattle.std.proofs.lemmas.List.{length_push, take-append-le, take_all}
use Rattle.std.proofs.lemmas.Bool.{cases_lt, cond_above, cond_below}
use mir.Syntax.{w32}
use Rattle.mill_base.specs.Numbers.{Within}
use Rattle.mill_base.specs.declared.limits.TheConstants.{MAX_COORDINATE}
use Rattle.mill_base.specs.Covers.{Covered}
use Rattle.mill_base.specs.declared.points.Tri.{Tri}
use Rattle.mill_base.proofs.Machine.{Read, Diff, stored, kept, exact}
use Rattle.mill_base.proofs.Ranges.{coordinate, within_of_unit}
use Rattle.mill_job.specs.declared.fields.JobFields.{JobFields}
use Rattle.mill_job.specs.Jobs.{IsJob, IsFrom}
use Rattle.mill_job.specs.Columns.{IsColumn, column_count, column_x, column_y, row_count}
use Rattle.mill_dexel.specs.Rows.{IsRowOf, RowState}
use Rattle.mill_dexel.specs.Stocks.{ShowsRow, ShowsStock}
use Rattle.mill_dexel.specs.Tops.{Stock}
use Rattle.mill_dexel.proofs.RowLaws.{row_tops-at}
use Rattle.mill_verify.specs.Tests.{IsCutOn}
use Rattle.mill_report.specs.Columns.{AreLeftTo, IsCutAt, IsLeftColumn, IsShownLeft, column_number}
use Rattle.mill_report.specs.inner.Lefts.{IsLeftTo, shown_more}
use Rattle.mill_report.specs.declared.left.LeftColumn.{LeftColumn}
use Rattle.mill_report.specs.declared.left.LeftColumns.{LeftColumns}
use Rattle.mill_report.specs.declared.left.TheConstants.{MAX_LEFT}
use Rattle.mill_report.proofs.Listed.{listing_bare, listing_more}
use Rattle.mill_report.proofs.Listings.{same_place}

small : (z : ℤ) → IsFrom (pos 0) (pos 10000) z → nat_abs z ≤ 10000
small z h = by z h.low h.high
  where
    by : (z : ℤ) → (pos 0) ≤ℤ z → z ≤ℤ pos 10000 → nat_abs z ≤ 10000
    by z low high = omega (arith, ints)

-- what the code asks of a column is what test (iv) speaks of
pub cut_stored : {job : JobFields} {part : List Tri} {x y top : ℤ} {P : Type 0} → IsJob job → Within MAX_COORDINATE x → Within MAX_COORDINATE y → Within MAX_COORDINATE top
    → (P ↔ Covered part (stored w32 job.floor) (stored w32 job.band) (stored w32 x) (stored w32 y) (stored w32 (stored w32 top -ℤ stored w32 job.allowance)))
    → (P ↔ Covered part job.floor job.band x y (top -ℤ job.allowance))
cut_stored {job} {part} {x} {y} {top} ok x_ok y_ok top_ok h =
    let floor = coordinate job.floor (within_of_unit job.unit job.floor ok.floor_ok) in
    let band = kept w32 job.band 10000 (small job.band ok.band_ok) refl in
    let enough = exact (top ∷ job.allowance ∷ []) (524287 ∷ 10000 ∷ []) (Diff w32 (Read w32 0) (Read w32 1)) (top_ok.within, (small job.allowance ok.allowance_ok, tt)) refl in
    rw (floor, band, coordinate x x_ok, coordinate y y_ok, enough) at h

-- a top of a row is in range
pub top_within : {job : JobFields} {z : ℤ} → IsJob job → IsFrom job.floor job.top z → Within MAX_COORDINATE z
top_within {job} {z} ok from = record { within = by job.floor job.top z (within_of_unit job.unit job.floor ok.floor_ok).within (within_of_unit job.unit job.top ok.top_ok).within from.low from.high }
  where
    by : (lo hi v : ℤ) → nat_abs lo ≤ MAX_COORDINATE → nat_abs hi ≤ MAX_COORDINATE → lo ≤ℤ v → v ≤ℤ hi → nat_abs v ≤ MAX_COORDINATE
    by lo hi v p q r s = omega (arith, ints)

-- what is shown after one more
take_less : {A : Type 0} (n : ℕ) (xs : List A) (x : A) (total : ℕ) (shown : List A) → total ≡ length xs → shown ≡ take n xs → (if nat_lt total n then shown ++ x ∷ [] else shown) ≡ take n (xs ++ x ∷ [])
take_less {A} n xs x total shown count first = ⊎_elim inside full (cases_lt total n)
  where
    inside : total < n → (if nat_lt total n then shown ++ x ∷ [] else shown) ≡ take n (xs ++ x ∷ [])
    inside less =
        let long = length_push xs x in
        sym (cond_below total n (shown ++ x ∷ []) shown less)
        ∙ ap (λ (ys : List A). ys ++ x ∷ []) (first ∙ take_all n xs (omega (less, count, arith)))
        ∙ sym (take_all n (xs ++ x ∷ []) (omega (less, count, long, arith)))

    full : n ≤ total → (if nat_lt total n then shown ++ x ∷ [] else shown) ≡ take n (xs ++ x ∷ [])
    full least = sym (cond_above total n (shown ++ x ∷ []) shown (take n (xs ++ x ∷ [])) least (take-append-le n xs (x ∷ []) (omega (least, count, arith)) ∙ sym first))

module _ (job : JobFields) (part : List Tri) (stock : Stock) where
  abbrev number : LeftColumn → ℕ
  number c = column_number job c.row c.col

  module _ (j i : ℕ) (column : IsColumn job j i) (old : LeftColumns) (h : IsLeftTo job part stock (column_number job j i) old) where
    next : column_number job j i + 1 ≡ column_number job j (i + 1)
    next = omega arith

    -- a column that is cut
    pub left_bare : IsCutOn job part stock j i → IsLeftTo job part stock (column_number job j (i + 1)) old
    left_bare cut = subst (λ (n : ℕ). IsLeftTo job part stock n old) next (record {
      left = h.left;
      are = listing_bare LeftColumn number (IsLeftColumn job part stock) (IsCutAt job part stock) (column_number job j i) h.left h.are (λ a b c e.
          let at = same_place job part stock j i a b column c e in
          subst (λ (k : ℕ). IsCutOn job part stock a k) at.1 (subst (λ (k : ℕ). IsCutOn job part stock k i) at.0 cut));
      first = h.first;
      count = h.count;
    })

    -- and one that is left too high
    pub left_more : (top : ℤ) (new : LeftColumns) → ¬ IsCutOn job part stock j i → top ≡ stock j i → new.shown.items ≡ shown_more old.total old.shown.items (record { row = j; col = i; top = top })
        → new.total ≡ old.total + 1 → IsLeftTo job part stock (column_number job j (i + 1)) new
    left_more top new fails is shown total =
        let c : LeftColumn = record { row = j; col = i; top = top } in
        let long = length_push h.left c in
        subst (λ (n : ℕ). IsLeftTo job part stock n new) next (record {
          left = h.left ++ c ∷ [];
          are = listing_more LeftColumn number (IsLeftColumn job part stock) (IsCutAt job part stock) (column_number job j i) h.left c h.are (record { column = column; fails = fails; shown = is }) refl;
          first = shown ∙ take_less MAX_LEFT h.left c old.total old.shown.items h.count h.first;
          count = let old_count = h.count in omega (total, old_count, long, arith);
        })

-- what the code reads of a column
module _ (job : JobFields) (rows : List RowState) (ok : IsJob job) (j i : ℕ) (row : RowState) (tops : List ℤ) (count : length rows ≡ row_count job) (column : IsColumn job j i) (read : row ≡ slice_index_or rows j row) (same : tops ≡ row.tops) where
  inside : j < length rows
  inside = let c = column.row in omega (c, count, arith)

  pub in_row : All (IsRowOf job) rows → i < length tops
  in_row rows_ok =
      let is : IsRowOf job row = subst (IsRowOf job) (sym read) (rows_ok j row inside) in
      let c = column.column in
      subst (λ (ts : List ℤ). i < length ts) (sym same) (let n = is.columns in omega (c, n, arith))

  pub top_from : All (IsRowOf job) rows → IsFrom job.floor job.top (slice_index_or tops i (pos 0))
  top_from rows_ok =
      let is : IsRowOf job row = subst (IsRowOf job) (sym read) (rows_ok j row inside) in
      let c = column.column in
      subst (λ (ts : List ℤ). IsFrom job.floor job.top (slice_index_or ts i (pos 0))) (sym same) (is.in_stock i (pos 0) (let n = is.columns in omega (c, n, arith)))

  pub top_is : (stock : Stock) → ShowsStock job stock rows → slice_index_or tops i (pos 0) ≡ stock j i
  top_is stock shows =
      let shown = subst (ShowsRow job stock j) (sym read) (shows.rows_ok j row column.row) in
      ap (λ (ts : List ℤ). slice_index_or ts i (pos 0)) (same ∙ shown.after) ∙ row_tops-at job stock j i (pos 0) column.column

-- test (iv) of the column that was read
pub column_cut : (job : JobFields) (part : List Tri) (stock : Stock) (j i : ℕ) (P : Type 0) (x y top : ℤ) → Within MAX_COORDINATE x → Within MAX_COORDINATE y → Within MAX_COORDINATE top
    → x ≡ column_x job i → y ≡ column_y job j → top ≡ stock j i → (P ↔ Covered part job.floor job.band (stored w32 x) (stored w32 y) (stored w32 top -ℤ job.allowance)) → (P ↔ IsCutOn job part stock j i)
column_cut job part stock j i P x y top x_ok y_ok top_ok ex ey et h =
    subst (λ (v : ℤ). P ↔ Covered part job.floor job.band (column_x job i) (column_y job j) (v -ℤ job.allowance)) (coordinate top top_ok ∙ et)
    (subst (λ (v : ℤ). P ↔ Covered part job.floor job.band (column_x job i) v (stored w32 top -ℤ job.allowance)) (coordinate y y_ok ∙ ey)
    (subst (λ (v : ℤ). P ↔ Covered part job.floor job.band v (stored w32 y) (stored w32 top -ℤ job.allowance)) (coordinate x x_ok ∙ ex) h))

pub stored_within : (z : ℤ) → Within MAX_COORDINATE z → Within MAX_COORDINATE (stored w32 z)
stored_within z ok = subst (Within MAX_COORDINATE) (sym (coordinate z ok)) ok

pub not_true : {b : Bool} → b ≡ false → b ≡ true → ⊥
not_true e f = cc

-- after the last row all columns are tested
pub left_all : (job : JobFields) (part : List Tri) (stock : Stock) (n : ℕ) (g : LeftColumns) → n ≡ row_count job → IsLeftTo job part stock (column_number job n 0) g → IsShownLeft job part stock g.shown.items g.total
left_all job part stock n g e h = record { left = h.left; are = subst (λ (k : ℕ). AreLeftTo job part stock k h.left) all h.are; first = h.first; count = h.count }
  where
    ends : (k : ℕ) → k + 0 ≡ k
    ends k = omega arith

    all : column_number job n 0 ≡ row_count job * column_count job
    all = ap (λ (k : ℕ). column_number job k 0) e ∙ ends (row_count job * column_count job)
