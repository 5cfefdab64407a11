-- What the code reads of a column is what the tests speak of: numbers in range are stored as they are.
use Rattle.std.specs.Prelude.{◌≡◌, ℕ, ◌<◌, ◌≤◌, ℤ, pos, nat_abs, ◌-ℤ◌, ◌≤ℤ◌, List, length, slice_index_or, refl}
use Rattle.std.proofs.Common.{[], ◌∷◌, FitsSigned, sym, ◌∙◌, ap, subst, arith}
use Rattle.std.proofs.lemmas.Int.{ints, clamps}
use Rattle.std.specs.Int.{int_min}
use mir.Syntax.{w32}
use Rattle.mill_base.specs.Numbers.{Within}
use Rattle.mill_base.specs.declared.limits.TheConstants.{MAX_COORDINATE}
use Rattle.mill_base.specs.Units.{greatest_of}
use Rattle.mill_base.specs.Covers.{Covered}
use Rattle.mill_base.specs.declared.points.Tri.{Tri}
use Rattle.mill_base.specs.declared.unit.Unit.{Unit}
use Rattle.mill_base.proofs.Machine.{Read, Diff, stored, kept, exact, diff_fits}
use Rattle.mill_base.proofs.Ranges.{coordinate, within_of_unit}
use Rattle.mill_job.specs.declared.fields.JobFields.{JobFields}
use Rattle.mill_job.specs.Jobs.{IsJob, IsFrom}
use Rattle.mill_job.specs.Columns.{IsColumn, column_x, column_y, column_count}
use Rattle.mill_dexel.specs.Tops.{Stock}
use Rattle.mill_dexel.specs.Rows.{RowState}
use Rattle.mill_dexel.specs.Stocks.{IsStockOf, ShowsRow}
use Rattle.mill_verify.specs.Tests.{IsCutOn}
use Rattle.mill_verify.specs.inner.Firsts.{IsMostWith, IsRowUncut}
use Rattle.mill_verify.proofs.Ranges.{stock_within}
use Rattle.mill_verify.proofs.Remaining.{IsCover}
use Rattle.mill_dexel.proofs.RowLaws.{length-row_tops, row_tops-at}

-- the tops of row j of a stock
pub record AreTops (job : JobFields) (stock : Stock) (j : ℕ) (tops : List ℤ) : Type 0 where
  pub count : length tops ≡ column_count job
  pub top : (i : ℕ) (other : ℤ) → i < column_count job → slice_index_or tops i other ≡ stock j i

pub tops_read : {job : JobFields} {stock : Stock} {j : ℕ} {row : RowState} {tops : List ℤ} → ShowsRow job stock j row → tops ≡ row.tops → AreTops job stock j tops
tops_read {job} {stock} {j} row same =
    let is = same ∙ row.after in
    record { count = ap length is ∙ length-row_tops job stock j; top = λ i other h. ap (λ (v : List ℤ). slice_index_or v i other) is ∙ row_tops-at job stock j i other h }

kept_to : (unit : Unit) (v z : ℤ) → v ≡ z → Within (greatest_of unit) v → stored w32 v ≡ z
kept_to unit v z e h = coordinate v (within_of_unit unit v h) ∙ e

-- a fact of three numbers that were stored
at_stored : (P : ℤ → ℤ → ℤ → Type 0) (x y t a b c : ℤ) → x ≡ a → y ≡ b → t ≡ c → P x y t → P a b c
at_stored P x y t a b c ex ey et p = subst (λ (v : ℤ). P a b v) et (subst (λ (v : ℤ). P a v t) ey (subst (λ (v : ℤ). P v y t) ex p))

band_in : (z : ℤ) → IsFrom (pos 0) (pos 10000) z → stored w32 z ≡ z
band_in z h = kept w32 z 10000 (small z h.low h.high) refl
  where
    small : (z : ℤ) → (pos 0) ≤ℤ z → z ≤ℤ pos 10000 → nat_abs z ≤ 10000
    small z low high = omega (arith, ints)

floor_in : {job : JobFields} → IsJob job → stored w32 job.floor ≡ job.floor
floor_in {job} ok = coordinate job.floor (within_of_unit job.unit job.floor ok.floor_ok)

pub cover_stored : {job : JobFields} {part : List Tri} {x y covered : ℤ} → IsJob job → Within MAX_COORDINATE x → Within MAX_COORDINATE y
    → ((h : ℤ) → (Covered part (stored w32 job.floor) (stored w32 job.band) (stored w32 x) (stored w32 y) h → h ≤ℤ covered)
    × (h ≤ℤ covered → Covered part (stored w32 job.floor) (stored w32 job.band) (stored w32 x) (stored w32 y) h))
    → IsCover part job.floor job.band x y covered
cover_stored {job} {part} {x} {y} {covered} ok x_ok y_ok h =
    subst (λ (b : ℤ). IsCover part job.floor b x y covered) (band_in job.band ok.band_ok)
    (at_stored (λ (a b c : ℤ). IsCover part a (stored w32 job.band) b c covered) _ _ _ job.floor x y (floor_in ok) (coordinate x x_ok) (coordinate y y_ok) (record { height = h }))

-- what is left of a column fits
pub left_fits : (top covered low : ℤ) → Within MAX_COORDINATE top → Within MAX_COORDINATE covered → low ≡ int_min (stored w32 top) (stored w32 covered) → FitsSigned w32 (stored w32 top -ℤ stored w32 low)
left_fits top covered low t_ok c_ok e =
    diff_fits w32 (top ∷ low ∷ []) (524287 ∷ 524287 ∷ []) (Read w32 0) (Read w32 1)
    (t_ok.within, (small top covered low t_ok.within c_ok.within (rw (coordinate top t_ok, coordinate covered c_ok) at e), tt)) refl
  where
    small : (t c m : ℤ) → nat_abs t ≤ 524287 → nat_abs c ≤ 524287 → m ≡ int_min t c → nat_abs m ≤ 524287
    small t c m h k e = omega (e, h, k, arith, ints, clamps)

-- the least of two numbers that a column may be left over is small
small_least : (most allowance low : ℤ) → (pos 0) ≤ℤ most → IsFrom (pos 0) (pos 10000) allowance → low ≡ int_min most (stored w32 allowance) → nat_abs low ≤ 10000
small_least most allowance low least ok e = by allowance ok.low ok.high (rw (band_in allowance ok) at e)
  where
    by : (a : ℤ) → (pos 0) ≤ℤ a → a ≤ℤ pos 10000 → low ≡ int_min most a → nat_abs low ≤ 10000
    by a h k e = omega (e, h, k, least, arith, ints, clamps)

-- a top less that fits
pub enough_fits : (top most allowance low : ℤ) → Within MAX_COORDINATE top → (pos 0) ≤ℤ most → IsFrom (pos 0) (pos 10000) allowance → low ≡ int_min most (stored w32 allowance)
    → FitsSigned w32 (stored w32 top -ℤ stored w32 low)
enough_fits top most allowance low t_ok least ok e =
    diff_fits w32 (top ∷ low ∷ []) (524287 ∷ 10000 ∷ []) (Read w32 0) (Read w32 1) (t_ok.within, (small_least most allowance low least ok e, tt)) refl

pub enough_stored : {job : JobFields} {part : List Tri} {x y top most low : ℤ} → IsJob job → Within MAX_COORDINATE x → Within MAX_COORDINATE y → Within MAX_COORDINATE top → (pos 0) ≤ℤ most
    → low ≡ int_min most (stored w32 job.allowance)
    → Covered part (stored w32 job.floor) (stored w32 job.band) (stored w32 x) (stored w32 y) (stored w32 (stored w32 top -ℤ stored w32 low))
    → Covered part job.floor job.band x y (top -ℤ int_min most job.allowance)
enough_stored {job} {part} {x} {y} {top} {most} {low} ok x_ok y_ok t_ok least e h =
    let enough = exact (top ∷ low ∷ []) (524287 ∷ 10000 ∷ []) (Diff w32 (Read w32 0) (Read w32 1)) (t_ok.within, (small_least most job.allowance low least ok.allowance_ok e, tt)) refl in
    let covered : Covered part job.floor job.band x y (top -ℤ low) = rw (floor_in ok, band_in job.band ok.band_ok, coordinate x x_ok, coordinate y y_ok, enough) at h in
    subst (λ (z : ℤ). Covered part job.floor job.band x y (top -ℤ z)) (rw (band_in job.allowance ok.allowance_ok) at e) covered

-- where and how high column i of row j stands, as the code has it
pub record IsAt (job : JobFields) (stock : Stock) (j i : ℕ) (x y top : ℤ) : Type 0 where
  pub x_is : stored w32 x ≡ column_x job i
  pub y_is : stored w32 y ≡ column_y job j
  pub top_is : stored w32 top ≡ stock j i

pub is_at : {job : JobFields} {stock : Stock} {j i : ℕ} {x y : ℤ} {tops : List ℤ} → IsJob job → IsStockOf job stock → AreTops job stock j tops → IsColumn job j i → x ≡ column_x job i → Within (greatest_of job.unit) x
    → y ≡ column_y job j → Within (greatest_of job.unit) y → IsAt job stock j i x y (slice_index_or tops i (pos 0))
is_at {job} {stock} {j} {i} {x} {y} ok of_job tops column ex x_ok ey y_ok = record {
  x_is = kept_to job.unit x _ ex x_ok;
  y_is = kept_to job.unit y _ ey y_ok;
  top_is = ap (stored w32) (tops.top i (pos 0) column.column) ∙ coordinate (stock j i) (stock_within ok (of_job j i column));
}

pub top_stored : {job : JobFields} {stock : Stock} {j i : ℕ} {x y top : ℤ} → IsJob job → IsStockOf job stock → IsColumn job j i → IsAt job stock j i x y top → Within MAX_COORDINATE (stored w32 top)
top_stored {job} {stock} {j} {i} ok of_job column at = subst (Within MAX_COORDINATE) (sym at.top_is) (stock_within ok (of_job j i column))

pub most_stored : {job : JobFields} {part : List Tri} {stock : Stock} {j i : ℕ} {x y top most next : ℤ} → IsAt job stock j i x y top
    → IsMostWith job part (stored w32 x) (stored w32 y) (stored w32 top) most next
    → IsMostWith job part (column_x job i) (column_y job j) (stock j i) most next
most_stored {job} {part} {most = most} {next = next} at h = at_stored (λ (a b c : ℤ). IsMostWith job part a b c most next) _ _ _ _ _ _ at.x_is at.y_is at.top_is h

pub uncut_stored : {job : JobFields} {part : List Tri} {stock : Stock} {j i : ℕ} {x y top : ℤ} → i < column_count job → ((e : ℕ) → e < i → IsCutOn job part stock j e) → IsAt job stock j i x y top
    → ¬ Covered part job.floor job.band (stored w32 x) (stored w32 y) (stored w32 top -ℤ job.allowance) → IsRowUncut job part stock j i (stored w32 top)
uncut_stored {job} {part} there first at h = record {
  column = there;
  first = first;
  fails = at_stored (λ (a b c : ℤ). ¬ Covered part job.floor job.band a b (c -ℤ job.allowance)) _ _ _ _ _ _ at.x_is at.y_is at.top_is h;
  shown = at.top_is;
}
