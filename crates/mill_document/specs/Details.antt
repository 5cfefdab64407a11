-- What is told of a finding, and of a column left too high.
use Rattle.std.specs.Prelude.{ℕ, ◌+◌, ◌^◌, ◌≤◌, ℤ, pos, List, [], ◌∷◌, length, Option, None, Some, option_map, slice_index_or, slice_range}
use Rattle.std.specs.Str.Lines.{strip_carriage_return}
use Rattle.mill_base.specs.Numbers.{round_half_up}
use Rattle.mill_base.specs.Points.{point_at, tri_at}
use Rattle.mill_base.specs.declared.motion.Move.{Move}
use Rattle.mill_base.specs.declared.points.Pt3.{Pt3}
use Rattle.mill_base.specs.declared.points.Tri.{Tri}
use Rattle.mill_dexel.specs.Tops.{Stock, uncut}
use Rattle.mill_dexel.specs.Turns.{move_at}
use Rattle.mill_document.specs.Documents.{failure_data}
use Rattle.mill_document.specs.declared.failure.Column.{Column}
use Rattle.mill_document.specs.declared.failure.Failure.{Failure}
use Rattle.mill_document.specs.declared.failure.Segment.{Segment}
use Rattle.mill_document.specs.declared.failure.Test.{Test}
use Rattle.mill_document.specs.declared.failure.Test.TheVariants as tests
use Rattle.mill_document.specs.declared.failure.Triangle.{Triangle}
use Rattle.mill_job.specs.Columns.{column_x, column_y}
use Rattle.mill_job.specs.declared.fields.JobFields.{JobFields}
use Rattle.mill_report.specs.Findings.{move_of}
use Rattle.mill_report.specs.declared.left.LeftColumn.{LeftColumn}
use Rattle.mill_ngc.specs.declared.place.LineSpan.{LineSpan}
use Rattle.mill_sweep.specs.Leaves.{end_of}
use Rattle.mill_sweep.specs.declared.leaf.Leaf.{Leaf}
use Rattle.mill_verify.specs.Tests.{stock_met}
use Rattle.mill_verify.specs.declared.verdict.Reason.{Reason}
use Rattle.mill_verify.specs.declared.verdict.Reason.TheVariants.{Floor, Gouge, Holder, Fixture, HolderFixture, Rapid, Cut, HolderStock, Left}
use Rattle.serde_json.specs.Data.{Data}

-- ---- what a reason names

-- the test; a column that is left too high is no test of a move, and no finding
abbrev pub test_of : Reason → Test
test_of (Floor k) = tests.Floor
test_of (Gouge k t leaf) = tests.Gouge
test_of (Holder k t leaf) = tests.Holder
test_of (Fixture k b leaf) = tests.Fixture
test_of (HolderFixture k b leaf) = tests.HolderFixture
test_of (Rapid k j i leaf) = tests.Rapid
test_of (Cut k j i leaf) = tests.Cut
test_of (HolderStock k j i leaf) = tests.HolderStock
test_of (Left j i top) = tests.Floor

-- the number of the triangle in the way
abbrev pub triangle_number : Reason → Option ℕ
triangle_number (Gouge k t leaf) = Some t
triangle_number (Holder k t leaf) = Some t
triangle_number _ = None

-- the number of the fixture in the way
abbrev pub fixture_number : Reason → Option ℕ
fixture_number (Fixture k b leaf) = Some b
fixture_number (HolderFixture k b leaf) = Some b
fixture_number _ = None

-- the numbers of the row and of the column in the way
abbrev pub column_numbers : Reason → Option (ℕ × ℕ)
column_numbers (Rapid k j i leaf) = Some (j, i)
column_numbers (Cut k j i leaf) = Some (j, i)
column_numbers (HolderStock k j i leaf) = Some (j, i)
column_numbers _ = None

-- the leaf that fails
abbrev pub leaf_of : Reason → Option Leaf
leaf_of (Floor k) = None
leaf_of (Gouge k t leaf) = Some leaf
leaf_of (Holder k t leaf) = Some leaf
leaf_of (Fixture k b leaf) = Some leaf
leaf_of (HolderFixture k b leaf) = Some leaf
leaf_of (Rapid k j i leaf) = Some leaf
leaf_of (Cut k j i leaf) = Some leaf
leaf_of (HolderStock k j i leaf) = Some leaf
leaf_of (Left j i top) = None

-- ---- the part, the stock and the move

abbrev pub triangle_at : List Tri → ℕ → Triangle
triangle_at part t = record { number = t; corners = tri_at part t }

abbrev pub triangle_of : List Tri → Reason → Option Triangle
triangle_of part reason = option_map (triangle_at part) (triangle_number reason)

-- a column of the job's, with this top
abbrev pub column_at : JobFields → ℕ → ℕ → ℤ → Column
column_at job j i top = record { row = j; column = i; x = column_x job i; y = column_y job j; top = top }

abbrev pub column_of : JobFields → ℤ → Reason → Option Column
column_of job top reason = option_map (λ c. column_at job c.0 c.1 top) (column_numbers reason)

-- the top in a stock of the column of these numbers, if there are any
abbrev pub shown_top : Stock → Option (ℕ × ℕ) → ℤ
shown_top stock None = pos 0
shown_top stock (Some c) = stock c.0 c.1

-- the top of the column in the way, as the moves before the finding's have left it
abbrev pub top_met : JobFields → List Move → Reason → ℤ
top_met job moves reason = shown_top (stock_met job (uncut job) moves (move_of reason)) (column_numbers reason)

-- where a move's tip is at k/2^d, each coordinate rounded to the nearest whole unit, halves up
abbrev pub point_on : Move → ℕ → ℕ → Pt3
point_on m d k = point_at (round_half_up (end_of m.from.x m.to.x d k) (2 ^ d)) (round_half_up (end_of m.from.y m.to.y d k) (2 ^ d)) (round_half_up (end_of m.from.z m.to.z d k) (2 ^ d))

-- a leaf of a move, with its two ends
abbrev pub segment_at : Move → Leaf → Segment
segment_at m leaf = record { depth = leaf.d; number = leaf.k; from = point_on m leaf.d leaf.k; to = point_on m leaf.d (leaf.k + 1) }

abbrev pub segment_of : Move → Reason → Option Segment
segment_of m reason = option_map (segment_at m) (leaf_of reason)

-- ---- a whole finding

-- the failure that a finding is, on this line, where the column in the way has this top, and with this lift
abbrev pub failure_of : JobFields → List Tri → List Move → Reason → ℕ → ℤ → Option ℤ → Failure
failure_of job part moves reason line top lift = record {
  number = move_of reason;
  line = line;
  test = test_of reason;
  triangle = triangle_of part reason;
  fixture = fixture_number reason;
  column = column_of job top reason;
  segment = segment_of (move_at moves (move_of reason)) reason;
  lift = lift;
}

-- the place of move k
abbrev pub place_at : List LineSpan → ℕ → LineSpan
place_at places k = slice_index_or places k (record { line = 0; start = 0; «end» = 0 })

-- the words of the line at a place, without its line end
abbrev pub words_at : List ℕ → LineSpan → List ℕ
words_at text place = strip_carriage_return (slice_range text place.start place.«end»)

-- what is told of a finding, by the places of the moves in the text, with this lift
abbrev pub told_of : JobFields → List Tri → List Move → List ℕ → List LineSpan → Reason → Option ℤ → Data
told_of job part moves text places reason lift =
    failure_data job.unit (words_at text (place_at places (move_of reason))) (failure_of job part moves reason (place_at places (move_of reason)).line (top_met job moves reason) lift)

-- and of all findings, each with its lift
abbrev pub failing_data : JobFields → List Tri → List Move → List ℕ → List LineSpan → List Reason → List (Option ℤ) → List Data
failing_data job part moves text places [] lifts = []
failing_data job part moves text places (reason ∷ found) [] = []
failing_data job part moves text places (reason ∷ found) (lift ∷ lifts) = told_of job part moves text places reason lift ∷ failing_data job part moves text places found lifts

-- a column left too high
abbrev pub left_column : JobFields → LeftColumn → Column
left_column job left = column_at job left.row left.col left.top

-- a place whose bytes stand in the text
pub record IsInText (text : List ℕ) (place : LineSpan) : Type 0 where
  pub order : place.start ≤ place.«end»
  pub inside : place.«end» ≤ length text
