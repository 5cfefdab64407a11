-- What a document tells, as data of JSON.
use Rattle.std.specs.Prelude.{ℕ, ℤ, codes, List, [], ◌∷◌, ◌++◌, Option, None, Some}
use Rattle.std.specs.Str.Lossy.{utf8_lossy}
use Rattle.hex.specs.Hex.{encode_lower}
use Rattle.mill_base.specs.declared.points.Pt3.{Pt3}
use Rattle.mill_base.specs.declared.points.Tri.{Tri}
use Rattle.mill_base.specs.declared.unit.Unit.{Unit}
use Rattle.mill_base.specs.declared.unit.Unit.TheVariants.{Hundredth, Thousandth}
use Rattle.mill_decimal.specs.Decimals.{canonical}
use Rattle.mill_document.specs.declared.failure.Column.{Column}
use Rattle.mill_document.specs.declared.failure.Failure.{Failure}
use Rattle.mill_document.specs.declared.failure.Segment.{Segment}
use Rattle.mill_document.specs.declared.failure.Test.{Test}
use Rattle.mill_document.specs.declared.failure.Test.TheVariants as tests
use Rattle.mill_document.specs.declared.failure.Triangle.{Triangle}
use Rattle.mill_document.specs.declared.report.Summary.{Summary}
use Rattle.mill_document.specs.declared.report.Sums.{Sums}
use Rattle.serde_json.specs.Data.{Data, null, number, unsigned, string, array, object, Members, no_members, put}
use Rattle.serde_json.specs.View.{items_of}
use Rattle.serde_json.specs.Written.{compact_text}

-- ---- small parts

-- a whole number
abbrev pub whole : ℕ → Data
whole n = number (unsigned n)

-- a list
abbrev pub list_of : List Data → Data
list_of items = array (items_of items)

-- a length, in millimetres, as mill_decimal writes it
abbrev pub length_data : Unit → ℤ → Data
length_data unit units = string (canonical unit units)

-- a length, if there is one
abbrev pub length_or_null : Unit → Option ℤ → Data
length_or_null unit None = null
length_or_null unit (Some units) = length_data unit units

-- bytes as a text; those that aren't UTF-8 are told as U+FFFD
abbrev pub bytes_data : List ℕ → Data
bytes_data bytes = string (utf8_lossy bytes)

-- a checksum, in hexadecimal digits
abbrev pub sum_data : List ℕ → Data
sum_data sum = string (encode_lower sum)

-- a point, by its three coordinates
abbrev pub point_data : Unit → Pt3 → Data
point_data unit p = list_of (length_data unit p.x ∷ length_data unit p.y ∷ length_data unit p.z ∷ [])

-- ---- a move that fails

-- the name of a test
abbrev pub test_name : Test → List ℕ
test_name tests.Floor = codes "floor"
test_name tests.Gouge = codes "gouge"
test_name tests.Holder = codes "holder"
test_name tests.Fixture = codes "fixture"
test_name tests.HolderFixture = codes "holder-fixture"
test_name tests.Rapid = codes "rapid"
test_name tests.Cut = codes "cut"
test_name tests.HolderStock = codes "holder-stock"

-- the three corners of a triangle
abbrev pub corners_data : Unit → Tri → Data
corners_data unit t = list_of (point_data unit t.a ∷ point_data unit t.b ∷ point_data unit t.c ∷ [])

-- a triangle, by its number and its corners
abbrev pub triangle_data : Unit → Triangle → Data
triangle_data unit t = object (put (codes "corners") (corners_data unit t.corners) (put (codes "number") (whole t.number) no_members))

-- a triangle, if there is one
abbrev pub triangle_or_null : Unit → Option Triangle → Data
triangle_or_null unit None = null
triangle_or_null unit (Some t) = triangle_data unit t

-- what is told of a column, put among members
abbrev pub put_column : Unit → Column → Members → Members
put_column unit c members =
    put (codes "top") (length_data unit c.top)
    (put (codes "y") (length_data unit c.y)
    (put (codes "x") (length_data unit c.x)
    (put (codes "column") (whole c.column)
    (put (codes "row") (whole c.row) members))))

-- a column of the stock
abbrev pub column_data : Unit → Column → Data
column_data unit c = object (put_column unit c no_members)

-- a column, if there is one
abbrev pub column_or_null : Unit → Option Column → Data
column_or_null unit None = null
column_or_null unit (Some c) = column_data unit c

-- the segment, as its depth and its number
abbrev pub leaf_data : Option Segment → Data
leaf_data None = null
leaf_data (Some s) = list_of (whole s.depth ∷ whole s.number ∷ [])

-- its two ends
abbrev pub ends_data : Unit → Segment → Data
ends_data unit s = list_of (point_data unit s.from ∷ point_data unit s.to ∷ [])

-- both, if there is a segment
abbrev pub segment_data : Unit → Option Segment → Data
segment_data unit None = null
segment_data unit (Some s) = ends_data unit s

-- which move it is, where it stands, and which test it fails
abbrev pub put_place : List ℕ → Failure → Members → Members
put_place words f members =
    put (codes "test") (string (test_name f.test))
    (put (codes "words") (bytes_data words)
    (put (codes "line") (whole f.line)
    (put (codes "move") (whole f.number) members)))

-- what is in its way, where on the move, and how high it has to be lifted
abbrev pub put_obstacle : Unit → Failure → Members → Members
put_obstacle unit f members =
    put (codes "lift") (length_or_null unit f.lift)
    (put (codes "segment") (segment_data unit f.segment)
    (put (codes "leaf") (leaf_data f.segment)
    (put (codes "column") (column_or_null unit f.column)
    (put (codes "triangle") (triangle_or_null unit f.triangle) members))))

-- the number of the fixture in its way, which is told only where one is
abbrev pub put_fixture : Option ℕ → Members → Members
put_fixture None members = members
put_fixture (Some b) members = put (codes "box") (whole b) members

-- a move that fails, with the words of its line
abbrev pub failure_data : Unit → List ℕ → Failure → Data
failure_data unit words f = object (put_fixture f.fixture (put_obstacle unit f (put_place words f no_members)))

-- ---- the whole

-- one unit, in millimetres
abbrev pub unit_name : Unit → List ℕ
unit_name Hundredth = codes "0.01"
unit_name Thousandth = codes "0.001"

-- the three checksums, put among members
abbrev pub put_sums : Sums → Members → Members
put_sums sums members = put (codes "program") (sum_data sums.program) (put (codes "part") (sum_data sums.part) (put (codes "job") (sum_data sums.job) members))

-- the three checksums
abbrev pub sums_data : Sums → Data
sums_data sums = object (put_sums sums no_members)

-- how many columns are left too high, and those that are told of
abbrev pub too_high_data : ℕ → List Data → Data
too_high_data count columns = object (put (codes "columns") (list_of columns) (put (codes "count") (whole count) no_members))

-- the answer's line, and its status
abbrev pub put_answer : List ℕ → ℕ → Members → Members
put_answer line status members = put (codes "status") (whole status) (put (codes "line") (bytes_data line) members)

-- the checksums and the numbers
abbrev pub put_numbers : Sums → Summary → Members → Members
put_numbers sums s members =
    put (codes "left") (length_or_null s.unit s.left)
    (put (codes "columns") (whole s.columns)
    (put (codes "moves") (whole s.moves)
    (put (codes "unit") (string (unit_name s.unit))
    (put (codes "sha256") (sums_data sums) members))))

-- the moves that fail and the columns left too high
abbrev pub put_lists : ℕ → List Data → List Data → Members → Members
put_lists count failing left members = put (codes "left_too_high") (too_high_data count left) (put (codes "failing") (list_of failing) members)

-- the document of a verdict
abbrev pub report_data : List ℕ → Sums → Summary → List Data → List Data → Data
report_data line sums s failing left = object (put_lists s.too_high failing left (put_numbers sums s (put_answer line s.status no_members)))

-- the document of a refusal or a fault
abbrev pub fault_data : List ℕ → ℕ → Data
fault_data line status = object (put_answer line status no_members)

-- its text: with no space, and a line feed at the end
abbrev pub text_of : Data → List ℕ
text_of data_told = compact_text data_told ++ 10 ∷ []
