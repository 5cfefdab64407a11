-- The data of a document has no float.
use Rattle.std.proofs.Common.{◌≡◌, ℕ, ℤ, List, [], ◌∷◌, map, Bool, false, Option, None, Some, Ordering, Less, Equal, Greater, codes, refl}
use Rattle.std.proofs.lemmas.Bool.{or_parts}
use Rattle.std.proofs.lemmas.List.Elements.{recursion_from_All}
use Rattle.std.specs.Prelude.{All, ◌||◌}
use Rattle.std.specs.List.{AllByRecursion}
use Rattle.std.specs.Cmp.Lexicographic.{slice_cmp}
use Rattle.std.specs.Ordering.{nat_cmp, match_ordering}
use Rattle.mill_base.specs.declared.unit.Unit.{Unit}
use Rattle.mill_document.specs.declared.failure.Column.{Column}
use Rattle.mill_document.specs.declared.failure.Failure.{Failure}
use Rattle.mill_document.specs.declared.failure.Segment.{Segment}
use Rattle.mill_document.specs.declared.failure.Triangle.{Triangle}
use Rattle.mill_document.specs.declared.report.Summary.{Summary}
use Rattle.mill_document.specs.declared.report.Sums.{Sums}
use Rattle.mill_document.specs.Documents.{bytes_data, column_data, column_or_null, corners_data, failure_data, leaf_data, length_data, length_or_null, list_of, put_answer, put_column, put_fixture, put_lists, put_numbers, put_obstacle, put_place, put_sums, report_data, segment_data, sum_data, sums_data, test_name, too_high_data, triangle_or_null, unit_name, whole}
use Rattle.serde_json.specs.Data.{Data, string, Members, no_members, member, put}
use Rattle.serde_json.specs.View.{items_of, view}
use Rattle.serde_json.specs.Written.{has_float, items_have_float, members_have_float}
use Rattle.serde_json.specs.declared.value.Value.{Value}

neither : (a b : Bool) → a ≡ false → b ≡ false → (a || b) ≡ false
neither a b no_a no_b = rw (no_a, no_b) refl

at_order : (o : Ordering) (a b c : Members) → members_have_float a ≡ false → members_have_float b ≡ false → members_have_float c ≡ false → members_have_float (match_ordering o a b c) ≡ false
at_order Less a b c no_a no_b no_c = no_a
at_order Equal a b c no_a no_b no_c = no_b
at_order Greater a b c no_a no_b no_c = no_c

-- none of the members has a float
pub record NoFloat (ms : Members) : Type 0 where
  pub none : members_have_float ms ≡ false

put_plain : (k : List ℕ) (d : Data) (ms : Members) → has_float d ≡ false → members_have_float ms ≡ false → members_have_float (put k d ms) ≡ false
put_plain k d no_members no_d no_ms = neither (has_float d) false no_d refl
put_plain k d (member l e ms) no_d no_ms =
    let parts = or_parts (has_float e) (members_have_float ms) no_ms in
    at_order (slice_cmp nat_cmp k l) (member k d (member l e ms)) (member l d ms) (member l e (put k d ms))
    (neither (has_float d) (members_have_float (member l e ms)) no_d no_ms)
    (neither (has_float d) (members_have_float ms) no_d parts.1)
    (neither (has_float e) (members_have_float (put k d ms)) parts.0 (put_plain k d ms no_d parts.1))

-- a member more, without a float
plain_put : (k : List ℕ) (d : Data) {ms : Members} → has_float d ≡ false → NoFloat ms → NoFloat (put k d ms)
plain_put k d {ms} no_d no_ms = record { none = put_plain k d ms no_d no_ms.none }

no_float : NoFloat no_members
no_float = record { none = refl }

plain_items_by : (vs : List Value) → AllByRecursion (λ v. has_float (view v) ≡ false) vs → items_have_float (items_of (map view vs)) ≡ false
plain_items_by [] all = refl
plain_items_by (v ∷ vs) all = neither (has_float (view v)) (items_have_float (items_of (map view vs))) all.0 (plain_items_by vs all.1)

pub plain_items : (vs : List Value) → All (λ v. has_float (view v) ≡ false) vs → has_float (list_of (map view vs)) ≡ false
plain_items vs all = plain_items_by vs (recursion_from_All (λ v. has_float (view v) ≡ false) vs all)

-- ---- a move that fails

plain_length : (unit : Unit) (o : Option ℤ) → has_float (length_or_null unit o) ≡ false
plain_length unit None = refl
plain_length unit (Some units) = refl

plain_triangle : (unit : Unit) (o : Option Triangle) → has_float (triangle_or_null unit o) ≡ false
plain_triangle unit None = refl
plain_triangle unit (Some t) = (plain_put (codes "corners") (corners_data unit t.corners) refl (plain_put (codes "number") (whole t.number) refl no_float)).none

plain_members_of_column : (unit : Unit) (c : Column) → NoFloat (put_column unit c no_members)
plain_members_of_column unit c =
    plain_put (codes "top") (length_data unit c.top) refl
    (plain_put (codes "y") (length_data unit c.y) refl
    (plain_put (codes "x") (length_data unit c.x) refl
    (plain_put (codes "column") (whole c.column) refl
    (plain_put (codes "row") (whole c.row) refl no_float))))

pub plain_column : (unit : Unit) (c : Column) → has_float (column_data unit c) ≡ false
plain_column unit c = (plain_members_of_column unit c).none

plain_column_or_null : (unit : Unit) (o : Option Column) → has_float (column_or_null unit o) ≡ false
plain_column_or_null unit None = refl
plain_column_or_null unit (Some c) = plain_column unit c

plain_leaf : (o : Option Segment) → has_float (leaf_data o) ≡ false
plain_leaf None = refl
plain_leaf (Some s) = refl

plain_segment : (unit : Unit) (o : Option Segment) → has_float (segment_data unit o) ≡ false
plain_segment unit None = refl
plain_segment unit (Some s) = refl

plain_place : (words : List ℕ) (f : Failure) {ms : Members} → NoFloat ms → NoFloat (put_place words f ms)
plain_place words f {ms} no_ms =
    plain_put (codes "test") (string (test_name f.test)) refl
    (plain_put (codes "words") (bytes_data words) refl
    (plain_put (codes "line") (whole f.line) refl
    (plain_put (codes "move") (whole f.number) refl no_ms)))

plain_obstacle : (unit : Unit) (f : Failure) {ms : Members} → NoFloat ms → NoFloat (put_obstacle unit f ms)
plain_obstacle unit f {ms} no_ms =
    plain_put (codes "lift") (length_or_null unit f.lift) (plain_length unit f.lift)
    (plain_put (codes "segment") (segment_data unit f.segment) (plain_segment unit f.segment)
    (plain_put (codes "leaf") (leaf_data f.segment) (plain_leaf f.segment)
    (plain_put (codes "column") (column_or_null unit f.column) (plain_column_or_null unit f.column)
    (plain_put (codes "triangle") (triangle_or_null unit f.triangle) (plain_triangle unit f.triangle) no_ms))))

plain_fixture : (o : Option ℕ) {ms : Members} → NoFloat ms → NoFloat (put_fixture o ms)
plain_fixture None no_ms = no_ms
plain_fixture (Some b) no_ms = plain_put (codes "box") (whole b) refl no_ms

plain_members_of_failure : (unit : Unit) (words : List ℕ) (f : Failure) → NoFloat (put_fixture f.fixture (put_obstacle unit f (put_place words f no_members)))
plain_members_of_failure unit words f = plain_fixture f.fixture (plain_obstacle unit f (plain_place words f no_float))

pub plain_failure : (unit : Unit) (words : List ℕ) (f : Failure) → has_float (failure_data unit words f) ≡ false
plain_failure unit words f = (plain_members_of_failure unit words f).none

-- ---- the whole

plain_answer : (line : List ℕ) (status : ℕ) {ms : Members} → NoFloat ms → NoFloat (put_answer line status ms)
plain_answer line status {ms} no_ms = plain_put (codes "status") (whole status) refl (plain_put (codes "line") (bytes_data line) refl no_ms)

plain_members_of_sums : (sums : Sums) → NoFloat (put_sums sums no_members)
plain_members_of_sums sums =
    plain_put (codes "program") (sum_data sums.program) refl
    (plain_put (codes "part") (sum_data sums.part) refl (plain_put (codes "job") (sum_data sums.job) refl no_float))

plain_sums : (sums : Sums) → has_float (sums_data sums) ≡ false
plain_sums sums = (plain_members_of_sums sums).none

plain_numbers : (sums : Sums) (s : Summary) {ms : Members} → NoFloat ms → NoFloat (put_numbers sums s ms)
plain_numbers sums s {ms} no_ms =
    plain_put (codes "left") (length_or_null s.unit s.left) (plain_length s.unit s.left)
    (plain_put (codes "columns") (whole s.columns) refl
    (plain_put (codes "moves") (whole s.moves) refl
    (plain_put (codes "unit") (string (unit_name s.unit)) refl
    (plain_put (codes "sha256") (sums_data sums) (plain_sums sums) no_ms))))

plain_too_high : (count : ℕ) (columns : List Data) → has_float (list_of columns) ≡ false → has_float (too_high_data count columns) ≡ false
plain_too_high count columns plain = (plain_put (codes "columns") (list_of columns) plain (plain_put (codes "count") (whole count) refl no_float)).none

plain_lists : (count : ℕ) (failing left : List Data) {ms : Members} → has_float (list_of failing) ≡ false → has_float (list_of left) ≡ false → NoFloat ms → NoFloat (put_lists count failing left ms)
plain_lists count failing left {ms} no_failing no_left no_ms =
    plain_put (codes "left_too_high") (too_high_data count left) (plain_too_high count left no_left)
    (plain_put (codes "failing") (list_of failing) no_failing no_ms)

plain_members_of_report : (line : List ℕ) (sums : Sums) (s : Summary) (failing left : List Data) → has_float (list_of failing) ≡ false → has_float (list_of left) ≡ false
    → NoFloat (put_lists s.too_high failing left (put_numbers sums s (put_answer line s.status no_members)))
plain_members_of_report line sums s failing left no_failing no_left =
    plain_lists s.too_high failing left no_failing no_left (plain_numbers sums s (plain_answer line s.status no_float))

pub plain_report : (line : List ℕ) (sums : Sums) (s : Summary) (failing left : List Data) → has_float (list_of failing) ≡ false → has_float (list_of left) ≡ false
    → has_float (report_data line sums s failing left) ≡ false
plain_report line sums s failing left no_failing no_left = (plain_members_of_report line sums s failing left no_failing no_left).none
