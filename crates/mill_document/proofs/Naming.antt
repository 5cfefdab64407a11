-- What a finding names is there.
use Rattle.std.proofs.Common.{◌≡◌, ℕ, List, refl, inl, inr}
use Rattle.std.specs.Prelude.{ℤ, Option, IfSome}
use Rattle.mill_base.specs.Points.{tri_at}
use Rattle.mill_base.specs.Ranges.{MoveInRange}
use Rattle.mill_base.specs.declared.motion.Move.{Move}
use Rattle.mill_base.specs.Solids.{Solid}
use Rattle.mill_base.specs.declared.points.Tri.{Tri}
use Rattle.mill_document.specs.Details.{column_numbers, column_of, failure_of, fixture_number, leaf_of, segment_of, test_of, triangle_of}
use Rattle.mill_document.specs.declared.failure.Column.{Column}
use Rattle.mill_document.specs.declared.failure.Failure.{Failure}
use Rattle.mill_document.specs.declared.failure.Segment.{Segment}
use Rattle.mill_document.specs.declared.failure.Test.{Test}
use Rattle.mill_document.specs.declared.failure.Triangle.{Triangle}
use Rattle.mill_document.specs.inner.Leaves.{IsLeaf}
use Rattle.mill_document.proofs.LeafLemmas.{failing_leaf}
use Rattle.mill_dexel.specs.Turns.{move_at}
use Rattle.mill_job.specs.Columns.{IsColumn}
use Rattle.mill_job.specs.Solids.{outer_of, part_solid_of, stock_solid_of}
use Rattle.mill_job.specs.declared.fields.JobFields.{JobFields}
use Rattle.mill_job.specs.declared.fixtures.Fixture.{Fixture as Stands}
use Rattle.mill_sweep.specs.declared.leaf.Leaf.{Leaf}
use Rattle.mill_report.specs.Findings.{IsFinding, move_of}
use Rattle.mill_obstacles.specs.Faces.{first_half, second_half}
use Rattle.mill_verify.specs.Fixtures.{FailsFixture, fixture_at}
use Rattle.mill_verify.specs.declared.verdict.Reason.{Reason}
use Rattle.mill_verify.specs.declared.verdict.Reason.TheVariants.{Floor, Gouge, Holder, Fixture, HolderFixture, Rapid, Cut, HolderStock, Left}

pub names_column : (job : JobFields) (part : List Tri) (moves : List Move) (reason : Reason) → IsFinding job part moves reason → IfSome (column_numbers reason) (λ c. IsColumn job c.0 c.1)
names_column job part moves (Floor k) f = tt
names_column job part moves (Gouge k t leaf) f = tt
names_column job part moves (Holder k t leaf) f = tt
names_column job part moves (Fixture k b leaf) f = tt
names_column job part moves (HolderFixture k b leaf) f = tt
names_column job part moves (Rapid k j i leaf) f = f.fails.rejects.column
names_column job part moves (Cut k j i leaf) f = f.fails.rejects.column
names_column job part moves (HolderStock k j i leaf) f = f.fails.rejects.column
names_column job part moves (Left j i top) f = tt

-- whichever triangle of a fixture the test fails at
fixture_leaf : (solid : Solid) (m : Move) (box : Stands) (leaf : Leaf) → MoveInRange m → FailsFixture solid m box leaf → IsLeaf leaf
fixture_leaf solid m box leaf range fails = elim fails [
  | inl first ↦ failing_leaf solid m (first_half box) leaf range first
  | inr second ↦ failing_leaf solid m (second_half box) leaf range second.1
]

pub names_leaf : (job : JobFields) (part : List Tri) (moves : List Move) (reason : Reason) → MoveInRange (move_at moves (move_of reason)) → IsFinding job part moves reason → IfSome (leaf_of reason) IsLeaf
names_leaf job part moves (Floor k) range f = tt
names_leaf job part moves (Gouge k t leaf) range f = failing_leaf (part_solid_of job) (move_at moves k) (tri_at part t) leaf range f.fails.rejects.fails
names_leaf job part moves (Holder k t leaf) range f = failing_leaf f.fails.rejects.holder (move_at moves k) (tri_at part t) leaf range f.fails.rejects.fails
names_leaf job part moves (Fixture k b leaf) range f = fixture_leaf (outer_of job) (move_at moves k) (fixture_at job.keep_out b) leaf range f.fails.rejects.fails
names_leaf job part moves (HolderFixture k b leaf) range f = fixture_leaf f.fails.rejects.holder (move_at moves k) (fixture_at job.keep_out b) leaf range f.fails.rejects.fails
names_leaf job part moves (Rapid k j i leaf) range f = failing_leaf (stock_solid_of job) (move_at moves k) _ leaf range f.fails.rejects.fails
names_leaf job part moves (Cut k j i leaf) range f = failing_leaf (stock_solid_of job) (move_at moves k) _ leaf range f.fails.rejects.fails
names_leaf job part moves (HolderStock k j i leaf) range f = failing_leaf f.fails.rejects.holder (move_at moves k) _ leaf range f.fails.rejects.fails
names_leaf job part moves (Left j i top) range f = tt

abbrev made : ℕ → ℕ → Test → Option Triangle → Option ℕ → Option Column → Option Segment → Option ℤ → Failure
made number line test triangle fixture column segment lift = record { number = number; line = line; test = test; triangle = triangle; fixture = fixture; column = column; segment = segment; lift = lift }

-- a failure that is told part by part
pub failure_is : (job : JobFields) (part : List Tri) (moves : List Move) (reason : Reason) (line : ℕ) (top : ℤ) (lift : Option ℤ) (number : ℕ) (test : Test) (triangle : Option Triangle) (fixture : Option ℕ) (column : Option Column) (segment : Option Segment)
    → number ≡ move_of reason → test ≡ test_of reason → triangle ≡ triangle_of part reason → fixture ≡ fixture_number reason → column ≡ column_of job top reason → segment ≡ segment_of (move_at moves (move_of reason)) reason
    → made number line test triangle fixture column segment lift ≡ failure_of job part moves reason line top lift
failure_is job part moves reason line top lift number test triangle fixture column segment n t tri box col seg = rw (n, t, tri, box, col, seg) refl
