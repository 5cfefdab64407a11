-- A tool that isn't exactly the job's cutter, but lies between what the cutter removes for sure and what it may touch: worn, re-ground or measured a little wrong.
use Rattle.std.specs.Prelude.{◌≢◌, Bool, IsTrue, ℕ, ◌<◌, ℤ, pos, List, Contains, length, take}
use Rattle.mill_base.specs.Motion.{IsSure, IsTipOf, tip_at}
use Rattle.mill_base.specs.Points.{IsPointOf}
use Rattle.mill_base.specs.Solids.{SolidHolds}
use Rattle.mill_base.specs.declared.motion.Kind.TheVariants.{Feed}
use Rattle.mill_base.specs.declared.motion.Move.{Move}
use Rattle.mill_base.specs.declared.points.Pt3.{Pt3}
use Rattle.mill_base.specs.declared.points.Tri.{Tri}
use Rattle.mill_base.specs.Ranges.{MovesInRange}
use Rattle.mill_job.specs.Jobs.{IsJob}
use Rattle.mill_job.specs.Slack.{graze_of}
use Rattle.mill_job.specs.Solids.{inner_of, outer_of}
use Rattle.mill_job.specs.declared.fields.JobFields.{JobFields}
use Rattle.mill_job.specs.declared.fixtures.Fixture.{Fixture}
use Rattle.mill_margin.specs.Margins.{shrunk}
use Rattle.mill_dexel.specs.Tops.{uncut}
use Rattle.mill_dexel.specs.Turns.{move_at}
use Rattle.mill_verify.specs.Claims.{AreCovered, IsColumnPoint, IsPointOfFixture, column_point}
use Rattle.mill_verify.specs.Verdicts.{AcceptsOn}

-- a tool by a test of what it holds: with its tip at a point over a denominator, whether a point over another one is strictly inside it
abbrev pub Shape : Type 0
Shape = ℤ → Pt3 → ℤ → Pt3 → Bool

-- the tool holds all that the job's cutter removes for sure, and nothing but what it may touch
pub record LiesBetween (job : JobFields) (tool : Shape) : Type 0 where
  pub inner : (m : ℤ) (t : Pt3) (n : ℤ) (p : Pt3) → SolidHolds (inner_of job) m t n p → IsTrue (tool m t n p)
  pub outer : (m : ℤ) (t : Pt3) (n : ℤ) (p : Pt3) → IsTrue (tool m t n p) → SolidHolds (outer_of job) m t n p

-- at some moment of some move of the list, at which it is sure where the tip is, the point is strictly inside the tool
pub record IsTakenBy (tool : Shape) (moves : List Move) (p : Pt3) : Type 0 where
  pub move : Move
  pub member : Contains moves move
  pub k : ℤ
  pub n : ℤ
  pub moment : IsSure move k n
  pub inside : IsTrue (tool n (tip_at move k n) (pos 1) p)

-- the moves leave the column point (j, i, h) with this tool
abbrev pub LeavesWith : JobFields → Shape → List Move → ℕ → ℕ → ℤ → Type 0
LeavesWith job tool moves j i h = ¬ IsTakenBy tool moves (column_point job j i h)

-- with this tool, wherever its tip may be on a move: no part point is inside it that lies deeper in what the cutter may touch than the overcut; on no move but a Feed is a
-- column point that the moves before it left and that lies deeper in that than the graze; every column point left at the end is covered; and no point of a fixture is inside it
pub record CutsSafelyWith (job : JobFields) (part : List Tri) (moves : List Move) (tool : Shape) : Type 0 where
  pub gouges : (m : Move) (n : ℤ) (tip : Pt3) (tri : Tri) (q : ℤ) (p : Pt3) → Contains moves m → IsTipOf m n tip → Contains part tri → IsPointOf tri q p → IsTrue (tool n tip q p)
      → ¬ SolidHolds (shrunk (outer_of job) job.overcut) n tip q p
  pub rapids : (k j i : ℕ) (h n : ℤ) (tip : Pt3) → k < length moves → (move_at moves k).kind ≢ Feed → IsColumnPoint job j i h → LeavesWith job tool (take k moves) j i h
      → IsTipOf (move_at moves k) n tip → IsTrue (tool n tip (pos 1) (column_point job j i h)) → ¬ SolidHolds (shrunk (outer_of job) (graze_of job)) n tip (pos 1) (column_point job j i h)
  pub covered : AreCovered job part (LeavesWith job tool moves)
  pub fixtures : (m : Move) (n : ℤ) (tip : Pt3) (fixture : Fixture) (q : ℤ) (p : Pt3) → Contains moves m → IsTipOf m n tip → Contains job.keep_out fixture → IsPointOfFixture fixture q p
      → ¬ IsTrue (tool n tip q p)

-- a law: wherever the tests pass, each such tool cuts safely
abbrev pub BetweenIsSafe : Type 0
BetweenIsSafe = (job : JobFields) (part : List Tri) (moves : List Move) (tool : Shape) (count columns : ℕ) (left : ℤ) → IsJob job → MovesInRange moves → LiesBetween job tool
    → AcceptsOn job part (uncut job) moves count columns left → CutsSafelyWith job part moves tool
