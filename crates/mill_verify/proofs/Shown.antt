-- What the tests show of a leaf that a rejection names: it is blocked.
use Rattle.std.specs.Prelude.{◌⊎◌, ℕ, List, IfSome}
use Rattle.mill_base.specs.declared.points.Tri.{Tri}
use Rattle.mill_base.specs.declared.motion.Move.{Move}
use Rattle.mill_base.specs.declared.motion.Kind.{Kind}
use Rattle.mill_base.specs.declared.motion.Kind.TheVariants.{Rapid, Feed}
use Rattle.mill_base.specs.Points.{point_tri, tri_at}
use Rattle.mill_sweep.specs.Solids.{SolidIsBlocked}
use Rattle.mill_sweep.specs.declared.leaf.Leaf.{Leaf}
use Rattle.mill_job.specs.Solids.{holder_solid_of, outer_of, part_solid_of, stock_solid_of}
use Rattle.mill_job.specs.declared.fields.JobFields.{JobFields}
use Rattle.mill_dexel.specs.Tops.{Stock, tested_point_on, top_point_on}
use Rattle.mill_dexel.specs.Turns.{move_at}
use Rattle.mill_obstacles.specs.Faces.{first_half, second_half}
use Rattle.mill_verify.specs.Fixtures.{BlocksSolid, fixture_at}
use Rattle.mill_verify.specs.Tests.{stock_met}
use Rattle.mill_verify.specs.Verdicts.{IsOfMove, IsRejectionOn}
use Rattle.mill_verify.specs.declared.verdict.Reason.{Reason}
use Rattle.mill_verify.specs.declared.verdict.Reason.TheVariants.{Floor, Gouge, Holder, Fixture, HolderFixture, Rapid as RapidCut, Cut, HolderStock, Left}

-- the point of column (j, i) at which a move of this kind is tested after the moves before move k blocks this leaf of that move
abbrev pub StopsAt : JobFields → Stock → List Move → Kind → ℕ → ℕ → ℕ → Leaf → Type 0
StopsAt job start moves kind k j i leaf = SolidIsBlocked (stock_solid_of job) (move_at moves k) (point_tri (tested_point_on job kind (stock_met job start moves k) j i)) leaf

-- this triangle blocks the job's holder on this leaf of move k
abbrev pub BlocksHeld : JobFields → List Move → ℕ → Leaf → Tri → Type 0
BlocksHeld job moves k leaf tri = IfSome (holder_solid_of job) (λ holder. SolidIsBlocked holder (move_at moves k) tri leaf)

-- a rejection by tests (ii) to (iii h) names a leaf that is blocked
abbrev pub ShowsBlock : JobFields → List Tri → Stock → List Move → Reason → Type 0
ShowsBlock job part start moves (Floor k) = Unit {0}
ShowsBlock job part start moves (Gouge k t leaf) = SolidIsBlocked (part_solid_of job) (move_at moves k) (tri_at part t) leaf
ShowsBlock job part start moves (Holder k t leaf) = BlocksHeld job moves k leaf (tri_at part t)
ShowsBlock job part start moves (Fixture k b leaf) = BlocksSolid (outer_of job) (move_at moves k) (fixture_at job.keep_out b) leaf
ShowsBlock job part start moves (HolderFixture k b leaf) = BlocksHeld job moves k leaf (first_half (fixture_at job.keep_out b)) ⊎ BlocksHeld job moves k leaf (second_half (fixture_at job.keep_out b))
ShowsBlock job part start moves (RapidCut k j i leaf) = StopsAt job start moves Rapid k j i leaf
ShowsBlock job part start moves (Cut k j i leaf) = StopsAt job start moves Feed k j i leaf
ShowsBlock job part start moves (HolderStock k j i leaf) = BlocksHeld job moves k leaf (point_tri (top_point_on job (stock_met job start moves k) j i))
ShowsBlock job part start moves (Left j i top) = Unit {0}

-- a move fails a test, this is the first, and the leaf that it names is blocked
pub record IsShown (job : JobFields) (part : List Tri) (start : Stock) (moves : List Move) (reason : Reason) : Type 0 where
  pub of_move : IsOfMove reason
  pub rejects : IsRejectionOn job part start moves reason
  pub shown : ShowsBlock job part start moves reason
