-- A leaf that a rejection names is one of the last of its move, and blocked.
use Rattle.std.specs.Prelude.{◌≡◌, ℕ, ◌<◌, ◌≤◌, List, length, Some}
use Rattle.std.proofs.Common.{inl, inr}
use Rattle.mill_base.specs.Motion.{IsStraight}
use Rattle.mill_base.specs.Points.{point_tri, tri_at}
use Rattle.mill_base.specs.Ranges.{MoveInRange, MovesInRange}
use Rattle.mill_base.specs.Solids.{IsSolid, Solid}
use Rattle.mill_base.specs.declared.points.Tri.{Tri}
use Rattle.mill_base.specs.declared.motion.Move.{Move}
use Rattle.mill_base.specs.declared.motion.Kind.TheVariants.{Rapid, Feed}
use Rattle.mill_job.specs.Solids.{holder_solid_of, outer_of, part_solid_of, stock_solid_of}
use Rattle.mill_job.specs.declared.fields.JobFields.{JobFields}
use Rattle.mill_job.specs.Jobs.{IsJob}
use Rattle.mill_job.specs.declared.fixtures.Fixture.{Fixture as Stands}
use Rattle.mill_job.proofs.SolidFacts.{holder_solid_ok, outer_ok, part_solid_ok, stock_solid_ok}
use Rattle.mill_dexel.specs.Tops.{Stock, tested_point_on, top_point_on}
use Rattle.mill_dexel.specs.Turns.{move_at}
use Rattle.mill_base.specs.declared.limits.TheConstants.{MAX_LAST_REACH}
use Rattle.mill_sweep.specs.Leaves.{reach_of}
use Rattle.mill_sweep.specs.declared.leaf.Leaf.{Leaf}
use Rattle.mill_sweep.specs.Moments.{FailingIsBlocked}
use Rattle.mill_sweep.specs.Solids.{SolidFailsAt, SolidIsBlocked}
use Rattle.mill_verify.proofs.Mounted.{of_some}
use Rattle.mill_verify.proofs.ReadLemmas.{move_read}
use Rattle.mill_verify.proofs.Shown.{BlocksHeld, IsShown, ShowsBlock}
use Rattle.mill_obstacles.specs.Faces.{first_half, second_half}
use Rattle.mill_verify.specs.Fixtures.{BlocksSolid, FailsFixture, fixture_at}
use Rattle.mill_verify.specs.Tests.{stock_met}
use Rattle.mill_verify.specs.Verdicts.{BlocksAtFixture, BlocksHolder, BlocksHolderAtFixture, BlocksLeaf, FailsHolderFixtureOn, IsRejectionOn, NamesLeaf}
use Rattle.mill_verify.specs.declared.verdict.Reason.{Reason}
use Rattle.mill_verify.specs.declared.verdict.Reason.TheVariants.{Floor, Gouge, Holder, Fixture, HolderFixture, Rapid as RapidCut, Cut, HolderStock, Left}
use Rattle.mill_verify.specs.inner.Firsts.{IsStopped}

module _ (failing_is_blocked : FailingIsBlocked) (job : JobFields) (part : List Tri) (start : Stock) (moves : List Move) (job_ok : IsJob job) (moves_ok : MovesInRange moves) where
  in_range : (k : ℕ) → k < length moves → MoveInRange (move_at moves k)
  in_range k there = moves_ok (move_at moves k) (k, there, move_read moves k (move_at moves k) there)

  leaf_named : (solid : Solid) → IsSolid solid → (k : ℕ) (leaf : Leaf) (tri : Tri) → k < length moves → SolidFailsAt solid (move_at moves k) tri leaf → SolidIsBlocked solid (move_at moves k) tri leaf
      → BlocksLeaf solid (move_at moves k) leaf tri
  leaf_named solid ok k leaf tri there fails shown = record { last = (failing_is_blocked solid (move_at moves k) tri leaf ok (in_range k there) fails).0; blocks = shown }

  -- the holder's
  held_named : (k : ℕ) (leaf : Leaf) (tri : Tri) (holder : Solid) → (holder_solid_of job) ≡ Some holder → k < length moves → SolidFailsAt holder (move_at moves k) tri leaf → BlocksHeld job moves k leaf tri
      → BlocksHolder job moves k leaf tri
  held_named k leaf tri holder mounted there fails shown = record {
    holder = holder;
    mounted = mounted;
    blocks = leaf_named holder (of_some IsSolid (holder_solid_of job) holder mounted (holder_solid_ok job job_ok)) k leaf tri there fails
        (of_some (λ (h : Solid). SolidIsBlocked h (move_at moves k) tri leaf) (holder_solid_of job) holder mounted shown);
  }

  -- a fixture's: whichever of its triangles the test fails at
  last_of : (solid : Solid) → IsSolid solid → (k : ℕ) (box : Stands) (leaf : Leaf) → k < length moves → FailsFixture solid (move_at moves k) box leaf → IsStraight (move_at moves k) → reach_of (move_at moves k) leaf.d leaf.k ≤ MAX_LAST_REACH
  last_of solid ok k box leaf there fails = elim fails [
    | inl first ↦ (failing_is_blocked solid (move_at moves k) (first_half box) leaf ok (in_range k there) first).0
    | inr second ↦ (failing_is_blocked solid (move_at moves k) (second_half box) leaf ok (in_range k there) second.1).0
  ]

  fixture_named : (k b : ℕ) (leaf : Leaf) → k < length moves → FailsFixture (outer_of job) (move_at moves k) (fixture_at job.keep_out b) leaf
      → BlocksSolid (outer_of job) (move_at moves k) (fixture_at job.keep_out b) leaf → BlocksAtFixture job moves k b leaf
  fixture_named k b leaf there fails shown =
      let last = last_of (outer_of job) (outer_ok job job_ok) k (fixture_at job.keep_out b) leaf there fails in
      elim shown [ inl first ↦ inl (record { last = last; blocks = first }) | inr second ↦ inr (record { last = last; blocks = second }) ]

  held_fixture_named : (k b : ℕ) (leaf : Leaf) → (h : FailsHolderFixtureOn job part start moves k b leaf) → ShowsBlock job part start moves (HolderFixture k b leaf) → BlocksHolderAtFixture job moves k b leaf
  held_fixture_named k b leaf h shown =
      let ok = of_some IsSolid (holder_solid_of job) h.holder h.mounted (holder_solid_ok job job_ok) in
      let last = last_of h.holder ok k (fixture_at job.keep_out b) leaf h.there h.fails in
      elim shown [
        | inl first ↦ inl (record { holder = h.holder; mounted = h.mounted; blocks = record { last = last; blocks = blocked (first_half (fixture_at job.keep_out b)) first } })
        | inr second ↦ inr (record { holder = h.holder; mounted = h.mounted; blocks = record { last = last; blocks = blocked (second_half (fixture_at job.keep_out b)) second } })
      ]
    where
      blocked : (tri : Tri) → BlocksHeld job moves k leaf tri → SolidIsBlocked h.holder (move_at moves k) tri leaf
      blocked tri = of_some (λ (v : Solid). SolidIsBlocked v (move_at moves k) tri leaf) (holder_solid_of job) h.holder h.mounted

  names : (reason : Reason) → IsRejectionOn job part start moves reason → ShowsBlock job part start moves reason → NamesLeaf job part start moves reason
  names (Floor k) h shown = tt
  names (Gouge k t leaf) h shown = leaf_named (part_solid_of job) (part_solid_ok job job_ok) k leaf (tri_at part t) h.there h.fails shown
  names (Holder k t leaf) h shown = held_named k leaf (tri_at part t) h.holder h.mounted h.there h.fails shown
  names (Fixture k b leaf) h shown = fixture_named k b leaf h.there h.fails shown
  names (HolderFixture k b leaf) h shown = held_fixture_named k b leaf h shown
  names (RapidCut k j i leaf) h shown = leaf_named (stock_solid_of job) (stock_solid_ok job job_ok) k leaf (point_tri (tested_point_on job Rapid (stock_met job start moves k) j i)) h.there h.fails shown
  names (Cut k j i leaf) h shown = leaf_named (stock_solid_of job) (stock_solid_ok job job_ok) k leaf (point_tri (tested_point_on job Feed (stock_met job start moves k) j i)) h.there h.fails shown
  names (HolderStock k j i leaf) h shown = held_named k leaf (point_tri (top_point_on job (stock_met job start moves k) j i)) h.holder h.mounted h.there h.fails shown
  names (Left j i top) h shown = tt

  pub named : (reason : Reason) → IsShown job part start moves reason → IsStopped job part start moves reason
  named reason h = record { of_move = h.of_move; rejects = h.rejects; names = names reason h.rejects h.shown }
