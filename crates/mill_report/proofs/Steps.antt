-- One move's tests, part by part: why it fails, and that it names a leaf that is blocked.
use Rattle.std.specs.Prelude.{◌≡◌, ℕ, ◌≤◌, List, [], ◌∷◌, Some, refl}
use Rattle.std.proofs.Common.{arith, inl, inr, subst}
use Rattle.mill_base.specs.Points.{point_tri, tri_at}
use Rattle.mill_base.specs.declared.limits.TheConstants.{MAX_LAST_REACH}
use Rattle.mill_base.specs.Motion.{IsStraight}
use Rattle.mill_base.specs.Ranges.{MoveInRange}
use Rattle.mill_base.specs.Solids.{IsSolid, Solid}
use Rattle.mill_base.specs.declared.points.Pt3.{Pt3}
use Rattle.mill_base.specs.declared.points.Tri.{Tri}
use Rattle.mill_base.specs.declared.motion.Move.{Move}
use Rattle.mill_base.specs.declared.motion.Kind.{Kind}
use Rattle.mill_base.specs.declared.motion.Kind.TheVariants.{Rapid, Feed, Dogleg}
use Rattle.mill_gouge.specs.Gouges.{IsFirstGouge, PassesPart}
use Rattle.mill_gouge.specs.declared.gouge.Gouge.{Gouge as OneGouge}
use Rattle.mill_sweep.specs.Leaves.{reach_of}
use Rattle.mill_sweep.specs.Moments.{FailingIsBlocked}
use Rattle.mill_sweep.specs.Solids.{SolidFailsAt, SolidIsBlocked}
use Rattle.mill_sweep.specs.declared.leaf.Leaf.{Leaf}
use Rattle.mill_job.specs.declared.fields.JobFields.{JobFields}
use Rattle.mill_job.specs.Jobs.{IsJob}
use Rattle.mill_job.specs.declared.fixtures.Fixture.{Fixture as Stands}
use Rattle.mill_job.specs.Solids.{holder_solid_of, outer_of, part_solid_of, stock_solid_of}
use Rattle.mill_job.proofs.SolidFacts.{holder_solid_ok, outer_ok, part_solid_ok, stock_solid_ok}
use Rattle.mill_dexel.specs.Tops.{Stock, tested_as, tested_point_on, top_point_on}
use Rattle.mill_dexel.proofs.TestedAs.{is_tested_as, point_as}
use Rattle.mill_dexel.specs.declared.fail.RowTest.{RowTest}
use Rattle.mill_dexel.specs.declared.fail.RowTest.TheVariants as test
use Rattle.mill_verify.specs.Clashes.{IsClash, IsClear, IsFixtureClash, IsHolderFixtureClash}
use Rattle.mill_obstacles.specs.Faces.{first_half, second_half}
use Rattle.mill_verify.specs.Fixtures.{BlocksSolid, FailsFixture, fixture_at}
use Rattle.mill_verify.specs.Reasons.{clash_reason, cut_reason, stock_reason}
use Rattle.mill_verify.specs.Tests.{IsGoodOn, IsOverFloor}
use Rattle.mill_verify.specs.declared.clash.Clash.{Clash}
use Rattle.mill_verify.specs.declared.clash.Clash.TheVariants as clash
use Rattle.mill_verify.specs.declared.fixture.FixtureHit.{FixtureHit}
use Rattle.mill_verify.specs.Verdicts.{BlocksAtFixture, BlocksHolder, BlocksHolderAtFixture, BlocksLeaf, FailsHolderStockOn, FailsStockOn}
use Rattle.mill_verify.specs.declared.verdict.Reason.TheVariants.{Gouge, Holder, Fixture, HolderFixture}
use Rattle.mill_verify.proofs.Mounted.{of_some}
use Rattle.mill_report.specs.inner.Steps.{FailsMove, FailsPart}
use Rattle.mill_report.specs.inner.Stops.{IsCutStop, IsHolderStop, PassesStock, StopsBy}
use Rattle.mill_report.specs.declared.pass.Stop.{Stop}

module _ (failing_is_blocked : FailingIsBlocked) (job : JobFields) (m : Move) (job_ok : IsJob job) (range : MoveInRange m) where
  -- a leaf at which a test fails is one of the last
  leaf_named : (solid : Solid) → IsSolid solid → (leaf : Leaf) (tri : Tri) → SolidFailsAt solid m tri leaf → SolidIsBlocked solid m tri leaf → BlocksLeaf solid m leaf tri
  leaf_named solid ok leaf tri fails blocked = record { last = (failing_is_blocked solid m tri leaf ok range fails).0; blocks = blocked }

  held_named : (holder : Solid) (leaf : Leaf) (tri : Tri) → holder_solid_of job ≡ Some holder → SolidFailsAt holder m tri leaf → SolidIsBlocked holder m tri leaf → BlocksHolder job (m ∷ []) 0 leaf tri
  held_named holder leaf tri mounted fails blocked =
      record { holder = holder; mounted = mounted; blocks = leaf_named holder (of_some IsSolid (holder_solid_of job) holder mounted (holder_solid_ok job job_ok)) leaf tri fails blocked }

  -- ---- the tests against the part
  gouges : (part : List Tri) (number : ℕ) (gouge : OneGouge) → IsFirstGouge (part_solid_of job) m part gouge → FailsPart job part m number (Gouge number gouge.tri gouge.leaf)
  gouges part number gouge h stock over = record {
    at = refl;
    fails = record {
      of_move = tt;
      rejects = record { there = omega arith; before = λ e less. absurd (omega (less, arith)); floor = over; tri = h.tri; first = h.first; fails = h.fails };
    };
    names = leaf_named (part_solid_of job) (part_solid_ok job job_ok) gouge.leaf (tri_at part gouge.tri) h.fails h.blocked;
  }

  holder_gouges : (part : List Tri) (number : ℕ) (holder : Solid) (gouge : OneGouge) → PassesPart (part_solid_of job) m part → holder_solid_of job ≡ Some holder → IsFirstGouge holder m part gouge
      → FailsPart job part m number (Holder number gouge.tri gouge.leaf)
  holder_gouges part number holder gouge clears mounted h stock over = record {
    at = refl;
    fails = record {
      of_move = tt;
      rejects = record {
        there = omega arith;
        before = λ e less. absurd (omega (less, arith));
        floor = over;
        clears = clears;
        holder = holder;
        mounted = mounted;
        tri = h.tri;
        first = h.first;
        fails = h.fails;
      };
    };
    names = held_named holder gouge.leaf (tri_at part gouge.tri) mounted h.fails h.blocked;
  }

  -- ---- the tests against the fixtures

  -- whichever triangle of a fixture the test fails at
  last_of : (solid : Solid) → IsSolid solid → (box : Stands) (leaf : Leaf) → FailsFixture solid m box leaf → IsStraight m → reach_of m leaf.d leaf.k ≤ MAX_LAST_REACH
  last_of solid ok box leaf fails = elim fails [
    | inl first ↦ (failing_is_blocked solid m (first_half box) leaf ok range first).0
    | inr second ↦ (failing_is_blocked solid m (second_half box) leaf ok range second.1).0
  ]

  fixture_named : (b : ℕ) (leaf : Leaf) → FailsFixture (outer_of job) m (fixture_at job.keep_out b) leaf → BlocksSolid (outer_of job) m (fixture_at job.keep_out b) leaf → BlocksAtFixture job (m ∷ []) 0 b leaf
  fixture_named b leaf fails blocked =
      let last = last_of (outer_of job) (outer_ok job job_ok) (fixture_at job.keep_out b) leaf fails in
      elim blocked [ inl first ↦ inl (record { last = last; blocks = first }) | inr second ↦ inr (record { last = last; blocks = second }) ]

  held_fixture_named : (holder : Solid) (b : ℕ) (leaf : Leaf) → holder_solid_of job ≡ Some holder → FailsFixture holder m (fixture_at job.keep_out b) leaf
      → BlocksSolid holder m (fixture_at job.keep_out b) leaf → BlocksHolderAtFixture job (m ∷ []) 0 b leaf
  held_fixture_named holder b leaf mounted fails blocked =
      let last = last_of holder (of_some IsSolid (holder_solid_of job) holder mounted (holder_solid_ok job job_ok)) (fixture_at job.keep_out b) leaf fails in
      elim blocked [
        | inl first ↦ inl (record { holder = holder; mounted = mounted; blocks = record { last = last; blocks = first } })
        | inr second ↦ inr (record { holder = holder; mounted = mounted; blocks = record { last = last; blocks = second } })
      ]

  hits : (part : List Tri) (number : ℕ) (hit : FixtureHit) → IsFixtureClash job part m hit → FailsPart job part m number (Fixture number hit.fixture hit.leaf)
  hits part number hit h stock over = record {
    at = refl;
    fails = record {
      of_move = tt;
      rejects = record {
        there = omega arith;
        before = λ e less. absurd (omega (less, arith));
        floor = over;
        clears = h.passes_part.cutter;
        holder = h.passes_part.holder;
        fixture = h.first.there;
        first = h.first.first;
        fails = h.first.fails;
      };
    };
    names = fixture_named hit.fixture hit.leaf h.first.fails h.first.blocked;
  }

  holder_hits : (part : List Tri) (number : ℕ) (hit : FixtureHit) → IsHolderFixtureClash job part m hit → FailsPart job part m number (HolderFixture number hit.fixture hit.leaf)
  holder_hits part number hit h stock over = record {
    at = refl;
    fails = record {
      of_move = tt;
      rejects = record {
        there = omega arith;
        before = λ e less. absurd (omega (less, arith));
        floor = over;
        clears = h.passes_part.cutter;
        holder_clears = h.passes_part.holder;
        fixtures = h.clears;
        holder = h.holder;
        mounted = h.mounted;
        fixture = h.first.there;
        first = h.first.first;
        fails = h.first.fails;
      };
    };
    names = held_fixture_named h.holder hit.fixture hit.leaf h.mounted h.first.fails h.first.blocked;
  }

  pub part_fails : (part : List Tri) (number : ℕ) (found : Clash) → IsClash job part m found → FailsPart job part m number (clash_reason number found)
  part_fails part number (clash.Cutter gouge) h = gouges part number gouge h
  part_fails part number (clash.Holder gouge) h = holder_gouges part number h.holder gouge h.clears h.mounted h.first
  part_fails part number (clash.Fixture hit) h = hits part number hit h
  part_fails part number (clash.HolderFixture hit) h = holder_hits part number hit h

  -- ---- the tests against the stock, which come last
  module _ (part : List Tri) (stock : Stock) (number : ℕ) (over : IsOverFloor job (m ∷ []) 0) (clear : IsClear job part m) where
    pub passes_all : PassesStock job stock m → IsGoodOn job part stock (m ∷ []) 0
    passes_all passes = record { floor = over; clears = clear.passes_part.cutter; holder = clear.passes_part.holder; fixtures = clear.passes_fixtures.cutter; holder_fixtures = clear.passes_fixtures.holder; stock = passes.cut; holder_stock = passes.holder }

    cut_fails : (stop : Stop) → IsCutStop job stock m stop → FailsStockOn job part stock (m ∷ []) (tested_as m.kind) 0 stop.row stop.col stop.leaf
    cut_fails stop h = record {
      there = omega arith;
      before = λ e less. absurd (omega (less, arith));
      floor = over;
      clears = clear.passes_part.cutter;
      holder = clear.passes_part.holder;
      fixtures = clear.passes_fixtures.cutter;
      holder_fixtures = clear.passes_fixtures.holder;
      is = refl;
      tested = is_tested_as job m.kind h.tested;
      column = h.at.column;
      first = h.at.first;
      fails = subst (λ (p : Pt3). SolidFailsAt (stock_solid_of job) m (point_tri p) stop.leaf) (point_as job m.kind stock stop.row stop.col) h.at.fails;
    }

    held_fails : (stop : Stop) → IsHolderStop job stock m stop → FailsHolderStockOn job part stock (m ∷ []) 0 stop.row stop.col stop.leaf
    held_fails stop h = record {
      there = omega arith;
      before = λ e less. absurd (omega (less, arith));
      floor = over;
      clears = clear.passes_part.cutter;
      holder_clears = clear.passes_part.holder;
      fixtures = clear.passes_fixtures.cutter;
      holder_fixtures = clear.passes_fixtures.holder;
      stock = h.cut;
      holder = h.holder;
      mounted = h.mounted;
      column = h.at.column;
      first = h.at.first;
      fails = h.at.fails;
    }

    by_kind : (kind : Kind) (stop : Stop) → FailsStockOn job part stock (m ∷ []) (tested_as kind) 0 stop.row stop.col stop.leaf
        → BlocksLeaf (stock_solid_of job) m stop.leaf (point_tri (tested_point_on job (tested_as kind) stock stop.row stop.col)) → FailsMove job part stock m number (cut_reason kind number stop.row stop.col stop.leaf)
    by_kind Rapid stop h names = record { at = refl; fails = record { of_move = tt; rejects = h }; names = names }
    by_kind Feed stop h names = record { at = refl; fails = record { of_move = tt; rejects = h }; names = names }
    by_kind Dogleg stop h names = record { at = refl; fails = record { of_move = tt; rejects = h }; names = names }

    by_test : (t : RowTest) (stop : Stop) → StopsBy t job stock m stop → FailsMove job part stock m number (stock_reason t m.kind number stop.row stop.col stop.leaf)
    by_test test.Cut stop h =
        by_kind m.kind stop (cut_fails stop h)
        (subst (λ (p : Pt3). BlocksLeaf (stock_solid_of job) m stop.leaf (point_tri p)) (point_as job m.kind stock stop.row stop.col)
        (leaf_named (stock_solid_of job) (stock_solid_ok job job_ok) stop.leaf (point_tri (tested_point_on job m.kind stock stop.row stop.col)) h.at.fails h.at.blocked))
    by_test test.Holder stop h = record {
      at = refl;
      fails = record { of_move = tt; rejects = held_fails stop h };
      names = held_named h.holder stop.leaf (point_tri (top_point_on job stock stop.row stop.col)) h.mounted h.at.fails h.at.blocked;
    }

    pub stopped : (stop : Stop) → StopsBy stop.test job stock m stop → FailsMove job part stock m number (stock_reason stop.test m.kind number stop.row stop.col stop.leaf)
    stopped stop h = by_test stop.test stop h
