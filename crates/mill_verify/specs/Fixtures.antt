-- Whether a solid passes the fixtures that stand on the machine, and if not, at which it fails first.
use Rattle.std.specs.Prelude.{◌⊎◌, ℕ, ◌<◌, List, length, slice_index_or, IfSome}
use Rattle.mill_base.specs.Solids.{Solid}
use Rattle.mill_base.specs.declared.motion.Move.{Move}
use Rattle.mill_base.specs.declared.tool.Tool.{Tool}
use Rattle.mill_job.specs.Blank.{blank}
use Rattle.mill_job.specs.declared.fixtures.Fixture.{Fixture}
use Rattle.mill_obstacles.specs.Faces.{first_half, second_half}
use Rattle.mill_sweep.specs.Solids.{SolidFailsAt, SolidIsBlocked, SolidPasses}
use Rattle.mill_sweep.specs.declared.leaf.Leaf.{Leaf}
use Rattle.mill_verify.specs.declared.fixture.FixtureHit.{FixtureHit}

-- fixture b; there is none past the end, so what stands there is never looked at
abbrev pub fixture_at : List Fixture → ℕ → Fixture
fixture_at fixtures b = slice_index_or fixtures b blank

-- the solid passes the fixture on the move: both triangles of its upper face
pub record PassesFixture (solid : Solid) (m : Move) (fixture : Fixture) : Type 0 where
  pub first : SolidPasses solid m (first_half fixture)
  pub second : SolidPasses solid m (second_half fixture)

-- so it does each of them
abbrev pub PassesFixtures : Solid → Move → List Fixture → Type 0
PassesFixtures solid m fixtures = (b : ℕ) → b < length fixtures → PassesFixture solid m (fixture_at fixtures b)

-- it doesn't pass the fixture: the test of the first triangle fails, at this leaf, or it passes that one and the test of the second fails there
abbrev pub FailsFixture : Solid → Move → Fixture → Leaf → Type 0
FailsFixture solid m fixture leaf = SolidFailsAt solid m (first_half fixture) leaf ⊎ (SolidPasses solid m (first_half fixture) × SolidFailsAt solid m (second_half fixture) leaf)

-- one of the two triangles blocks the solid on this leaf
abbrev pub BlocksSolid : Solid → Move → Fixture → Leaf → Type 0
BlocksSolid solid m fixture leaf = SolidIsBlocked solid m (first_half fixture) leaf ⊎ SolidIsBlocked solid m (second_half fixture) leaf

-- the first fixture that the solid doesn't pass, with the leaf at which it fails, which is blocked
pub record IsFirstHit (solid : Solid) (m : Move) (fixtures : List Fixture) (hit : FixtureHit) : Type 0 where
  pub there : hit.fixture < length fixtures
  pub first : (e : ℕ) → e < hit.fixture → PassesFixture solid m (fixture_at fixtures e)
  pub fails : FailsFixture solid m (fixture_at fixtures hit.fixture) hit.leaf
  pub blocked : BlocksSolid solid m (fixture_at fixtures hit.fixture) hit.leaf

-- a tool passes each fixture: its cutter does, and so does its holder, if it has one
pub record ToolPassesFixtures (tool : Tool) (m : Move) (fixtures : List Fixture) : Type 0 where
  pub cutter : PassesFixtures tool.cutter m fixtures
  pub holder : IfSome tool.holder (λ holder. PassesFixtures holder m fixtures)
