-- Whether a move passes the tests of what stands still, the part and the fixtures, and if not, how it fails them first.
use Rattle.std.specs.Prelude.{◌≡◌, List, Some}
use Rattle.mill_base.specs.Solids.{Solid}
use Rattle.mill_base.specs.declared.motion.Move.{Move}
use Rattle.mill_base.specs.declared.points.Tri.{Tri}
use Rattle.mill_gouge.specs.Gouges.{IsFirstGouge, PassesPart, ToolPassesPart}
use Rattle.mill_gouge.specs.declared.gouge.Gouge.{Gouge}
use Rattle.mill_job.specs.Jobs.{part_tool_of, tool_of}
use Rattle.mill_job.specs.Solids.{holder_solid_of, outer_of, part_solid_of}
use Rattle.mill_job.specs.declared.fields.JobFields.{JobFields}
use Rattle.mill_verify.specs.Fixtures.{IsFirstHit, PassesFixtures, ToolPassesFixtures}
use Rattle.mill_verify.specs.declared.clash.Clash.{Clash}
use Rattle.mill_verify.specs.declared.clash.Clash.TheVariants as clash
use Rattle.mill_verify.specs.declared.fixture.FixtureHit.{FixtureHit}

-- a move passes tests (ii) to (ii hf): the tool passes the part and the fixtures
pub record IsClear (job : JobFields) (part : List Tri) (m : Move) : Type 0 where
  pub passes_part : ToolPassesPart (part_tool_of job) m part
  pub passes_fixtures : ToolPassesFixtures (tool_of job) m job.keep_out

-- the cutter clears the part on a move, and the job has a holder that doesn't, first at this gouge
pub record IsHolderClash (job : JobFields) (part : List Tri) (m : Move) (gouge : Gouge) : Type 0 where
  pub clears : PassesPart (part_solid_of job) m part
  pub holder : Solid
  pub mounted : holder_solid_of job ≡ Some holder
  pub first : IsFirstGouge holder m part gouge

-- the tool clears the part on a move, and its cutter hits a fixture, first so
pub record IsFixtureClash (job : JobFields) (part : List Tri) (m : Move) (hit : FixtureHit) : Type 0 where
  pub passes_part : ToolPassesPart (part_tool_of job) m part
  pub first : IsFirstHit (outer_of job) m job.keep_out hit

-- the tool clears the part on a move, and its cutter the fixtures, and the job has a holder that hits one, first so
pub record IsHolderFixtureClash (job : JobFields) (part : List Tri) (m : Move) (hit : FixtureHit) : Type 0 where
  pub passes_part : ToolPassesPart (part_tool_of job) m part
  pub clears : PassesFixtures (outer_of job) m job.keep_out
  pub holder : Solid
  pub mounted : holder_solid_of job ≡ Some holder
  pub first : IsFirstHit holder m job.keep_out hit

-- how a move fails these tests first
abbrev pub IsClash : JobFields → List Tri → Move → Clash → Type 0
IsClash job part m (clash.Cutter gouge) = IsFirstGouge (part_solid_of job) m part gouge
IsClash job part m (clash.Holder gouge) = IsHolderClash job part m gouge
IsClash job part m (clash.Fixture hit) = IsFixtureClash job part m hit
IsClash job part m (clash.HolderFixture hit) = IsHolderFixtureClash job part m hit
