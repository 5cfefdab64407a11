-- A solid that passes all obstacles of a job and a part passes the part, and each fixture.
use Rattle.std.specs.Prelude.{pos, List, All, Option, None, Some, IfSome}
use Rattle.std.proofs.lemmas.List.Elements.{All-from_get_or}
use Rattle.mill_base.specs.Points.{point_at, point_tri, tri_at}
use Rattle.mill_base.specs.Solids.{Solid}
use Rattle.mill_base.specs.declared.motion.Move.{Move}
use Rattle.mill_base.specs.declared.points.Tri.{Tri}
use Rattle.mill_base.specs.declared.tool.Tool.{Tool}
use Rattle.mill_gouge.specs.Gouges.{PassesPart, ToolPassesPart}
use Rattle.mill_job.specs.Blank.{blank}
use Rattle.mill_job.specs.declared.fields.JobFields.{JobFields}
use Rattle.mill_obstacles.specs.Faces.{obstacles_of}
use Rattle.mill_obstacles.proofs.Kept.{of_fixtures, of_part}
use Rattle.mill_sweep.specs.Solids.{SolidPasses}
use Rattle.mill_verify.specs.Fixtures.{PassesFixtures, ToolPassesFixtures}

module _ (job : JobFields) (part : List Tri) (m : Move) where
  each : (solid : Solid) → PassesPart solid m (obstacles_of job part) → All (SolidPasses solid m) (obstacles_of job part)
  each solid all = All-from_get_or (SolidPasses solid m) (obstacles_of job part) (point_tri (point_at (pos 0) (pos 0) (pos 0))) all

  pub part_passed : (solid : Solid) → PassesPart solid m (obstacles_of job part) → PassesPart solid m part
  part_passed solid all t inside = of_part (SolidPasses solid m) job part (each solid all) t (point_tri (point_at (pos 0) (pos 0) (pos 0))) inside

  pub fixtures_passed : (solid : Solid) → PassesPart solid m (obstacles_of job part) → PassesFixtures solid m job.keep_out
  fixtures_passed solid all b inside = let both = of_fixtures (SolidPasses solid m) job part (each solid all) b blank inside in record { first = both.first; second = both.second }

  -- so it is of a tool
  pub tool_passes_part : (tool : Tool) → ToolPassesPart tool m (obstacles_of job part) → ToolPassesPart tool m part
  tool_passes_part tool all = record { cutter = part_passed tool.cutter all.cutter; holder = by tool.holder all.holder }
    where
      by : (o : Option Solid) → IfSome o (λ holder. PassesPart holder m (obstacles_of job part)) → IfSome o (λ holder. PassesPart holder m part)
      by None h = tt
      by (Some holder) h = part_passed holder h

  pub tool_passes_fixtures : (tool : Tool) → ToolPassesPart tool m (obstacles_of job part) → ToolPassesFixtures tool m job.keep_out
  tool_passes_fixtures tool all = record { cutter = fixtures_passed tool.cutter all.cutter; holder = by tool.holder all.holder }
    where
      by : (o : Option Solid) → IfSome o (λ holder. PassesPart holder m (obstacles_of job part)) → IfSome o (λ holder. PassesFixtures holder m job.keep_out)
      by None h = tt
      by (Some holder) h = fixtures_passed holder h
