-- That a tool which may be anywhere before a program comes to the place where its moves begin.
use Rattle.std.specs.Prelude.{◌⊎◌, ℤ, pos, ◌*ℤ◌, ◌<ℤ◌, ◌≤ℤ◌, List, MatchOption}
use Rattle.mill_base.specs.Covers.{IsUnder}
use Rattle.mill_base.specs.Motion.{IsInBox, IsMoment, IsOnWay, tip_at}
use Rattle.mill_base.specs.Points.{point_at, times}
use Rattle.mill_base.specs.Tools.{ToolGouges}
use Rattle.mill_base.specs.declared.motion.Kind.TheVariants.{Rapid}
use Rattle.mill_base.specs.declared.motion.Move.{Move}
use Rattle.mill_base.specs.declared.points.Pt3.{Pt3}
use Rattle.mill_base.specs.declared.points.Tri.{Tri}
use Rattle.mill_base.specs.declared.tool.Tool.{Tool}
use Rattle.mill_job.specs.Jobs.{IsJob, tool_of}
use Rattle.mill_job.specs.declared.fields.JobFields.{JobFields}
use Rattle.mill_job.specs.declared.fixtures.Fixture.{Fixture}
use Rattle.mill_job.specs.declared.habits.Rapids.{Rapids}
use Rattle.mill_job.specs.declared.habits.Rapids.TheVariants.{Straight, Axes}
use Rattle.mill_verify.specs.Claims.{HitsFixture}

-- with its tip at t over n, some point of a fixture is strictly inside the tool's cutter, or inside its holder
abbrev pub ToolHits : Tool → ℤ → Pt3 → List Fixture → Type 0
ToolHits tool n t fixtures = HitsFixture tool.cutter n t fixtures ⊎ MatchOption tool.holder ⊥ (λ holder. HitsFixture holder n t fixtures)

-- with its tip at t over n, the job's tool, the slack around it, has no part point and no point of a fixture strictly inside
pub record IsFree (job : JobFields) (part : List Tri) (n : ℤ) (t : Pt3) : Type 0 where
  pub part_free : ¬ ToolGouges (tool_of job) n t part
  pub fixtures_free : ¬ ToolHits (tool_of job) n t job.keep_out

-- the tip p over n is one from which the way may begin: it is at or over the clear height, or it is raised, being no higher than the place `at` to which it goes
abbrev pub MayBegin : JobFields → Pt3 → ℤ → Pt3 → Type 0
MayBegin job at n p = ((n *ℤ job.clear) ≤ℤ p.z) ⊎ (p.z ≤ℤ (n *ℤ at.z))

-- straight over or under p over n, at the height of that place
abbrev pub level_with : Pt3 → ℤ → Pt3 → Pt3
level_with at n p = point_at p.x p.y (n *ℤ at.z)

-- straight up or down from p over n to that height, and straight across from there to the place, both over the denominator n
abbrev pub upright : Pt3 → ℤ → Pt3 → Move
upright at n p = record { kind = Rapid; from = p; to = level_with at n p }

abbrev pub across : Pt3 → ℤ → Pt3 → Move
across at n p = record { kind = Rapid; from = level_with at n p; to = times n at }

-- where the tip may be on a rapid, over the denominator d: on its way, and where each axis runs at a speed of its own, anywhere in the box of its two ends
abbrev pub MayBeAt : Rapids → Move → ℤ → Pt3 → Type 0
MayBeAt Straight m d t = IsOnWay m d t
MayBeAt Axes m d t = IsInBox m d t

-- at each moment k/d of the way up or down the tool is free, and across wherever the job's machine may have the tip
pub record ComesSafely (job : JobFields) (part : List Tri) (at : Pt3) (n : ℤ) (p : Pt3) : Type 0 where
  pub upright_free : (k d : ℤ) → IsMoment k d → IsFree job part (d *ℤ n) (tip_at (upright at n p) k d)
  pub across_free : (d : ℤ) (t : Pt3) → MayBeAt job.rapids (across at n p) d t → IsFree job part (d *ℤ n) t

-- from each tip at which the tool is free, and from which the way may begin, it comes safely to the place `at`
abbrev pub StartsSafely : JobFields → List Tri → Pt3 → Type 0
StartsSafely job part at = (n : ℤ) (p : Pt3) → (pos 0) <ℤ n → IsFree job part n p → MayBegin job at n p → ComesSafely job part at n p

-- so it is where that place is at or over the clear height, and the part no higher than the stock
abbrev pub StartIsSafe : Type 0
StartIsSafe = (job : JobFields) (part : List Tri) (at : Pt3) → IsJob job → IsUnder part job.top → job.clear ≤ℤ at.z → StartsSafely job part at
