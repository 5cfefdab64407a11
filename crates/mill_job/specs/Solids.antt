-- The solids of a job's tool: what it may touch, what it cuts for sure, and what is tested.
use Rattle.std.specs.Prelude.{ℤ, Option, Some, None}
use Rattle.mill_base.specs.Solids.{Solid, at_tip}
use Rattle.mill_base.specs.declared.cutter.Cutter.{Cutter}
use Rattle.mill_job.specs.Slack.{graze_of}
use Rattle.mill_job.specs.declared.fields.JobFields.{JobFields}
use Rattle.mill_job.specs.declared.solids.Solids.{Solids}
use Rattle.mill_margin.specs.Margins.{grown, shrunk}

-- what lies deeper than this in the cutter, wherever within the slack of the tool's tip its own tip is
abbrev pub deeper_in : Cutter → ℤ → ℤ → Solid
deeper_in cutter depth slack = grown (shrunk (at_tip cutter) depth) slack

-- a holder with the slack around it, if there is one
abbrev pub held_with : ℤ → Option Solid → Option Solid
held_with slack None = None
held_with slack (Some holder) = Some (grown holder slack)

-- what the cutter may touch
abbrev pub outer_of : JobFields → Solid
outer_of job = grown (at_tip job.cutter) job.slack

-- what it cuts for sure
abbrev pub inner_of : JobFields → Solid
inner_of job = shrunk (at_tip job.cutter) job.slack

-- what is tested against the part: what may lie deeper in the cutter than the overcut
abbrev pub part_solid_of : JobFields → Solid
part_solid_of job = deeper_in job.cutter job.overcut job.slack

-- what is tested against the stock: what may lie deeper in the cutter than the graze
abbrev pub stock_solid_of : JobFields → Solid
stock_solid_of job = deeper_in job.cutter (graze_of job) job.slack

-- what the holder may touch, if there is one
abbrev pub holder_solid_of : JobFields → Option Solid
holder_solid_of job = held_with job.slack job.holder

-- all of them. A job's type names them, so they unfold only where a proof says so
unfoldable pub solids_of : JobFields → Solids
solids_of job = record { outer = outer_of job; inner = inner_of job; part = part_solid_of job; stock = stock_solid_of job; holder = holder_solid_of job }
