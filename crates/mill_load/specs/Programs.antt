-- What a program's text says for a job.
use Rattle.std.specs.Prelude.{◌≡◌, ℕ, ℤ, pos, nat_abs, ◌-ℤ◌, int_le, Bool, true, false, if◌then◌else◌, List, Ok, Err}
use Rattle.mill_base.specs.declared.motion.Move.{Move}
use Rattle.mill_ngc.specs.Programs.{program_of}
use Rattle.mill_said.specs.declared.fault.NgcFault.{NgcFault}
use Rattle.mill_said.specs.declared.rules.Control.{Control}
use Rattle.mill_said.specs.declared.rules.Rules.{Rules}
use Rattle.mill_said.specs.declared.rules.Words.{Words as Dialect}
use Rattle.mill_said.specs.declared.rules.Words.TheVariants as dialect
use Rattle.mill_job.specs.declared.fields.JobFields.{JobFields}
use Rattle.mill_job.specs.Columns.{home}
use Rattle.mill_job.specs.Habits.{arc_room_of, arc_tolerance_of, clearance_of, is_elsewhere, run_by}
use Rattle.mill_job.specs.declared.habits.Start.{Start}
use Rattle.mill_job.specs.declared.habits.Start.TheVariants as start
use Rattle.mill_job.specs.declared.habits.ToolLengths.{ToolLengths}
use Rattle.mill_job.specs.declared.habits.ToolLengths.TheVariants.{Table, One}
use Rattle.mill_job.specs.declared.habits.Words.{Words}
use Rattle.mill_job.specs.declared.habits.Words.TheVariants.{Strict, Machine}
use Rattle.mill_load.specs.Setup.{Fits}

-- three units of the slack, where it has as many, are the text's, whose numbers are rounded to the grid then
abbrev pub rounds_text : ℤ → Bool
rounds_text slack = int_le (pos 3) slack

abbrev pub machine_slack : ℤ → ℤ
machine_slack slack = if rounds_text slack then slack -ℤ pos 3 else slack

abbrev pub are_one : ToolLengths → Bool
are_one Table = false
are_one One = true

-- M6 leaves the tip at or over the clear height
abbrev pub change_raises : Start → Bool
change_raises start.Home = false
change_raises start.Anywhere = false
change_raises start.Change = true

-- what a job says of its machine's control
abbrev pub control_of : JobFields → Control
control_of job = record { rounds = rounds_text job.slack; path_tolerance = machine_slack job.slack; arc_tolerance = nat_abs (arc_tolerance_of job); arc_room = arc_room_of job; peck_clearance = nat_abs (clearance_of job); one_length = are_one job.lengths; change_raises = change_raises job.start }

-- which words its programs have
abbrev pub dialect_of : Words → JobFields → Dialect
dialect_of Strict job = dialect.Strict
dialect_of Machine job = dialect.Machine (control_of job)

-- what a job asks of its programs beside what their words mean; the height for the way up is that of home, the job's clear
unfoldable pub rules_of : JobFields → Rules
rules_of job = record { from_anywhere = is_elsewhere job.start; needs_spindle = job.spindle; words = dialect_of job.words job }

-- a text that reads, from the job's home, in its unit and by its rules, as some moves, and these are what the job's machine makes of them
pub record SaysMoves (job : JobFields) (text : List ℕ) (moves : List Move) : Type 0 where
  pub read : List Move
  pub reads : program_of (home job) job.unit (rules_of job) text ≡ Ok read
  pub made : moves ≡ run_by job.rapids read

-- such a text within the limit
pub record IsProgramText (job : JobFields) (text : List ℕ) (moves : List Move) : Type 0 where
  pub fits : Fits text
  pub read : List Move
  pub reads : program_of (home job) job.unit (rules_of job) text ≡ Ok read
  pub made : moves ≡ run_by job.rapids read

-- a text within the limit that is refused, with its first fault
pub record IsRefusedProgram (job : JobFields) (text : List ℕ) (fault : NgcFault) : Type 0 where
  pub fits : Fits text
  pub refused : program_of (home job) job.unit (rules_of job) text ≡ Err fault
