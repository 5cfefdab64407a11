-- What is promised of a machine that goes by a program's own numbers, which the list of moves has rounded to whole units, and of what it does beside.
use Rattle.std.specs.Prelude.{◌≡◌, ℕ, ◌^◌, ℤ, pos, ◌<ℤ◌, List, All, Option, IfSome}
use Rattle.std.specs.List.{AllZip}
use Rattle.mill_base.specs.declared.motion.Move.{Move}
use Rattle.mill_base.specs.declared.points.Pt3.{Pt3}
use Rattle.mill_margin.specs.Nearby.{IsTipNear}
use Rattle.mill_block.specs.RealWays.{IsForeseen}
use Rattle.mill_ngc.specs.RealWays.{MayMake}
use Rattle.mill_ngc.specs.TextPaths.{ways_of}
use Rattle.mill_job.specs.Columns.{home}
use Rattle.mill_job.specs.Habits.{run_by}
use Rattle.mill_job.specs.declared.fields.JobFields.{JobFields}
use Rattle.mill_job.specs.declared.habits.Words.TheVariants.{Machine}
use Rattle.mill_load.specs.Programs.{control_of, machine_slack, rounds_text, rules_of}
use Rattle.mill_verify.specs.Claims.{IsRealTip}

-- the ways of a program's own numbers, in parts of 10^18 of a unit
abbrev pub text_ways : JobFields → List ℕ → List Move
text_ways job text = ways_of (control_of job) (home job) job.unit (rules_of job) text

-- a tip is a real one of the move where it is no farther from the way than what the text leaves of the slack
abbrev pub TipsAreReal : JobFields → Move → Move → Type 0
TipsAreReal job w m = (n : ℤ) (r : Pt3) → (pos 0) <ℤ n → IsTipNear (machine_slack job.slack) (10 ^ 18) w n r → IsRealTip job.slack m n r

-- so it is of each move and its way, as the job's machine makes both; and whatever else the machine does on the program, from wherever its tip is before, lies at or over the clear height or straight over
-- a place of such a way, or goes straight up or down to the clear height from where it is
pub record GoesByText (job : JobFields) (text : List ℕ) (moves : List Move) : Type 0 where
  pub tips : AllZip (TipsAreReal job) (run_by job.rapids (text_ways job text)) moves
  pub beside : (made : List Move) → MayMake (control_of job) (home job) job.unit (rules_of job) text made → All (IsForeseen (rounds_text job.slack) job.clear (text_ways job text)) made

-- so it is of a program that is told, where it may have the words of machines
abbrev pub MayGoByText : JobFields → Option (List ℕ) → List Move → Type 0
MayGoByText job told moves = IfSome told (λ text. job.words ≡ Machine → GoesByText job text moves)
