-- What one table of a list means: a program's name and a cutter, and what is wrong with it.
use Rattle.std.specs.Prelude.{ℕ, Bool, true, List, [], ◌∷◌, ◌++◌, Option, option_and_then, option_map, unwrap_or}
use Rattle.toml.specs.Data.{Members, get_member, as_str}
use Rattle.mill_job.specs.Cutters.{cutter_faults, cutter_key_faults, cutter_of}
use Rattle.mill_job.specs.Documents.{fit_faults}
use Rattle.mill_job.specs.Keys.{name_of, unknown_but}
use Rattle.mill_job.specs.Tables.{first, must_be}
use Rattle.mill_job.specs.declared.fault.JobFault.{JobFault}
use Rattle.mill_job.specs.declared.fault.JobFault.TheVariants.{Unknown}
use Rattle.mill_job.specs.declared.fields.JobFields.{JobFields}
use Rattle.mill_job.specs.declared.key.Key.{Key}
use Rattle.mill_job.specs.declared.key.Key.TheVariants as key
use Rattle.mill_job.specs.declared.step.Step.{Step}

-- the keys of a step, in the format's order
abbrev pub step_keys : List Key
step_keys = key.Program ∷ key.Cutter ∷ key.Radius ∷ key.Rise ∷ key.Run ∷ []

-- any text is a program's name
abbrev pub is_program : List ℕ → Bool
is_program text = true

-- what is wrong with the program's name
unfoldable pub program_fault : Members → Option JobFault
program_fault ms = must_be key.Program as_str is_program (get_member (name_of key.Program) ms)

-- the program's name of a table with which nothing is wrong
unfoldable pub program_of : Members → List ℕ
program_of ms = unwrap_or (option_and_then as_str (get_member (name_of key.Program) ms)) []

-- what is wrong with a step for a job, in order: an unknown key, each key's own fault, those
-- between the cutter's keys, those between the cutter and the job
abbrev pub step_faults : JobFields → Members → List (Option JobFault)
step_faults job ms =
    option_map Unknown (unknown_but step_keys ms)
    ∷ program_fault ms
    ∷ cutter_key_faults ms ++ cutter_faults ms ++ fit_faults job (cutter_of ms)

-- the first of them
abbrev pub step_fault : JobFields → Members → Option JobFault
step_fault job ms = first (step_faults job ms)

-- the step of a table with which nothing is wrong
abbrev pub step_of : Members → Step
step_of ms = record { program = program_of ms; cutter = cutter_of ms }
