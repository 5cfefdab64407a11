-- What a list's text means: the document, then the array of its steps, then each step in turn.
use Rattle.std.specs.Prelude.{◌≡◌, ◌⊎◌, ⊤, IsUtf8, ℕ, Bool, ◌&&◌, nat_le, List, [], ◌∷◌, length, map, Option, Some, None, option_and_then, option_map, unwrap_or, Result, Ok, Err, Vec}
use Rattle.std.specs.declared.alloc.Global.{Global}
use Rattle.toml.specs.Data.{Data, Items, no_items, item, Members, as_array, as_table, get_member}
use Rattle.toml.specs.Parse.{parse_document}
use Rattle.mill_job.specs.Keys.{name_of, unknown_but}
use Rattle.mill_job.specs.Tables.{first, checked, must_be}
use Rattle.mill_job.specs.declared.fault.JobFault.{JobFault}
use Rattle.mill_job.specs.declared.fault.JobFault.TheVariants.{Syntax, Unknown, WantOfMemory}
use Rattle.mill_job.specs.declared.fields.JobFields.{JobFields}
use Rattle.mill_job.specs.declared.key.Key.TheVariants as key
use Rattle.mill_job.specs.Steps.{step_fault, step_of}
use Rattle.mill_job.specs.declared.step_limits.TheConstants.{MAX_STEPS}
use Rattle.mill_job.specs.declared.step.Step.{Step}

-- the tables of an array, none where it has a member of another kind
abbrev pub and_more : Members → Option (List Members) → Option (List Members)
and_more ms rest = option_map (λ tables. ms ∷ tables) rest

abbrev pub with_rest : Option Members → Option (List Members) → Option (List Members)
with_rest None rest = None
with_rest (Some ms) rest = and_more ms rest

abbrev pub tables : Items → Option (List Members)
tables no_items = Some []
tables (item d ds) = with_rest (as_table d) (tables ds)

-- the same of a value, none where it isn't an array
abbrev pub as_tables : Data → Option (List Members)
as_tables d = option_and_then tables (as_array d)

-- there are 1 to 16
abbrev pub is_count : List Members → Bool
is_count steps = nat_le 1 (length steps) && nat_le (length steps) MAX_STEPS

-- what is wrong with the steps as a whole
unfoldable pub steps_fault : Members → Option JobFault
steps_fault ms = must_be key.Steps as_tables is_count (get_member (name_of key.Steps) ms)

-- the tables that a document has there, none where it has no such array
abbrev pub all_of : Option (List Members) → List Members
all_of steps = unwrap_or steps []

unfoldable pub tables_at : Members → List Members
tables_at ms = all_of (option_and_then as_tables (get_member (name_of key.Steps) ms))

-- the first fault of the steps for a job, each step with all of its own before the next
abbrev pub each_fault : JobFields → List Members → Option JobFault
each_fault job steps = first (map (step_fault job) steps)

-- the document's first fault: an unknown key, the steps as a whole, a step
abbrev pub list_fault : JobFields → Members → Option JobFault
list_fault job ms = first (
    option_map Unknown (unknown_but (key.Steps ∷ []) ms)
    ∷ steps_fault ms
    ∷ each_fault job (tables_at ms)
    ∷ [])

-- the list of a document with which nothing is wrong
abbrev pub steps_of : Members → List Step
steps_of ms = map step_of (tables_at ms)

abbrev pub list_in : JobFields → Option Members → Result (List Step) JobFault
list_in job None = Err Syntax
list_in job (Some ms) = checked (list_fault job ms) (steps_of ms)

-- what a text means as a list for a job; a text that isn't UTF-8 is no document
abbrev pub IsListOf : JobFields → List ℕ → Result (List Step) JobFault → Type 0
IsListOf job text answer =
    (IsUtf8 text × (answer ≡ list_in job (parse_document text)))
    ⊎ ((¬ IsUtf8 text) × (answer ≡ Err Syntax))

-- the answer is what the text means, or there was not enough memory
abbrev pub GivesList : JobFields → List ℕ → Result (Vec Step Global) JobFault → Type 0
GivesList job text (Ok steps) = IsListOf job text (Ok steps.items)
GivesList job text (Err WantOfMemory) = ⊤
GivesList job text (Err fault) = IsListOf job text (Err fault)
