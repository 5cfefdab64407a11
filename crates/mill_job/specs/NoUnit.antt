-- What a text means whose document names no unit: what the format would say of it without the key `unit`.
use Rattle.std.specs.Prelude.{◌≡◌, ℕ, List, ◌∷◌, ◌++◌, Option, Some, None, option_map, IfSome, Result, Ok, Err}
use Rattle.toml.specs.Data.{Members, get_member}
use Rattle.toml.specs.Parse.{parse_document}
use Rattle.mill_base.specs.declared.unit.Unit.TheVariants.{Hundredth}
use Rattle.mill_job.specs.Keys.{name_of, other_keys, unknown_but}
use Rattle.mill_job.specs.Tables.{first, checked}
use Rattle.mill_job.specs.Cutters.{cutter_faults}
use Rattle.mill_job.specs.Documents.{key_faults_in, relation_faults, job_with, job_of, IsJobOf}
use Rattle.mill_job.specs.declared.fields.JobFields.{JobFields}
use Rattle.mill_job.specs.declared.key.Key.TheVariants as key
use Rattle.mill_job.specs.declared.fault.JobFault.{JobFault}
use Rattle.mill_job.specs.declared.fault.JobFault.TheVariants.{Syntax, Unknown}

-- the document has no key `unit`
abbrev pub NamesNoUnit : Members → Type 0
NamesNoUnit ms = get_member (name_of key.Unit) ms ≡ None

-- the text has none, if it is a document
abbrev pub LacksUnit : List ℕ → Type 0
LacksUnit text = IfSome (parse_document text) NamesNoUnit

-- ---- the format without that key

-- the document's first fault: `unit` is unknown, and each coordinate is one in hundredths
abbrev pub hundredths_fault : Members → Option JobFault
hundredths_fault ms = first (option_map Unknown (unknown_but other_keys ms) ∷ key_faults_in Hundredth ms ++ cutter_faults ms ++ relation_faults (job_with Hundredth ms))

-- the job in hundredths of a document, or its first fault
abbrev pub in_hundredths : Option Members → Result JobFields JobFault
in_hundredths None = Err Syntax
in_hundredths (Some ms) = checked (hundredths_fault ms) (job_with Hundredth ms)

-- ---- the law

-- a text without a unit means what the format says without that key
abbrev pub MeansWithout : Type 0
MeansWithout = (text : List ℕ) → LacksUnit text → job_of text ≡ in_hundredths (parse_document text)

-- its job is in hundredths
abbrev pub IsInHundredths : Type 0
IsInHundredths = (text : List ℕ) (job : JobFields) → LacksUnit text → IsJobOf text (Ok job) → job.unit ≡ Hundredth
