-- What words ask for.
use Rattle.std.specs.Prelude.{◌≡◌, ◌≢◌, ◌⊎◌, ◌≤◌, bytes_eq, codes, ℕ, Bool, false, if◌then◌else◌, List, Option, Some, None, option_and_then, Result, Ok, Err}
use Rattle.std.specs.Str.Parse.{digits_value, without_leading_plus}
use Rattle.clap.specs.Words.{IsAmong, Kinds, Row, Text, fault_of, first_of, one_of, subcommand_of, takes}
use Rattle.clap.specs.ValueTests.{is_unsigned_in}
use Rattle.clap.specs.declared.error.kind.ErrorKind.{ErrorKind}
use Rattle.clap.specs.declared.error.kind.ErrorKind.TheVariants.{DisplayHelp, DisplayVersion}
use Rattle.mill_command.specs.Set.{commands}
use Rattle.mill_command.specs.declared.command.Command.{Command}
use Rattle.mill_command.specs.declared.command.Command.TheVariants as command
use Rattle.mill_command.specs.declared.refusal.Refusal.{Refusal}
use Rattle.mill_command.specs.declared.refusal.Refusal.TheVariants as refusal

-- a command with its words: the names of files, coordinates as they were written, the size of a sample part, and the number of workers
pub data Request : Type 0 where
  verify : Text → Text → Text → ℕ → Request
  rest : Text → Text → Text → ℕ → Request
  plan : Text → Text → Text → ℕ → Request
  drop : Text → Text → Text → Text → Request
  level : Text → Text → Text → Request
  stock : Text → Text → Text → Request
  sample : ℕ → ℕ → Request

-- what a command of the code says
abbrev pub request_of : Command → Request
request_of (command.Verify job part file workers) = verify job.now part.now file.now workers
request_of (command.Rest job part list workers) = rest job.now part.now list.now workers
request_of (command.Plan job part out workers) = plan job.now part.now out.now workers
request_of (command.Drop job part x y) = drop job.now part.now x.now y.now
request_of (command.Level job part z) = level job.now part.now z.now
request_of (command.Stock job file out) = stock job.now file.now out.now
request_of (command.Sample size workers) = sample size workers

-- the numbers that a request has are in their ranges: workers from 1 to 64, the size of a sample part from 1 to 100
abbrev pub IsBounded : Request → Type 0
IsBounded (verify job part file workers) = (1 ≤ workers) × (workers ≤ 64)
IsBounded (rest job part list workers) = (1 ≤ workers) × (workers ≤ 64)
IsBounded (plan job part out workers) = (1 ≤ workers) × (workers ≤ 64)
IsBounded (drop job part x y) = Unit {0}
IsBounded (level job part z) = Unit {0}
IsBounded (stock job file out) = Unit {0}
IsBounded (sample size workers) = (1 ≤ size) × (size ≤ 100) × (1 ≤ workers) × (workers ≤ 64)

-- the number of `u32` that a text stands for
abbrev pub number_of : Text → Option ℕ
number_of text = if is_unsigned_in 0 4294967295 text then Some (digits_value 10 (without_leading_plus text)) else None

-- the number that clap's values say under an id
abbrev pub number_in : Text → List Row → Option ℕ
number_in id rows = option_and_then number_of (one_of id rows)

-- `verify` where each of its words is there
abbrev pub verify_of : Option Text → Option Text → Option Text → Option ℕ → Option Request
verify_of (Some job) (Some part) (Some file) (Some workers) = Some (verify job part file workers)
verify_of _ _ _ _ = None

-- `rest` where each of its words is there
abbrev pub rest_of : Option Text → Option Text → Option Text → Option ℕ → Option Request
rest_of (Some job) (Some part) (Some list) (Some workers) = Some (rest job part list workers)
rest_of _ _ _ _ = None

-- `plan` where each of its words is there
abbrev pub plan_of : Option Text → Option Text → Option Text → Option ℕ → Option Request
plan_of (Some job) (Some part) (Some out) (Some workers) = Some (plan job part out workers)
plan_of _ _ _ _ = None

-- `drop` where each of its words is there
abbrev pub drop_of : Option Text → Option Text → Option Text → Option Text → Option Request
drop_of (Some job) (Some part) (Some x) (Some y) = Some (drop job part x y)
drop_of _ _ _ _ = None

-- `level` where each of its words is there
abbrev pub level_of : Option Text → Option Text → Option Text → Option Request
level_of (Some job) (Some part) (Some z) = Some (level job part z)
level_of _ _ _ = None

-- `stock` where each of its words is there
abbrev pub stock_of : Option Text → Option Text → Option Text → Option Request
stock_of (Some job) (Some file) (Some out) = Some (stock job file out)
stock_of _ _ _ = None

-- `sample` where both of its numbers are there
abbrev pub sample_of : Option ℕ → Option ℕ → Option Request
sample_of (Some size) (Some workers) = Some (sample size workers)
sample_of _ _ = None

-- the request of a subcommand's name and of the values that clap gives under its ids
abbrev pub request_in : Text → List Row → Option Request
request_in name rows =
    if bytes_eq name (codes "verify") then verify_of (first_of (codes "job") rows) (first_of (codes "part") rows) (first_of (codes "file") rows) (number_in (codes "workers") rows)
    else (if bytes_eq name (codes "rest") then rest_of (first_of (codes "job") rows) (first_of (codes "part") rows) (first_of (codes "list") rows) (number_in (codes "workers") rows)
    else (if bytes_eq name (codes "plan") then plan_of (first_of (codes "job") rows) (first_of (codes "part") rows) (first_of (codes "out") rows) (number_in (codes "workers") rows)
    else (if bytes_eq name (codes "drop") then drop_of (first_of (codes "job") rows) (first_of (codes "part") rows) (first_of (codes "x") rows) (first_of (codes "y") rows)
    else (if bytes_eq name (codes "level") then level_of (first_of (codes "job") rows) (first_of (codes "part") rows) (first_of (codes "z") rows)
    else (if bytes_eq name (codes "stock") then stock_of (first_of (codes "job") rows) (first_of (codes "file") rows) (first_of (codes "out") rows)
    else (if bytes_eq name (codes "sample") then sample_of (number_in (codes "n") rows) (number_in (codes "workers") rows)
    else None))))))

-- clap takes the words: its own test, for this set of commands
abbrev pub is_taken : List Text → Bool
is_taken words = takes commands words

-- the request that the words make: where clap takes them, that of the subcommand that they name
abbrev pub request : List Text → Option Request
request words = if is_taken words then option_and_then (λ m. request_in m.0 m.1) (subcommand_of commands words) else None

-- the kinds of answer that clap may give in place of matches; none where it takes the words
abbrev pub faults : List Text → Kinds
faults words = fault_of commands words

-- clap may answer with its help or its version
abbrev pub AsksHelp : Kinds → Type 0
AsksHelp kinds = (kind : ErrorKind) × IsAmong kind kinds × ((kind ≡ DisplayHelp) ⊎ (kind ≡ DisplayVersion))

-- clap may answer with a mistake in the words
abbrev pub IsMistaken : Kinds → Type 0
IsMistaken kinds = (kind : ErrorKind) × IsAmong kind kinds × (kind ≢ DisplayHelp) × (kind ≢ DisplayVersion)

-- the refusal is among what clap may answer
abbrev pub Refuses : Kinds → Refusal → Type 0
Refuses kinds (refusal.Help text) = AsksHelp kinds
Refuses kinds (refusal.NotTaken text) = IsMistaken kinds
Refuses kinds refusal.WantOfMemory = Unit {0}

-- what reading the words comes to: the command that they ask for; or they aren't taken, and clap answers with help or a mistake; or memory was short
abbrev pub ReadsWords : List Text → Result Command Refusal → Type 0
ReadsWords words (Ok c) = request words ≡ Some (request_of c)
ReadsWords words (Err (refusal.Help text)) = (is_taken words ≡ false) × AsksHelp (faults words)
ReadsWords words (Err (refusal.NotTaken text)) = (is_taken words ≡ false) × IsMistaken (faults words)
ReadsWords words (Err refusal.WantOfMemory) = Unit {0}
