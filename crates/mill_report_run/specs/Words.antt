-- What the words of camreport ask for: `camreport JOB PART FILE [--workers=W]`.
use Rattle.std.specs.Prelude.{◌≡◌, ◌≤◌, ℕ, Bool, codes, true, false, if◌then◌else◌, List, Option, Some, None, Result, Ok, Err}
use Rattle.clap.specs.Words.{App, Kinds, Row, Text, fault_of, first_of, matches_of, new_app, takes, with_rule}
use Rattle.mill_command.specs.Requests.{AsksHelp, IsMistaken, number_in}
use Rattle.mill_command.specs.Set.{place, workers}
use Rattle.mill_command.specs.declared.refusal.Refusal.{Refusal}
use Rattle.mill_command.specs.declared.refusal.Refusal.TheVariants as refusal
use Rattle.mill_report_run.specs.declared.words.Asked.{Asked}
use Rattle.mill_answer.specs.Verify.{Files}

-- the names of the three files, and how many threads share the work
pub record Request : Type 0 where
  pub files : Files
  pub workers : ℕ

-- the number of threads is in its range
abbrev pub IsBounded : Request → Type 0
IsBounded asked = (1 ≤ asked.workers) × (asked.workers ≤ 64)

-- what the code read of the words
abbrev pub request_of : Asked → Request
request_of asked = record { files = record { job = asked.job.now; part = asked.part.now; program = asked.program.now }; workers = asked.workers }

-- ---- the words that clap takes

-- the program: its words have no program name, and it has a version
abbrev pub plain : App
plain = record (new_app (codes "camreport")) { top = record (new_app (codes "camreport")).top { no_binary_name = true; has_version = true } }

-- with the option for how many workers, which is 1 where it isn't given
abbrev pub with_workers : App
with_workers = with_rule plain workers

-- with the words for the job's and the part's file
abbrev pub with_setup : App
with_setup = with_rule (with_rule with_workers (place (codes "job"))) (place (codes "part"))

-- `camreport JOB PART FILE [--workers=W]`
abbrev pub taken_words : App
taken_words = with_rule with_setup (place (codes "file"))

-- clap takes the words: its own test
abbrev pub is_taken : List Text → Bool
is_taken words = takes taken_words words

-- the kinds of answer that clap may give in place of matches; none where it takes the words
abbrev pub faults : List Text → Kinds
faults words = fault_of taken_words words

-- ---- what they ask for

-- a request where each of its words is there
abbrev pub request_with : Option Text → Option Text → Option Text → Option ℕ → Option Request
request_with (Some job) (Some part) (Some program) (Some workers) = Some (record { files = record { job = job; part = part; program = program }; workers = workers })
request_with _ _ _ _ = None

-- the request by the values that clap gives under its ids
abbrev pub request_in : List Row → Option Request
request_in rows = request_with (first_of (codes "job") rows) (first_of (codes "part") rows) (first_of (codes "file") rows) (number_in (codes "workers") rows)

-- the request that the words make, where clap takes them
abbrev pub request : List Text → Option Request
request words = if is_taken words then request_in (matches_of taken_words words) else None

-- what reading the words comes to: what they ask for; or they aren't taken, and clap answers with help or a mistake; or memory was short
abbrev pub ReadsWords : List Text → Result Asked Refusal → Type 0
ReadsWords words (Ok asked) = request words ≡ Some (request_of asked)
ReadsWords words (Err (refusal.Help text)) = (is_taken words ≡ false) × AsksHelp (faults words)
ReadsWords words (Err (refusal.NotTaken text)) = (is_taken words ≡ false) × IsMistaken (faults words)
ReadsWords words (Err refusal.WantOfMemory) = Unit {0}

-- the words aren't taken, and clap may answer them with help or its version
pub record ShowsHelp (words : List Text) : Type 0 where
  pub untaken : is_taken words ≡ false
  pub asks : AsksHelp (faults words)

-- the words aren't taken, and clap may answer them with a mistake
pub record RefusesWords (words : List Text) : Type 0 where
  pub untaken : is_taken words ≡ false
  pub mistaken : IsMistaken (faults words)
