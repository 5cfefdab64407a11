-- The set of commands, as clap's own definitions see it.
use Rattle.std.specs.Prelude.{◌≡◌, ℕ, [], ◌∷◌, codes, pos, Some, true, false}
use Rattle.clap.specs.Words.{App, Rule, Text, app_of, new_app, new_rule, with_rule, with_subcommand}
use Rattle.clap.specs.declared.builder.command.Command.{Command}
use Rattle.clap.specs.declared.builder.command.Command.TheViews.{out-Command}
use Rattle.clap.specs.declared.builder.value_parser.ValueParser.{ValueParser}
use Rattle.clap.specs.declared.builder.value_parser.ValueParser.TheVariants.{Signed}

-- a word that must stand at its place
abbrev pub place : Text → Rule
place id = record (new_rule id) { required = true; value_names = 1 }

-- an option with a value, that must be there
abbrev pub option : Text → Rule
option id = record (new_rule id) { long = Some id; required = true; value_names = 1 }

-- a number from 1 to this one
abbrev pub up_to : ℕ → ValueParser
up_to most = Signed (pos 1) (pos most)

-- how many workers there can be
abbrev pub count_parser : ValueParser
count_parser = up_to 64

-- how many squares a sample part can have along each side
abbrev pub size_parser : ValueParser
size_parser = up_to 100

-- the word for a sample part's size, a number that must be there
abbrev pub size : Rule
size = record (place (codes "n")) { parser = Some size_parser }

-- the option for how many workers, which is 1 where it isn't given
abbrev pub workers : Rule
workers = record (new_rule (codes "workers")) { long = Some (codes "workers"); defaults = codes "1" ∷ []; parser = Some count_parser; value_names = 1 }

-- a command on a job, with a number of workers
abbrev pub with_job : Text → App
with_job name = with_rule (with_rule (new_app name) workers) (place (codes "job"))

-- a command on a job and a part, with a number of workers
abbrev pub with_files : Text → App
with_files name = with_rule (with_job name) (place (codes "part"))

-- `verify JOB PART FILE`
abbrev pub verify : App
verify = with_rule (with_files (codes "verify")) (place (codes "file"))

-- `rest JOB PART LIST`
abbrev pub rest : App
rest = with_rule (with_files (codes "rest")) (place (codes "list"))

-- `plan JOB PART OUT`
abbrev pub plan : App
plan = with_rule (with_files (codes "plan")) (place (codes "out"))

-- `drop JOB PART --x=X --y=Y`
abbrev pub drop : App
drop = with_rule (with_rule (with_files (codes "drop")) (option (codes "x"))) (option (codes "y"))

-- `level JOB PART --z=Z`
abbrev pub level : App
level = with_rule (with_files (codes "level")) (option (codes "z"))

-- `stock JOB FILE OUT`
abbrev pub stock : App
stock = with_rule (with_rule (with_job (codes "stock")) (place (codes "file"))) (place (codes "out"))

-- `sample N`
abbrev pub sample : App
sample = with_rule (with_rule (new_app (codes "sample")) workers) size

-- the program: its words have no program name, it has a version, and one of its commands must be there
abbrev pub program : App
program = record (new_app (codes "camtool")) { top = record (new_app (codes "camtool")).top { no_binary_name = true; has_version = true; subcommand_required = true } }

-- with the commands that judge programs, with all on programs, with those on a part, and with the others
abbrev pub with_verdicts : App → App
with_verdicts a = with_subcommand (with_subcommand a verify.top) rest.top

abbrev pub with_programs : App → App
with_programs a = with_subcommand (with_verdicts a) plan.top

abbrev pub with_parts : App → App
with_parts a = with_subcommand (with_subcommand a drop.top) level.top

abbrev pub with_others : App → App
with_others a = with_subcommand (with_subcommand a stock.top) sample.top

-- the set of commands
abbrev pub commands : App
commands = with_others (with_parts (with_programs program))

-- the command is as clap sees this one, and none of its arguments is global
abbrev pub Is : App → Command → Type 0
Is app command = (app_of command ≡ app) × ((out-Command command).has_globals ≡ false)
