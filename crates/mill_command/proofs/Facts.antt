-- What the definitions say of words that are written out.
use Rattle.std.proofs.Common.{◌≡◌, ◌∷◌, [], codes, refl, Some}
use Rattle.clap.specs.declared.error.kind.ErrorKind.TheVariants as kind
use Rattle.clap.proofs.OnLiterals.{clap_on_literals}
use Rattle.mill_command.specs.Requests.{faults, request, verify, rest, plan, drop, level, stock, sample}

verify_of_files : request (codes "verify" ∷ codes "j" ∷ codes "p" ∷ codes "f" ∷ []) ≡ Some (verify (codes "j") (codes "p") (codes "f") 1)
unfolding clap_on_literals
verify_of_files = refl

workers_given : request (codes "verify" ∷ codes "--workers=64" ∷ codes "j" ∷ codes "p" ∷ codes "f" ∷ []) ≡ Some (verify (codes "j") (codes "p") (codes "f") 64)
unfolding clap_on_literals
workers_given = refl

too_many_workers : faults (codes "verify" ∷ codes "j" ∷ codes "p" ∷ codes "f" ∷ codes "--workers=65" ∷ []) ≡ kind.ValueValidation ∷ []
unfolding clap_on_literals
too_many_workers = refl

no_workers : faults (codes "verify" ∷ codes "j" ∷ codes "p" ∷ codes "f" ∷ codes "--workers=0" ∷ []) ≡ kind.ValueValidation ∷ []
unfolding clap_on_literals
no_workers = refl

drop_at_place : request (codes "drop" ∷ codes "--y=2" ∷ codes "j" ∷ codes "--x=-1" ∷ codes "p" ∷ []) ≡ Some (drop (codes "j") (codes "p") (codes "-1") (codes "2"))
unfolding clap_on_literals
drop_at_place = refl

value_apart : faults (codes "drop" ∷ codes "j" ∷ codes "p" ∷ codes "--x" ∷ codes "-1" ∷ codes "--y=2" ∷ []) ≡ kind.UnknownArgument ∷ []
unfolding clap_on_literals
value_apart = refl

file_missing : faults (codes "verify" ∷ codes "j" ∷ codes "p" ∷ []) ≡ kind.MissingRequiredArgument ∷ []
unfolding clap_on_literals
file_missing = refl

no_words : faults [] ≡ kind.MissingSubcommand ∷ []
unfolding clap_on_literals
no_words = refl

help_wanted : faults (codes "verify" ∷ codes "--help" ∷ []) ≡ kind.DisplayHelp ∷ []
unfolding clap_on_literals
help_wanted = refl

version_wanted : faults (codes "--version" ∷ []) ≡ kind.DisplayVersion ∷ []
unfolding clap_on_literals
version_wanted = refl

-- the two words that clap's definition leaves open: help on commands, or a command that isn't there
help_on : faults (codes "help" ∷ []) ≡ kind.DisplayHelp ∷ kind.InvalidSubcommand ∷ []
unfolding clap_on_literals
help_on = refl

rest_of_list : request (codes "rest" ∷ codes "j" ∷ codes "--workers=64" ∷ codes "p" ∷ codes "l" ∷ []) ≡ Some (rest (codes "j") (codes "p") (codes "l") 64)
unfolding clap_on_literals
rest_of_list = refl

rest_of_one_worker : request (codes "rest" ∷ codes "j" ∷ codes "p" ∷ codes "l" ∷ []) ≡ Some (rest (codes "j") (codes "p") (codes "l") 1)
unfolding clap_on_literals
rest_of_one_worker = refl

rest_of_too_many : faults (codes "rest" ∷ codes "j" ∷ codes "p" ∷ codes "l" ∷ codes "--workers=65" ∷ []) ≡ kind.ValueValidation ∷ []
unfolding clap_on_literals
rest_of_too_many = refl

list_missing : faults (codes "rest" ∷ codes "j" ∷ codes "p" ∷ []) ≡ kind.MissingRequiredArgument ∷ []
unfolding clap_on_literals
list_missing = refl

plan_to_file : request (codes "plan" ∷ codes "j" ∷ codes "--workers=2" ∷ codes "p" ∷ codes "o" ∷ []) ≡ Some (plan (codes "j") (codes "p") (codes "o") 2)
unfolding clap_on_literals
plan_to_file = refl

out_missing : faults (codes "plan" ∷ codes "j" ∷ codes "p" ∷ []) ≡ kind.MissingRequiredArgument ∷ []
unfolding clap_on_literals
out_missing = refl

level_at_height : request (codes "level" ∷ codes "j" ∷ codes "--z=-1.5" ∷ codes "p" ∷ []) ≡ Some (level (codes "j") (codes "p") (codes "-1.5"))
unfolding clap_on_literals
level_at_height = refl

height_missing : faults (codes "level" ∷ codes "j" ∷ codes "p" ∷ []) ≡ kind.MissingRequiredArgument ∷ []
unfolding clap_on_literals
height_missing = refl

stock_to_file : request (codes "stock" ∷ codes "j" ∷ codes "--workers=2" ∷ codes "p" ∷ codes "o" ∷ []) ≡ Some (stock (codes "j") (codes "p") (codes "o"))
unfolding clap_on_literals
stock_to_file = refl

stock_missing : faults (codes "stock" ∷ codes "j" ∷ codes "p" ∷ []) ≡ kind.MissingRequiredArgument ∷ []
unfolding clap_on_literals
stock_missing = refl

sample_of_size : request (codes "sample" ∷ codes "100" ∷ []) ≡ Some (sample 100 1)
unfolding clap_on_literals
sample_of_size = refl

no_size : faults (codes "sample" ∷ codes "0" ∷ []) ≡ kind.ValueValidation ∷ []
unfolding clap_on_literals
no_size = refl

too_large_a_size : faults (codes "sample" ∷ codes "101" ∷ codes "--workers=2" ∷ []) ≡ kind.ValueValidation ∷ []
unfolding clap_on_literals
too_large_a_size = refl

size_missing : faults (codes "sample" ∷ []) ≡ kind.MissingRequiredArgument ∷ []
unfolding clap_on_literals
size_missing = refl
