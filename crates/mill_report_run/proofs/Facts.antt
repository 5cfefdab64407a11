-- What the definitions say of words that are written out.
use Rattle.std.proofs.Common.{◌≡◌, ◌∷◌, [], codes, refl, Some}
use Rattle.clap.specs.declared.error.kind.ErrorKind.TheVariants as kind
use Rattle.clap.proofs.OnLiterals.{clap_on_literals}
use Rattle.mill_report_run.specs.Words.{faults, request}

files_named : request (codes "j" ∷ codes "p" ∷ codes "f" ∷ []) ≡ Some (record { files = record { job = codes "j"; part = codes "p"; program = codes "f" }; workers = 1 })
unfolding clap_on_literals
files_named = refl

workers_given : request (codes "j" ∷ codes "--workers=64" ∷ codes "p" ∷ codes "f" ∷ []) ≡ Some (record { files = record { job = codes "j"; part = codes "p"; program = codes "f" }; workers = 64 })
unfolding clap_on_literals
workers_given = refl

too_many_workers : faults (codes "j" ∷ codes "p" ∷ codes "f" ∷ codes "--workers=65" ∷ []) ≡ kind.ValueValidation ∷ []
unfolding clap_on_literals
too_many_workers = refl

no_workers : faults (codes "j" ∷ codes "p" ∷ codes "f" ∷ codes "--workers=0" ∷ []) ≡ kind.ValueValidation ∷ []
unfolding clap_on_literals
no_workers = refl

file_missing : faults (codes "j" ∷ codes "p" ∷ []) ≡ kind.MissingRequiredArgument ∷ []
unfolding clap_on_literals
file_missing = refl

no_words : faults [] ≡ kind.MissingRequiredArgument ∷ []
unfolding clap_on_literals
no_words = refl

word_too_many : faults (codes "j" ∷ codes "p" ∷ codes "f" ∷ codes "g" ∷ []) ≡ kind.UnknownArgument ∷ []
unfolding clap_on_literals
word_too_many = refl

help_wanted : faults (codes "--help" ∷ []) ≡ kind.DisplayHelp ∷ []
unfolding clap_on_literals
help_wanted = refl

version_wanted : faults (codes "j" ∷ codes "-V" ∷ []) ≡ kind.DisplayVersion ∷ []
unfolding clap_on_literals
version_wanted = refl
