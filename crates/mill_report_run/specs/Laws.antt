-- The law that a call has one document, where its files are told.
use Rattle.std.specs.Prelude.{◌≡◌, ℕ, List, Option}
use Rattle.mill_load.specs.declared.load.LoadFault.TheVariants.{Unfit}
use Rattle.mill_report_run.specs.Outcomes.{IsOutcome, IsTextOf, Outcome, failed, outcome_status, reported}
use Rattle.mill_answer.specs.Verify.{AreTold, Files, texts_of}

-- the files decide it: a report, or what keeps them from one, but neither want of memory nor a failed read
abbrev pub IsDecided : Outcome → Type 0
IsDecided (failed (Unfit fault)) = Unit {0}
IsDecided (reported r) = Unit {0}
IsDecided outcome = ⊥

-- the work on the same files, each of which is told, has one document and one status, whatever number of threads shares it
abbrev pub OneDocument : Type 0
OneDocument = (contents : List ℕ → Option (List ℕ)) (files : Files) (a b : Outcome) (s t : List ℕ) → AreTold (texts_of contents files) → IsDecided a → IsDecided b
    → IsOutcome (texts_of contents files) a → IsOutcome (texts_of contents files) b → IsTextOf a s → IsTextOf b t → (s ≡ t) × (outcome_status a ≡ outcome_status b)
