-- What printing an outcome comes to.
use Rattle.std.specs.Prelude.{◌⊎◌, ℕ, List, Option, string_bytes}
use Rattle.mill_command.specs.declared.refusal.Refusal.{Refusal}
use Rattle.mill_command.specs.declared.refusal.Refusal.TheVariants as refusal
use Rattle.mill_io.specs.Views.{SinkView}
use Rattle.mill_answer.specs.Prints.{Prints}
use Rattle.mill_load.specs.declared.load.LoadFault.{LoadFault}
use Rattle.mill_load.specs.declared.load.LoadFault.TheVariants.{Memory, ReadFault, Unfit}
use Rattle.mill_report_run.specs.Outcomes.{Fails, IsOutcome, IsTextOf, Outcome, Shows, bad_words, failed, help, outcome_status}
use Rattle.mill_report_run.specs.declared.load.Loaded.{Loaded}
use Rattle.mill_report_run.specs.Reports.{IsReportText}
use Rattle.mill_report_run.specs.inner.Sources.{texts_of_sources}
use Rattle.mill_answer.specs.Calls.{Call, HoldsReads}
use Rattle.mill_answer.specs.Verify.{Files, texts_of}

-- a text of this outcome is printed, with its status
pub record PrintsOutcome (outcome : Outcome) (status : ℕ) (sink sink_after : SinkView) : Type 0 where
  pub text : List ℕ
  pub is : IsTextOf outcome text
  pub printed : Prints text (outcome_status outcome) status sink sink_after

-- that memory was short is printed
abbrev pub PrintsShort : ℕ → SinkView → SinkView → Type 0
PrintsShort status sink sink_after = PrintsOutcome (failed Memory) status sink sink_after

-- which outcome a refusal is
abbrev pub refusal_outcome : Refusal → Outcome
refusal_outcome (refusal.Help text) = help (string_bytes text)
refusal_outcome (refusal.NotTaken text) = bad_words (string_bytes text)
refusal_outcome refusal.WantOfMemory = failed Memory

-- what kept a call from a report is printed; that of refused files needs memory
abbrev pub PrintsFault : LoadFault → ℕ → SinkView → SinkView → Type 0
PrintsFault Memory status sink sink_after = PrintsShort status sink sink_after
PrintsFault (ReadFault file) status sink sink_after = PrintsOutcome (failed (ReadFault file)) status sink sink_after
PrintsFault (Unfit fault) status sink sink_after = PrintsOutcome (failed (Unfit fault)) status sink sink_after ⊎ PrintsShort status sink sink_after

-- the report on what was read is printed, with its status
pub record TellsReport (l : Loaded) (status : ℕ) (sink sink_after : SinkView) : Type 0 where
  pub report : List ℕ
  pub code : ℕ
  pub is : IsReportText (texts_of_sources l.sources) l.setup.job.fields l.setup.part l.moves.items report code
  pub printed : Prints report code status sink sink_after

-- so it is, or it is printed that memory was short
abbrev pub TriesReport : Loaded → ℕ → SinkView → SinkView → Type 0
TriesReport l status sink sink_after = TellsReport l status sink sink_after ⊎ PrintsShort status sink sink_after

-- the work on these files came to one outcome, which is right by whatever they hold, if they hold what the reads gave, and shows it; the contents that the store tells hold that
pub record Serves (files : Files) (call : Call) : Type 0 where
  pub outcome : Outcome
  pub is : (contents : List ℕ → Option (List ℕ)) → HoldsReads contents call → IsOutcome (texts_of contents files) outcome
  pub held : HoldsReads call.store.contents call
  pub fails : Fails files call.store_after.log outcome
  pub shows : Shows call outcome
