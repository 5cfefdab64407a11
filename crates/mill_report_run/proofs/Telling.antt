-- What was read and what was printed, put together as the work on the files, and as that of a call.
use Rattle.std.proofs.Common.{◌≡◌, ℕ, List, Option, Some, None, Result, Ok, Err, refl, sym, ap, subst, inl, inr, true≢false}
use Rattle.std.specs.Prelude.{◌↔◌, IsSome}
use Rattle.mill_command.specs.declared.refusal.Refusal.{Refusal}
use Rattle.mill_command.specs.declared.refusal.Refusal.TheVariants as refusal
use Rattle.mill_io.specs.Views.{ReadsOnly, StoreView}
use Rattle.mill_answer.proofs.Counts.{rises}
use Rattle.mill_io.proofs.Held.{held_none}
use Rattle.mill_io.specs.Readings.{AreHeld, Reading}
use Rattle.mill_load.specs.Loads.{NamesFault, OnlyLoads}
use Rattle.mill_load.specs.declared.file.File.{File}
use Rattle.mill_load.specs.declared.load.LoadFault.{LoadFault}
use Rattle.mill_load.specs.declared.load.LoadFault.TheVariants.{Memory, ReadFault, Unfit}
use Rattle.mill_report_run.specs.Outcomes.{AreTextsOf, CountsReads, Fails, HasOutcome, IsOutcome, IsOutcomeOf, Outcome, Shows, bad_words, failed, help, name_in, reported}
use Rattle.mill_report_run.specs.Words.{ReadsWords, Request, request}
use Rattle.mill_report_run.specs.declared.load.Loaded.{Loaded}
use Rattle.mill_report_run.specs.inner.Loads.{IsReady, IsReportFile, Loads}
use Rattle.mill_report_run.specs.inner.Prints.{PrintsFault, PrintsOutcome, Serves, TriesReport, refusal_outcome}
use Rattle.mill_report_run.specs.inner.Sources.{texts_of_sources}
use Rattle.mill_answer.specs.Calls.{Call, CanCount, HoldsReads}
use Rattle.mill_answer.specs.Verify.{Files, texts_of}

-- what was printed of an outcome shows it
pub outcome_shows : (call : Call) (o : Outcome) → ReadsOnly call.store call.store_after → CountsReads o call.store.read_faults call.store_after.read_faults
    → PrintsOutcome o call.status call.sink call.sink_after → Shows call o
outcome_shows call o only reads p = record { text = p.text; text_is = p.is; printed = p.printed; only = only; reads = reads }

-- ---- the files

-- the report on what was read was printed, or that memory was short
pub report_serves : (files : Files) (call : Call) (l : Loaded) → ((contents : List ℕ → Option (List ℕ)) → HoldsReads contents call → AreTextsOf (texts_of contents files) (texts_of_sources l.sources))
    → IsReady l → (let r : Result Loaded LoadFault = Ok l in OnlyLoads call.store call.store_after r) → TriesReport l call.status call.sink call.sink_after → Serves files call
report_serves files call l agree ready loads (inl p) = record {
  outcome = reported (record { texts = texts_of_sources l.sources; job = l.setup.job.fields; part = l.setup.part; moves = l.moves.items; report = p.report; status = p.code });
  is = λ contents held. record { agree = agree contents held; job_ok = l.setup.job.is_job; moves_ok = ready.moves_ok; is = p.is };
  held = loads.held;
  fails = tt;
  shows = record { text = p.report; text_is = refl; printed = p.printed; only = loads.only; reads = loads.reads };
}
report_serves files call l agree ready loads (inr m) =
    record { outcome = failed Memory; is = λ contents held. tt; held = loads.held; fails = tt; shows = outcome_shows call (failed Memory) loads.only loads.reads m }

-- what kept the call from a report was printed
pub fault_serves : (files : Files) (call : Call) (f : LoadFault) → ((contents : List ℕ → Option (List ℕ)) → HoldsReads contents call → Loads (texts_of contents files) (Err f))
    → NamesFault (name_in files) call.store_after.log f → CanCount call.store call.sink
    → (let r : Result Loaded LoadFault = Err f in OnlyLoads call.store call.store_after r) → PrintsFault f call.status call.sink call.sink_after → Serves files call
fault_serves files call Memory is named room loads p =
    record { outcome = failed Memory; is = λ contents held. tt; held = loads.held; fails = tt; shows = outcome_shows call (failed Memory) loads.only loads.reads p }
fault_serves files call (ReadFault file) is named room loads p =
    record { outcome = failed (ReadFault file); is = is; held = loads.held; fails = named; shows = outcome_shows call (failed (ReadFault file)) loads.only (rises _ _ room.reads loads.reads) p }
fault_serves files call (Unfit fault) is named room loads (inl p) =
    record { outcome = failed (Unfit fault); is = is; held = loads.held; fails = tt; shows = outcome_shows call (failed (Unfit fault)) loads.only loads.reads p }
fault_serves files call (Unfit fault) is named room loads (inr m) =
    record { outcome = failed Memory; is = λ contents held. tt; held = loads.held; fails = tt; shows = outcome_shows call (failed Memory) loads.only loads.reads m }

-- ---- the words

one_request : (o : Option Request) (a b : Request) → o ≡ Some a → o ≡ Some b → a ≡ b
one_request o a b e h = cc

-- words that are taken, and the work on their files
pub served_outcome : (words : List (List ℕ)) (call : Call) (asked : Request) → request words ≡ Some asked → Serves asked.files call → HasOutcome words call
served_outcome words call asked taken s = record {
  outcome = s.outcome;
  is = λ contents held. of_words contents s.outcome (s.is contents held);
  held = s.held;
  fails = λ other is. subst (λ (r : Request). Fails r.files call.store_after.log s.outcome) (one_request (request words) asked other taken is) s.fails;
  shows = s.shows;
}
  where
    of_words : (contents : List ℕ → Option (List ℕ)) (o : Outcome) → IsOutcome (texts_of contents asked.files) o → IsOutcomeOf words contents o
    of_words contents (help shown) is = absurd is
    of_words contents (bad_words shown) is = absurd is
    of_words contents (failed Memory) is = tt
    of_words contents (failed (ReadFault file)) is = record { asked = asked; taken = taken; is = is }
    of_words contents (failed (Unfit fault)) is = record { asked = asked; taken = taken; is = is }
    of_words contents (reported r) is = record { asked = asked; taken = taken; is = is }

refusal_is : (words : List (List ℕ)) (contents : List ℕ → Option (List ℕ)) (r : Refusal) → ReadsWords words (Err r) → IsOutcomeOf words contents (refusal_outcome r)
refusal_is words contents (refusal.Help text) h = record { untaken = h.0; asks = h.1 }
refusal_is words contents (refusal.NotTaken text) h = record { untaken = h.0; mistaken = h.1 }
refusal_is words contents refusal.WantOfMemory h = tt

refusal_fails : (files : Files) (log : List Reading) (r : Refusal) → Fails files log (refusal_outcome r)
refusal_fails files log (refusal.Help text) = tt
refusal_fails files log (refusal.NotTaken text) = tt
refusal_fails files log refusal.WantOfMemory = tt

refusal_reads : (r : Refusal) (a b : ℕ) → b ≡ a → CountsReads (refusal_outcome r) a b
refusal_reads (refusal.Help text) a b e = e
refusal_reads (refusal.NotTaken text) a b e = e
refusal_reads refusal.WantOfMemory a b e = e

pub same_store : (store : StoreView) → ReadsOnly store store
same_store store = record { contents = λ name. refl; tells = refl; write_faults = refl }

-- words that aren't taken
pub refused_outcome : (words : List (List ℕ)) (call : Call) (r : Refusal) → ReadsWords words (Err r) → call.store_after ≡ call.store
    → PrintsOutcome (refusal_outcome r) call.status call.sink call.sink_after → HasOutcome words call
refused_outcome words call r h same p = record {
  outcome = refusal_outcome r;
  is = λ contents held. refusal_is words contents r h;
  held = subst (λ (v : StoreView). AreHeld call.store.contents call.store.log v.log) (sym same) (held_none call.store.contents call.store.log);
  fails = λ asked is. refusal_fails asked.files call.store_after.log r;
  shows = outcome_shows call (refusal_outcome r) (subst (λ (v : StoreView). ReadsOnly call.store v) (sym same) (same_store call.store))
      (refusal_reads r _ _ (ap (λ (v : StoreView). v.read_faults) same)) p;
}

-- ---- a file that couldn't be read

none_is : {T : Type 0} (o : Option T) → IsSome o → o ≡ None → ⊥
none_is None some e = absurd (true≢false (sym some))
none_is (Some x) some e = cc

-- one of the three has a text that tells so
pub has_text : {T : Type 0} (file : File) (o : Option T) → IsSome o ↔ IsReportFile file → IsReportFile file → o ≡ None → ⊥
has_text file o files is e = none_is o (files.1 is) e
