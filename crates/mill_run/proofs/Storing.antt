-- The work of a command that stores a text: the store before it, and what is stored and printed.
use Rattle.std.proofs.Common.{◌≡◌, ◌⊎◌, ℕ, List, Option, None, Some, refl, sym, ap, subst, ◌∙◌, inl, inr}
use Rattle.std.proofs.Math.Path.{fun_ext}
use Rattle.mill_io.specs.Contents.{AppendedPart}
use Rattle.mill_io.specs.Readings.{AreHeld, Reading}
use Rattle.mill_io.specs.Views.{StoreView, ReadsOnly, WritesOnly, IsStored, IsPartStored, IsWritten}
use Rattle.mill_run.specs.Answers.{Answer, answer_file, answer_line, answer_status, NamedText}
use Rattle.mill_answer.specs.Calls.{Call, CanCount, HoldsReads}
use Rattle.mill_run.specs.Outcomes.{Stores, Outcome, no_memory, answered, outcome_file, FailsToPrint, FailsToStore, Shows, ShowsWhole}
use Rattle.mill_answer.specs.Prints.{Prints}
use Rattle.mill_run.specs.inner.Prints.{PrintsOutcome}
use Rattle.mill_answer.proofs.Counts.{rises}
use Rattle.mill_run.proofs.Serving.{same_store, printed_shows}

-- ---- the store is as it was

-- where no read failed, a store that was only read shows what it did before, but for its reads
pub same_view : (old new : StoreView) → ReadsOnly old new → new.read_faults ≡ old.read_faults → new ≡ record old { log = new.log }
same_view old new only reads = λ i. record {
  tells = only.tells i;
  contents = fun_ext (λ (name : List ℕ). only.contents name) i;
  read_faults = reads i;
  write_faults = only.write_faults i;
  log = new.log;
}

-- the call from a later view of the store on
abbrev pub from : Call → StoreView → Call
from call store = record { status = call.status; store = store; store_after = call.store_after; sink = call.sink; sink_after = call.sink_after }

-- what was read before a store shows in nothing else that it shows
module _ (old new : StoreView) (log : List Reading) where
  reads_anyhow : ReadsOnly (record old { log = log }) new → ReadsOnly old new
  reads_anyhow h = record { contents = h.contents; tells = h.tells; write_faults = h.write_faults }

  writes_anyhow : (name : List ℕ) → WritesOnly name (record old { log = log }) new → WritesOnly name old new
  writes_anyhow name h = record { others = h.others; tells = h.tells; read_faults = h.read_faults }

  stored_anyhow : (name text : List ℕ) → IsStored name text (record old { log = log }) new → IsStored name text old new
  stored_anyhow name text h = record { stored = h.stored; told = h.told; only = writes_anyhow name h.only; write_faults = h.write_faults }

  part_anyhow : (name text : List ℕ) → IsPartStored name text (record old { log = log }) new → IsPartStored name text old new
  part_anyhow name text h = record { stored = h.stored; only = writes_anyhow name h.only; write_faults = h.write_faults }

module _ (call : Call) (log : List Reading) where
  -- the call from where the reads of the store were these
  abbrev later : Call
  later = from call (record call.store { log = log })

  stores_anyhow : (file : Option NamedText) → Stores later file → Stores call file
  stores_anyhow None h = reads_anyhow call.store call.store_after log h
  stores_anyhow (Some file) h = stored_anyhow call.store call.store_after log file.name file.text h

  way_anyhow : (o : Outcome) → ShowsWhole later o ⊎ (FailsToStore later o ⊎ FailsToPrint later o) → ShowsWhole call o ⊎ (FailsToStore call o ⊎ FailsToPrint call o)
  way_anyhow o (inl w) = inl (record { status = w.status; printed = w.printed; stored = stores_anyhow (outcome_file o) w.stored })
  way_anyhow o (inr (inl f)) = inr (inl (record {
    file = f.file;
    text_is = f.text_is;
    status = f.status;
    silent = f.silent;
    stored = part_anyhow call.store call.store_after log f.file.name f.file.text f.stored;
    risen = f.risen;
  }))
  way_anyhow o (inr (inr f)) = inr (inr (record { status = f.status; printed = f.printed; risen = f.risen; stored = stores_anyhow (outcome_file o) f.stored }))

  pub logged_anyhow : (o : Outcome) → Shows later o → Shows call o
  logged_anyhow o h = record { reads = h.reads; way = way_anyhow o h.way }

-- files that hold what each read of the call gave hold what was given before the storing, which makes no read
pub holds_before : (contents : List ℕ → Option (List ℕ)) (call : Call) (store : StoreView) → call.store_after.log ≡ store.log → HoldsReads contents call → AreHeld contents call.store.log store.log
holds_before contents call store unread held = subst (λ (log : List Reading). AreHeld contents call.store.log log) unread held

pub holds_after : (contents : List ℕ → Option (List ℕ)) (call : Call) (store : StoreView) → call.store_after.log ≡ store.log → AreHeld contents call.store.log store.log → HoldsReads contents call
holds_after contents call store unread held = subst (λ (log : List Reading). AreHeld contents call.store.log log) (sym unread) held

pub untouched : (call : Call) → call.store_after ≡ call.store → ReadsOnly call.store call.store_after
untouched call same = subst (λ (v : StoreView). ReadsOnly call.store v) (sym same) (same_store call.store)

pub unread : (call : Call) → call.store_after ≡ call.store → call.store_after.read_faults ≡ call.store.read_faults
unread call same = ap (λ (v : StoreView). v.read_faults) same

pub short_shows : (call : Call) → call.store_after ≡ call.store → PrintsOutcome no_memory call.status call.sink call.sink_after → Shows call no_memory
short_shows call same p = printed_shows call no_memory refl (untouched call same) (unread call same) p

-- ---- storing and printing

-- the answer's text is stored, and then its line printed
pub stored_shows : (call : Call) (a : Answer) (name text line : List ℕ) → answer_file a ≡ Some (record { name = name; text = text }) → answer_status a ≡ 0 → line ≡ answer_line a
    → IsStored name text call.store call.store_after → Prints line 0 call.status call.sink call.sink_after → Shows call (answered a)
stored_shows call a name text line file_is done same stored p = which p
  where
    held : Stores call (answer_file a)
    held = subst (λ (f : Option NamedText). Stores call f) (sym file_is) stored

    which : Prints line 0 call.status call.sink call.sink_after → Shows call (answered a)
    which (inl w) = record {
      reads = stored.only.read_faults;
      way = inl (record { status = w.wanted_is ∙ sym done; printed = subst (λ (l : List ℕ). IsWritten l call.sink call.sink_after) same w.written; stored = held });
    }
    which (inr f) = record {
      reads = stored.only.read_faults;
      way = inr (inr (record { status = f.failed; printed = subst (λ (l : List ℕ). AppendedPart l call.sink.written call.sink_after.written) same f.written; risen = f.risen; stored = held }));
    }

-- the storing failed, and nothing is printed
pub unstored_shows : (call : Call) (a : Answer) (name text : List ℕ) → answer_file a ≡ Some (record { name = name; text = text }) → call.status ≡ 7 → call.sink_after ≡ call.sink
    → CanCount call.store call.sink → IsPartStored name text call.store call.store_after → Shows call (answered a)
unstored_shows call a name text file_is status silent room stored = record {
  reads = stored.only.read_faults;
  way = inr (inl (record {
    file = record { name = name; text = text };
    text_is = file_is;
    status = status;
    silent = silent;
    stored = stored;
    risen = rises _ _ room.writes stored.write_faults;
  }));
}
