-- What was read and what was printed, put together as the work on a request.
use Rattle.std.proofs.Common.{◌≡◌, ◌⊎◌, ℕ, List, Option, Some, None, Result, Ok, Err, refl, sym, ap, subst, inl, inr}
use Rattle.std.specs.Prelude.{IfOk, ℤ}
use Rattle.std.specs.Global.{Vec}
use Rattle.mill_base.specs.declared.memory.WantOfMemory.{WantOfMemory}
use Rattle.mill_command.specs.Requests.{ReadsWords, Request, request, verify, drop, level}
use Rattle.mill_command.specs.declared.refusal.Refusal.{Refusal}
use Rattle.mill_command.specs.declared.refusal.Refusal.TheVariants as refusal
use Rattle.mill_decimal.specs.declared.fault.DecFault.{DecFault}
use Rattle.mill_io.proofs.Held.{held_none}
use Rattle.mill_io.specs.Readings.{AreHeld, LastFails, Reading}
use Rattle.mill_io.specs.Views.{StoreView, SinkView, ReadsOnly}
use Rattle.mill_base.specs.declared.points.Tri.{Tri}
use Rattle.mill_job.specs.declared.fields.JobFields.{JobFields}
use Rattle.mill_job.specs.declared.job.Job.{Job}
use Rattle.mill_load.specs.declared.file.File.{File}
use Rattle.mill_load.specs.declared.file.File.TheVariants.{Job as JobFile, Part as PartFile, Program as ProgramFile, List as ListFile, StepProgram}
use Rattle.mill_load.specs.declared.load.LoadFault.{LoadFault}
use Rattle.mill_load.specs.declared.load.LoadFault.TheVariants as load_fault
use Rattle.mill_load.specs.declared.load.Unfit.TheVariants.{TooLong, JobRefused, PartRefused, ListRefused, ProgramRefused, PartTop}
use Rattle.mill_load.specs.declared.load.Setup.{Setup}
use Rattle.mill_load.specs.declared.place.Coordinate.{Coordinate}
use Rattle.mill_job.specs.declared.fields.Place.{Place}
use Rattle.mill_run.specs.declared.verify.Loaded.{Loaded}
use Rattle.mill_run.specs.Answers.{Answer, refused_word, unfit, judged, dropped, leveled, answer_status, answer_line, NamedText}
use Rattle.mill_answer.specs.Calls.{Call, CanCount, HoldsReads}
use Rattle.mill_run.specs.Outcomes.{Stores, Outcome, help, bad_words, no_memory, read_fault, answered, outcome_file, file_name, Fails, FailsAt, IsOutcome, IsOutcomeOf, CountsReads, Shows, ShowsOr, Serves, HasOutcome}
use Rattle.mill_run.specs.Drop.{HasPlace}
use Rattle.mill_load.specs.Places.{ReadsPlace, RefusesWord, ReadsHeight, RefusesZ}
use Rattle.mill_run.specs.Level.{HasHeight}
use Rattle.mill_run.specs.inner.Loads.{IsReady, Loads}
use Rattle.mill_load.specs.Loads.{LoadsProgram, LoadsSetup, NamesFault, OnlyLoads}
use Rattle.mill_answer.specs.Prints.{Prints, PrintsMade, PrintsFault}
use Rattle.mill_run.specs.inner.Prints.{PrintsOutcome, PrintsOr, fault_outcome, refusal_outcome, TriesVerdict, TriesHeight, TriesLevel}
use Rattle.mill_load.specs.Setup.{setup_texts, ReadsJob, ReadsSetup}
use Rattle.mill_answer.specs.Verify.{Texts, texts_of, IsReadBeforeProgram, IsUnfitProgram}
use Rattle.mill_answer.proofs.Counts.{rises}
use Rattle.mill_load.proofs.Reading.{HasFault}
use Rattle.mill_run.proofs.Taken.{same_request}

-- ---- where nothing is stored

-- the store is as it was but for failed reads, and what was printed is the outcome's
pub printed_shows : (call : Call) (o : Outcome) → outcome_file o ≡ None → ReadsOnly call.store call.store_after
    → CountsReads o call.store.read_faults call.store_after.read_faults → PrintsOutcome o call.status call.sink call.sink_after → Shows call o
printed_shows call o none only reads (inl p) = record {
  reads = reads;
  way = inl (record { status = p.wanted_is; printed = p.written; stored = subst (λ (f : Option NamedText). Stores call f) (sym none) only });
}
printed_shows call o none only reads (inr p) = record {
  reads = reads;
  way = inr (inr (record { status = p.failed; printed = p.written; risen = p.risen; stored = subst (λ (f : Option NamedText). Stores call f) (sym none) only }));
}

-- memory was short
pub short_serves : (asked : Request) (call : Call) → HoldsReads call.store.contents call → Shows call no_memory → Serves asked call
short_serves asked call own m = record { outcome = no_memory; is = λ contents held. tt; failed = λ contents held. tt; held = own; shows = m }

-- an answer is printed that stores nothing, or memory was short
pub answer_shows : (call : Call) (a : Answer) → outcome_file (answered a) ≡ None → ReadsOnly call.store call.store_after → call.store_after.read_faults ≡ call.store.read_faults
    → PrintsOr (answered a) call.status call.sink call.sink_after → ShowsOr (answered a) call
answer_shows call a none only reads (inl p) = inl (printed_shows call (answered a) none only reads p)
answer_shows call a none only reads (inr m) = inr (printed_shows call no_memory refl only reads m)

-- so the work on a request is done, if this is its answer
pub answer_serves : (asked : Request) (call : Call) (a : Answer) → ((contents : List ℕ → Option (List ℕ)) → HoldsReads contents call → IsOutcome contents asked (answered a)) → HoldsReads call.store.contents call
    → ShowsOr (answered a) call → Serves asked call
answer_serves asked call a is own (inl s) = record { outcome = answered a; is = is; failed = λ contents held. tt; held = own; shows = s }
answer_serves asked call a is own (inr m) = short_serves asked call own m

-- what kept a command from its files is printed
pub fault_serves : {T : Type 0} (asked : Request) (call : Call) (f : LoadFault) → ((contents : List ℕ → Option (List ℕ)) → HoldsReads contents call → IsOutcome contents asked (fault_outcome f))
    → ((contents : List ℕ → Option (List ℕ)) → HoldsReads contents call → Fails contents asked call.store_after.log (fault_outcome f)) → CanCount call.store call.sink
    → (let r : Result T LoadFault = Err f in OnlyLoads call.store call.store_after r) → PrintsFault f call.status call.sink call.sink_after → Serves asked call
fault_serves asked call load_fault.Memory is failed room loads p = short_serves asked call loads.held (printed_shows call no_memory refl loads.only loads.reads p)
fault_serves asked call (load_fault.ReadFault file) is failed room loads p =
    record { outcome = read_fault file; is = is; failed = failed; held = loads.held; shows = printed_shows call (read_fault file) refl loads.only (rises _ _ room.reads loads.reads) p }
fault_serves asked call (load_fault.Unfit fault) is failed room loads p =
    answer_serves asked call (unfit fault) is loads.held (answer_shows call (unfit fault) refl loads.only loads.reads p)

-- a read fault is that of the file that it names, which isn't the program of a list
pub fails_named : (contents : List ℕ → Option (List ℕ)) (asked : Request) (log : List Reading) (f : LoadFault) → ((file : File) → LastFails (file_name asked file) log → FailsAt contents asked file log)
    → NamesFault (file_name asked) log f → Fails contents asked log (fault_outcome f)
fails_named contents asked log load_fault.Memory one h = tt
fails_named contents asked log (load_fault.ReadFault file) one h = one file h
fails_named contents asked log (load_fault.Unfit fault) one h = tt

-- ---- lines

-- the line that was made is this text, or memory was short
pub text_prints : (line : Result (Vec ℕ) WantOfMemory) (text : List ℕ) (wanted status : ℕ) (sink sink_after : SinkView) → IfOk line (λ v. v.items ≡ text)
    → PrintsMade line wanted status sink sink_after → Prints text wanted status sink sink_after ⊎ PrintsOutcome no_memory status sink sink_after
text_prints (Ok v) text wanted status sink sink_after same p = inl (subst (λ (l : List ℕ). Prints l wanted status sink sink_after) same p)
text_prints (Err f) text wanted status sink sink_after same p = inr p

-- the line that was made is its answer's
pub made_prints : (line : Result (Vec ℕ) WantOfMemory) (a : Answer) (wanted status : ℕ) (sink sink_after : SinkView)
    → answer_status a ≡ wanted → IfOk line (λ v. v.items ≡ answer_line a) → PrintsMade line wanted status sink sink_after → PrintsOr (answered a) status sink sink_after
made_prints (Ok v) a wanted status sink sink_after same_status same p =
    inl (subst (λ (l : List ℕ). Prints l (answer_status a) status sink sink_after) same
    (subst (λ (n : ℕ). Prints v.items n status sink sink_after) (sym same_status) p))
made_prints (Err f) a wanted status sink sink_after same_status same p = inr p

-- ---- `verify`

-- there was no job or no part
pub no_setup : (texts : Texts) (f : LoadFault) → LoadsSetup texts.setup (Err f) → Loads texts (Err f)
no_setup texts load_fault.Memory h = tt
no_setup texts (load_fault.ReadFault JobFile) h = h
no_setup texts (load_fault.ReadFault PartFile) h = h
no_setup texts (load_fault.ReadFault ProgramFile) h = absurd h
no_setup texts (load_fault.ReadFault ListFile) h = h
no_setup texts (load_fault.ReadFault (StepProgram k)) h = h
no_setup texts (load_fault.Unfit (TooLong JobFile)) h = h
no_setup texts (load_fault.Unfit (TooLong PartFile)) h = h
no_setup texts (load_fault.Unfit (TooLong ProgramFile)) h = absurd h
no_setup texts (load_fault.Unfit (TooLong ListFile)) h = h
no_setup texts (load_fault.Unfit (TooLong (StepProgram k))) h = h
no_setup texts (load_fault.Unfit (JobRefused fault)) h = h
no_setup texts (load_fault.Unfit (PartRefused fault)) h = h
no_setup texts (load_fault.Unfit (ListRefused fault)) h = h
no_setup texts (load_fault.Unfit (ProgramRefused file fault)) h = absurd h
no_setup texts (load_fault.Unfit (PartTop height top unit)) h = h

-- job and part were read, and there was no program
pub no_moves : (texts : Texts) (job : JobFields) (part : List Tri) (f : LoadFault) → ReadsSetup texts.setup job part → LoadsProgram job texts.program ProgramFile (Err f) → Loads texts (Err f)
no_moves texts job part load_fault.Memory r h = tt
no_moves texts job part (load_fault.ReadFault file) r h = subst (λ (x : File). IsReadBeforeProgram texts x) (sym h) (job, part, r)
no_moves texts job part (load_fault.Unfit (TooLong file)) r h =
    subst (λ (x : File). IsUnfitProgram texts (TooLong x)) (sym h.0) (record { job = job; part = part; setup_is = r; long = h.1 })
no_moves texts job part (load_fault.Unfit (JobRefused fault)) r h = absurd h
no_moves texts job part (load_fault.Unfit (PartRefused fault)) r h = absurd h
no_moves texts job part (load_fault.Unfit (ListRefused fault)) r h = absurd h
no_moves texts job part (load_fault.Unfit (ProgramRefused file fault)) r h =
    subst (λ (x : File). IsUnfitProgram texts (ProgramRefused x fault)) (sym h.0) (record { job = job; part = part; setup_is = r; refused = h.1 })
no_moves texts job part (load_fault.Unfit (PartTop height top unit)) r h = absurd h

pub verify_load_fault : (contents : List ℕ → Option (List ℕ)) (job part program : List ℕ) (workers : ℕ) (f : LoadFault)
    → Loads (texts_of contents (record { job = job; part = part; program = program })) (Err f) → IsOutcome contents (verify job part program workers) (fault_outcome f)
verify_load_fault contents job part program workers load_fault.Memory h = tt
verify_load_fault contents job part program workers (load_fault.ReadFault file) h = h
verify_load_fault contents job part program workers (load_fault.Unfit fault) h = h

pub verdict_serves : (job part program : List ℕ) (workers : ℕ) (call : Call) (l : Loaded)
    → ((contents : List ℕ → Option (List ℕ)) → HoldsReads contents call → Loads (texts_of contents (record { job = job; part = part; program = program })) (Ok l)) → IsReady l
    → (let r : Result Loaded LoadFault = Ok l in OnlyLoads call.store call.store_after r) → TriesVerdict l call.status call.sink call.sink_after → Serves (verify job part program workers) call
verdict_serves job part program workers call l read ready loads (inl v) =
    answer_serves (verify job part program workers) call (judged l.job.fields l.part l.moves.items v.verdict)
    (λ contents held. record { all_read = read contents held; job_ok = l.job.is_job; moves_ok = ready.moves_ok; is = v.is; safe = v.safe; named = v.named }) loads.held
    (answer_shows call (judged l.job.fields l.part l.moves.items v.verdict) refl loads.only loads.reads v.printed)
verdict_serves job part program workers call l read ready loads (inr m) = short_serves (verify job part program workers) call loads.held (printed_shows call no_memory refl loads.only loads.reads m)

-- ---- `drop`

pub drop_fault : (contents : List ℕ → Option (List ℕ)) (job part x y : List ℕ) (f : LoadFault)
    → HasFault (HasPlace (setup_texts contents job part) x y) (setup_texts contents job part) f → IsOutcome contents (drop job part x y) (fault_outcome f)
drop_fault contents job part x y load_fault.Memory h = tt
drop_fault contents job part x y (load_fault.ReadFault file) h = h
drop_fault contents job part x y (load_fault.Unfit fault) h = h

-- the job was read, and a word refused
pub word_serves : (job part x y : List ℕ) (call : Call) (j : Job) (coordinate : Coordinate) (fault : DecFault) → ((contents : List ℕ → Option (List ℕ)) → HoldsReads contents call → ReadsJob (setup_texts contents job part) j.fields)
    → RefusesWord j.fields.unit x y coordinate fault → (let r : Result Job LoadFault = Ok j in OnlyLoads call.store call.store_after r)
    → PrintsOr (answered (refused_word coordinate fault)) call.status call.sink call.sink_after → Serves (drop job part x y) call
word_serves job part x y call j coordinate fault read refused loads p =
    answer_serves (drop job part x y) call (refused_word coordinate fault) (λ contents held. record { job = j.fields; job_is = read contents held; refused = refused }) loads.held
    (answer_shows call (refused_word coordinate fault) refl loads.only loads.reads p)

pub height_serves : (job part x y : List ℕ) (call : Call) (j : JobFields) (place : Place) (s : Setup) → ReadsPlace j.unit x y place → s.job.fields ≡ j
    → ((contents : List ℕ → Option (List ℕ)) → HoldsReads contents call → LoadsSetup (setup_texts contents job part) (Ok s)) → (let r : Result Setup LoadFault = Ok s in OnlyLoads call.store call.store_after r)
    → TriesHeight s place call.status call.sink call.sink_after → Serves (drop job part x y) call
height_serves job part x y call j place s words same read loads (inl h) =
    answer_serves (drop job part x y) call (dropped s.job.fields.unit h.height)
    (λ contents held. record {
      place = place;
      job = s.job.fields;
      part = s.part;
      unit_is = refl;
      place_is = subst (λ (k : JobFields). ReadsPlace k.unit x y place) (sym same) words;
      setup_is = read contents held;
      is = h.is;
    }) loads.held
    (answer_shows call (dropped s.job.fields.unit h.height) refl loads.only loads.reads h.printed)
height_serves job part x y call j place s words same read loads (inr m) = short_serves (drop job part x y) call loads.held (printed_shows call no_memory refl loads.only loads.reads m)

-- ---- `level`

pub level_fault : (contents : List ℕ → Option (List ℕ)) (job part z : List ℕ) (f : LoadFault)
    → HasFault (HasHeight (setup_texts contents job part) z) (setup_texts contents job part) f → IsOutcome contents (level job part z) (fault_outcome f)
level_fault contents job part z load_fault.Memory h = tt
level_fault contents job part z (load_fault.ReadFault file) h = h
level_fault contents job part z (load_fault.Unfit fault) h = h

-- the job was read, and the word refused
pub height_word_serves : (job part z : List ℕ) (call : Call) (j : Job) (coordinate : Coordinate) (fault : DecFault) → ((contents : List ℕ → Option (List ℕ)) → HoldsReads contents call → ReadsJob (setup_texts contents job part) j.fields)
    → RefusesZ j.fields.unit z coordinate fault → (let r : Result Job LoadFault = Ok j in OnlyLoads call.store call.store_after r)
    → PrintsOr (answered (refused_word coordinate fault)) call.status call.sink call.sink_after → Serves (level job part z) call
height_word_serves job part z call j coordinate fault read refused loads p =
    answer_serves (level job part z) call (refused_word coordinate fault) (λ contents held. record { job = j.fields; job_is = read contents held; refused = refused }) loads.held
    (answer_shows call (refused_word coordinate fault) refl loads.only loads.reads p)

pub level_serves : (job part z : List ℕ) (call : Call) (j : JobFields) (height : ℤ) (s : Setup) → ReadsHeight j.unit z height → s.job.fields ≡ j
    → ((contents : List ℕ → Option (List ℕ)) → HoldsReads contents call → LoadsSetup (setup_texts contents job part) (Ok s)) → (let r : Result Setup LoadFault = Ok s in OnlyLoads call.store call.store_after r)
    → TriesLevel s height call.status call.sink call.sink_after → Serves (level job part z) call
level_serves job part z call j height s words same read loads (inl p) =
    answer_serves (level job part z) call (leveled s.job.fields.unit p.answer)
    (λ contents held. record {
      height = height;
      job = s.job.fields;
      part = s.part;
      unit_is = refl;
      height_is = subst (λ (k : JobFields). ReadsHeight k.unit z height) (sym same) words;
      setup_is = read contents held;
      is = p.is;
    }) loads.held
    (answer_shows call (leveled s.job.fields.unit p.answer) refl loads.only loads.reads p.printed)
level_serves job part z call j height s words same read loads (inr m) = short_serves (level job part z) call loads.held (printed_shows call no_memory refl loads.only loads.reads m)

-- ---- words

pub same_store : (store : StoreView) → ReadsOnly store store
same_store store = record { contents = λ name. refl; tells = refl; write_faults = refl }

-- a store that isn't touched holds all that was read of it
pub unread_holds : (call : Call) → call.store_after ≡ call.store → HoldsReads call.store.contents call
unread_holds call same = subst (λ (v : StoreView). AreHeld call.store.contents call.store.log v.log) (sym same) (held_none call.store.contents call.store.log)

pub served_outcome : (words : List (List ℕ)) (asked : Request) (call : Call) → request words ≡ Some asked → Serves asked call → HasOutcome words call
served_outcome words asked call taken s = record {
  outcome = s.outcome;
  is = λ contents held. of_words contents s.outcome (s.is contents held);
  failed = λ contents held other is. subst (λ (r : Request). Fails contents r call.store_after.log s.outcome) (same_request (request words) asked other taken is) (s.failed contents held);
  held = s.held;
  shows = s.shows;
}
  where
    of_words : (contents : List ℕ → Option (List ℕ)) (o : Outcome) → IsOutcome contents asked o → IsOutcomeOf words contents o
    of_words contents (help text) is = absurd is
    of_words contents (bad_words text) is = absurd is
    of_words contents no_memory is = tt
    of_words contents (read_fault file) is = record { asked = asked; taken = taken; is = is }
    of_words contents (answered answer) is = record { asked = asked; taken = taken; is = is }

refusal_is : (words : List (List ℕ)) (contents : List ℕ → Option (List ℕ)) (r : Refusal) → ReadsWords words (Err r) → IsOutcomeOf words contents (refusal_outcome r)
refusal_is words contents (refusal.Help text) h = record { untaken = h.0; asks = h.1 }
refusal_is words contents (refusal.NotTaken text) h = record { untaken = h.0; mistaken = h.1 }
refusal_is words contents refusal.WantOfMemory h = tt

refusal_file : (r : Refusal) → outcome_file (refusal_outcome r) ≡ None
refusal_file (refusal.Help text) = refl
refusal_file (refusal.NotTaken text) = refl
refusal_file refusal.WantOfMemory = refl

refusal_fails : (contents : List ℕ → Option (List ℕ)) (asked : Request) (log : List Reading) (r : Refusal) → Fails contents asked log (refusal_outcome r)
refusal_fails contents asked log (refusal.Help text) = tt
refusal_fails contents asked log (refusal.NotTaken text) = tt
refusal_fails contents asked log refusal.WantOfMemory = tt

refusal_reads : (r : Refusal) (a b : ℕ) → b ≡ a → CountsReads (refusal_outcome r) a b
refusal_reads (refusal.Help text) a b e = e
refusal_reads (refusal.NotTaken text) a b e = e
refusal_reads refusal.WantOfMemory a b e = e

pub refused_outcome : (words : List (List ℕ)) (call : Call) (r : Refusal) → ReadsWords words (Err r) → call.store_after ≡ call.store
    → PrintsOutcome (refusal_outcome r) call.status call.sink call.sink_after → HasOutcome words call
refused_outcome words call r h same p = record {
  outcome = refusal_outcome r;
  is = λ contents held. refusal_is words contents r h;
  failed = λ contents held asked is. refusal_fails contents asked call.store_after.log r;
  held = unread_holds call same;
  shows = printed_shows call (refusal_outcome r) (refusal_file r) (subst (λ (v : StoreView). ReadsOnly call.store v) (sym same) (same_store call.store))
      (refusal_reads r _ _ (ap (λ (v : StoreView). v.read_faults) same)) p;
}
