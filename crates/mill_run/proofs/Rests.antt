-- The work on `rest`: what was read and printed, put together.
use Rattle.std.proofs.Common.{◌≡◌, ℕ, suc, ◌+◌, ◌<◌, List, [], ◌∷◌, ◌++◌, length, take, Option, Some, None, Result, Ok, Err, refl, sym, ap, subst, ◌∙◌, inl, inr, codes, decimal}
use Rattle.std.proofs.lemmas.List.{get_or_default, take_more}
use Rattle.std.specs.Prelude.{ℤ, IfSome, slice_index_or}
use Rattle.std.specs.Global.{Vec}
use Rattle.mill_base.specs.declared.points.Tri.{Tri}
use Rattle.mill_command.specs.Requests.{rest}
use Rattle.mill_decimal.specs.Decimals.{canonical}
use Rattle.mill_io.specs.Readings.{Reading}
use Rattle.mill_job.specs.declared.fields.JobFields.{JobFields}
use Rattle.mill_job.specs.Columns.{home}
use Rattle.mill_job.specs.declared.step.Step.{Step}
use Rattle.mill_ngc.specs.Pieces.{FollowOn}
use Rattle.mill_base.specs.declared.motion.Move.{Move}
use Rattle.mill_verify.specs.Files.{File as CutFile, GoOn, file_at}
use Rattle.mill_verify.specs.declared.list.ListVerdict.TheVariants.{Accept}
use Rattle.mill_load.specs.declared.file.File.{File}
use Rattle.mill_load.specs.declared.file.File.TheVariants.{Job as JobFile, Part as PartFile, Program as ProgramFile, List as ListFile, StepProgram}
use Rattle.mill_load.specs.declared.load.LoadFault.{LoadFault}
use Rattle.mill_load.specs.declared.load.LoadFault.TheVariants.{Memory, ReadFault, Unfit}
use Rattle.mill_load.specs.declared.load.Unfit.TheVariants.{TooLong, JobRefused, PartRefused, ListRefused, ProgramRefused, PartTop}
use Rattle.mill_run.specs.declared.rest.Listed.{Listed}
use Rattle.mill_run.specs.Answers.{judged_files}
use Rattle.mill_answer.specs.Calls.{Call, HoldsReads}
use Rattle.mill_answer.specs.Lines.{line}
use Rattle.mill_answer.specs.Printed.{margin_words}
use Rattle.mill_run.specs.inner.Loads.{AreFilesReady, FailsInRest, LoadsFiles, LoadsList, StopsAtStep, rest_name}
use Rattle.mill_load.specs.Programs.{rules_of}
use Rattle.mill_load.specs.Loads.{LoadsProgram, LoadsSetup, NamesFault, OnlyLoads, ReadsFile}
use Rattle.mill_run.specs.inner.Prints.{TriesListVerdict, fault_outcome}
use Rattle.mill_run.specs.Outcomes.{no_memory, Fails, IsOutcome, Serves}
use Rattle.mill_run.specs.Words.{RestFiles}
use Rattle.mill_run.specs.Rest.{RestTexts, rest_texts, ReadsList, step_at, ReadsStep, ReadsSteps, ReadsToStep, IsUnfitRest, IsReadBeforeRest, list_line}
use Rattle.mill_load.specs.Setup.{ReadsSetup}
use Rattle.mill_run.proofs.Serving.{answer_serves, answer_shows, printed_shows, short_serves}

-- ---- one program

-- moves that follow on each other by the job's rules do so as those of a file
pub go_on : (job : JobFields) (moves : List Move) → FollowOn (home job) (rules_of job) moves → GoOn job moves
unfolding rules_of
go_on job moves follow = record { from = follow.from; over = follow.over; at_home = λ here. follow.at_start (rw here refl); follow = follow.follow }

-- ---- the list

-- nothing is said of a list that isn't told, but which faults may come
untold_list : (job : JobFields) (items : List ℕ) (r : Result (Vec Step) LoadFault) → LoadsList job (Some items) r → LoadsList job None r
untold_list job items (Ok steps) h = tt
untold_list job items (Err Memory) h = tt
untold_list job items (Err (ReadFault JobFile)) h = h
untold_list job items (Err (ReadFault PartFile)) h = h
untold_list job items (Err (ReadFault ProgramFile)) h = h
untold_list job items (Err (ReadFault ListFile)) h = tt
untold_list job items (Err (ReadFault (StepProgram k))) h = h
untold_list job items (Err (Unfit (TooLong JobFile))) h = h
untold_list job items (Err (Unfit (TooLong PartFile))) h = h
untold_list job items (Err (Unfit (TooLong ProgramFile))) h = h
untold_list job items (Err (Unfit (TooLong ListFile))) h = tt
untold_list job items (Err (Unfit (TooLong (StepProgram k)))) h = h
untold_list job items (Err (Unfit (JobRefused fault))) h = h
untold_list job items (Err (Unfit (PartRefused fault))) h = h
untold_list job items (Err (Unfit (ListRefused fault))) h = tt
untold_list job items (Err (Unfit (ProgramRefused file fault))) h = h
untold_list job items (Err (Unfit (PartTop height top unit))) h = h

-- the bytes that were read are what is told
pub list_told : (job : JobFields) (told : Option (List ℕ)) (items : List ℕ) (r : Result (Vec Step) LoadFault) → IfSome told (λ text. items ≡ text) → LoadsList job (Some items) r
    → LoadsList job told r
list_told job None items r same h = untold_list job items r h
list_told job (Some text) items r same h = subst (λ (t : List ℕ). LoadsList job (Some t) r) same h

-- there were no bytes of it
pub no_list_bytes : (job : JobFields) (told : Option (List ℕ)) (f : LoadFault) → ReadsFile told ListFile (Err f) → LoadsList job told (Err f)
no_list_bytes job told Memory h = tt
no_list_bytes job told (ReadFault file) h = subst (λ (x : File). LoadsList job told (Err (ReadFault x))) (sym h) tt
no_list_bytes job told (Unfit (TooLong file)) h = subst (λ (x : File). LoadsList job told (Err (Unfit (TooLong x)))) (sym h.0) h.1
no_list_bytes job told (Unfit (JobRefused fault)) h = absurd h
no_list_bytes job told (Unfit (PartRefused fault)) h = absurd h
no_list_bytes job told (Unfit (ListRefused fault)) h = absurd h
no_list_bytes job told (Unfit (ProgramRefused file fault)) h = absurd h
no_list_bytes job told (Unfit (PartTop height top unit)) h = absurd h

-- ---- its programs, in turn

reads_push : (programs : List ℕ → Option (List ℕ)) (job : JobFields) (steps : List Step) (files : List CutFile) (step : Step) (file : CutFile) → ReadsSteps programs job steps files
    → ReadsStep programs job step file → ReadsSteps programs job (steps ++ step ∷ []) (files ++ file ∷ [])
reads_push programs job [] [] step file r s = (s, tt)
reads_push programs job [] (f ∷ files) step file r s = absurd r
reads_push programs job (x ∷ steps) [] step file r s = absurd r
reads_push programs job (x ∷ steps) (f ∷ files) step file r s = (r.0, reads_push programs job steps files step file r.1 s)

-- there are as many files as steps
pub as_many : (programs : List ℕ → Option (List ℕ)) (job : JobFields) (steps : List Step) (files : List CutFile) → ReadsSteps programs job steps files → length files ≡ length steps
as_many programs job [] [] r = refl
as_many programs job [] (f ∷ files) r = absurd r
as_many programs job (x ∷ steps) [] r = absurd r
as_many programs job (x ∷ steps) (f ∷ files) r = ap suc (as_many programs job steps files r.1)

-- step n, as it is taken from the list
module _ (programs : List ℕ → Option (List ℕ)) (job : JobFields) (steps : List Step) (files : List CutFile) (n : ℕ) (step : Step) (there : n < length steps) (is : step ≡ slice_index_or steps n step)
    (before : ReadsSteps programs job (take n steps) files) where
  -- it is read too
  pub reads_more : (file : CutFile) (new : List CutFile) → new ≡ files ++ file ∷ [] → ReadsStep programs job step file → ReadsSteps programs job (take (n + 1) steps) new
  reads_more file new pushed s =
      subst (λ (fs : List CutFile). ReadsSteps programs job (take (n + 1) steps) fs) (sym pushed)
      (subst (λ (xs : List Step). ReadsSteps programs job xs (files ++ file ∷ [])) (sym (take_more steps n step there))
      (subst (λ (x : Step). ReadsSteps programs job (take n steps ++ x ∷ []) (files ++ file ∷ [])) is (reads_push programs job (take n steps) files step file before s)))

  -- it stops the reading
  pub stops_at : (log : List Reading) (f : LoadFault) → LoadsProgram job (programs step.program) (StepProgram n) (Err f) → NamesFault (λ file. step.program) log f → StopsAtStep programs job steps log f
  stops_at log f h failed = record {
    number = n;
    files = files;
    there = there;
    before = before;
    stops = subst (λ (x : Step). LoadsProgram job (programs x.program) (StepProgram n) (Err f)) (is ∙ get_or_default steps n step _ there) h;
    failed = subst (λ (x : Step). NamesFault (λ file. x.program) log f) (is ∙ get_or_default steps n step _ there) failed;
  }

-- ---- what kept it from its files

-- there was no job or no part
pub no_setup : (texts : RestTexts) (f : LoadFault) → LoadsSetup texts.setup (Err f) → LoadsFiles texts (Err f)
no_setup texts Memory h = tt
no_setup texts (ReadFault JobFile) h = h
no_setup texts (ReadFault PartFile) h = h
no_setup texts (ReadFault ProgramFile) h = h
no_setup texts (ReadFault ListFile) h = absurd h
no_setup texts (ReadFault (StepProgram k)) h = absurd h
no_setup texts (Unfit (TooLong JobFile)) h = h
no_setup texts (Unfit (TooLong PartFile)) h = h
no_setup texts (Unfit (TooLong ProgramFile)) h = h
no_setup texts (Unfit (TooLong ListFile)) h = absurd h
no_setup texts (Unfit (TooLong (StepProgram k))) h = absurd h
no_setup texts (Unfit (JobRefused fault)) h = h
no_setup texts (Unfit (PartRefused fault)) h = h
no_setup texts (Unfit (ListRefused fault)) h = absurd h
no_setup texts (Unfit (ProgramRefused file fault)) h = absurd h
no_setup texts (Unfit (PartTop height top unit)) h = h

-- job and part were read, and there was no list
pub no_list : (texts : RestTexts) (job : JobFields) (part : List Tri) (f : LoadFault) → ReadsSetup texts.setup job part → LoadsList job texts.list (Err f) → LoadsFiles texts (Err f)
no_list texts job part Memory r h = tt
no_list texts job part (ReadFault JobFile) r h = absurd h
no_list texts job part (ReadFault PartFile) r h = absurd h
no_list texts job part (ReadFault ProgramFile) r h = absurd h
no_list texts job part (ReadFault ListFile) r h = (job, part, r)
no_list texts job part (ReadFault (StepProgram k)) r h = absurd h
no_list texts job part (Unfit (TooLong JobFile)) r h = absurd h
no_list texts job part (Unfit (TooLong PartFile)) r h = absurd h
no_list texts job part (Unfit (TooLong ProgramFile)) r h = absurd h
no_list texts job part (Unfit (TooLong ListFile)) r h = record { job = job; part = part; setup_is = r; long = h }
no_list texts job part (Unfit (TooLong (StepProgram k))) r h = absurd h
no_list texts job part (Unfit (JobRefused fault)) r h = absurd h
no_list texts job part (Unfit (PartRefused fault)) r h = absurd h
no_list texts job part (Unfit (ListRefused fault)) r h = record { job = job; part = part; setup_is = r; refused = h }
no_list texts job part (Unfit (ProgramRefused file fault)) r h = absurd h
no_list texts job part (Unfit (PartTop height top unit)) r h = absurd h

-- so was the list, and there was no program of one of its steps
pub no_step : (texts : RestTexts) (job : JobFields) (part : List Tri) (steps : List Step) (log : List Reading) (f : LoadFault) → ReadsSetup texts.setup job part → ReadsList texts job steps
    → StopsAtStep texts.programs job steps log f → LoadsFiles texts (Err f)
no_step texts job part steps log f r l s = which f s.stops
  where
    step : Step
    step = step_at steps s.number

    before : ReadsToStep texts job step s.number
    before = record { part = part; steps = steps; files = s.files; setup_is = r; list_is = l; there = s.there; step_is = refl; before = s.before }

    which : (g : LoadFault) → LoadsProgram job (texts.programs step.program) (StepProgram s.number) (Err g) → LoadsFiles texts (Err g)
    which Memory h = tt
    which (ReadFault file) h = subst (λ (x : File). IsReadBeforeRest texts x) (sym h) (job, step, before)
    which (Unfit (TooLong file)) h = subst (λ (x : File). IsUnfitRest texts (TooLong x)) (sym h.0) (record { job = job; step = step; before = before; long = h.1 })
    which (Unfit (JobRefused fault)) h = absurd h
    which (Unfit (PartRefused fault)) h = absurd h
    which (Unfit (ListRefused fault)) h = absurd h
    which (Unfit (ProgramRefused file fault)) h =
        subst (λ (x : File). IsUnfitRest texts (ProgramRefused x fault)) (sym h.0) (record { job = job; step = step; before = before; refused = h.1 })
    which (Unfit (PartTop height top unit)) h = absurd h

-- ---- which read failed

-- that of the job or of the part
pub setup_failed : (contents : List ℕ → Option (List ℕ)) (names : RestFiles) (log : List Reading) (f : LoadFault) → LoadsSetup (rest_texts contents names).setup (Err f) → NamesFault (rest_name names) log f
    → FailsInRest contents names log f
setup_failed contents names log Memory told h = tt
setup_failed contents names log (ReadFault JobFile) told h = h
setup_failed contents names log (ReadFault PartFile) told h = h
setup_failed contents names log (ReadFault ProgramFile) told h = h
setup_failed contents names log (ReadFault ListFile) told h = h
setup_failed contents names log (ReadFault (StepProgram k)) told h = absurd told
setup_failed contents names log (Unfit fault) told h = tt

-- that of the list
pub list_failed : (contents : List ℕ → Option (List ℕ)) (names : RestFiles) (log : List Reading) (job : JobFields) (told : Option (List ℕ)) (f : LoadFault) → LoadsList job told (Err f) → NamesFault (rest_name names) log f
    → FailsInRest contents names log f
list_failed contents names log job told Memory is h = tt
list_failed contents names log job told (ReadFault JobFile) is h = h
list_failed contents names log job told (ReadFault PartFile) is h = h
list_failed contents names log job told (ReadFault ProgramFile) is h = h
list_failed contents names log job told (ReadFault ListFile) is h = h
list_failed contents names log job told (ReadFault (StepProgram k)) is h = absurd is
list_failed contents names log job told (Unfit fault) is h = tt

-- that of the program of a step
pub step_failed : (contents : List ℕ → Option (List ℕ)) (names : RestFiles) (job : JobFields) (part : List Tri) (steps : List Step) (log : List Reading) (f : LoadFault)
    → ReadsSetup (rest_texts contents names).setup job part → ReadsList (rest_texts contents names) job steps → StopsAtStep contents job steps log f → FailsInRest contents names log f
step_failed contents names job part steps log f r l s = which f s.stops s.failed
  where
    step : Step
    step = step_at steps s.number

    before : ReadsToStep (rest_texts contents names) job step s.number
    before = record { part = part; steps = steps; files = s.files; setup_is = r; list_is = l; there = s.there; step_is = refl; before = s.before }

    which : (g : LoadFault) → LoadsProgram job (contents step.program) (StepProgram s.number) (Err g) → NamesFault (λ file. step.program) log g → FailsInRest contents names log g
    which Memory is h = tt
    which (ReadFault file) is h = subst (λ (x : File). FailsInRest contents names log (ReadFault x)) (sym is) (record { job = job; step = step; before = before; last = h })
    which (Unfit fault) is h = tt

-- so the outcome names the file
pub rest_failed : (contents : List ℕ → Option (List ℕ)) (job part list : List ℕ) (workers : ℕ) (log : List Reading) (f : LoadFault)
    → FailsInRest contents (record { job = job; part = part; list = list }) log f
    → Fails contents (rest job part list workers) log (fault_outcome f)
rest_failed contents job part list workers log Memory h = tt
rest_failed contents job part list workers log (ReadFault JobFile) h = h
rest_failed contents job part list workers log (ReadFault PartFile) h = h
rest_failed contents job part list workers log (ReadFault ProgramFile) h = h
rest_failed contents job part list workers log (ReadFault ListFile) h = h
rest_failed contents job part list workers log (ReadFault (StepProgram k)) h = h
rest_failed contents job part list workers log (Unfit fault) h = tt

pub rest_load_fault : (contents : List ℕ → Option (List ℕ)) (job part list : List ℕ) (workers : ℕ) (f : LoadFault)
    → LoadsFiles (rest_texts contents (record { job = job; part = part; list = list })) (Err f) → IsOutcome contents (rest job part list workers) (fault_outcome f)
rest_load_fault contents job part list workers Memory h = tt
rest_load_fault contents job part list workers (ReadFault file) h = h
rest_load_fault contents job part list workers (Unfit fault) h = h

-- ---- the answer

-- all was read, and the verdict on it is printed
pub rest_serves : (job part list : List ℕ) (workers : ℕ) (call : Call) (l : Listed)
    → ((contents : List ℕ → Option (List ℕ)) → HoldsReads contents call → LoadsFiles (rest_texts contents (record { job = job; part = part; list = list })) (Ok l)) → AreFilesReady l
    → (let r : Result Listed LoadFault = Ok l in OnlyLoads call.store call.store_after r) → TriesListVerdict l call.status call.sink call.sink_after → Serves (rest job part list workers) call
rest_serves job part list workers call l read ready loads (inl v) =
    answer_serves (rest job part list workers) call (judged_files l.job.fields l.part l.steps.items l.files.items v.verdict)
    (λ contents held. record { all_read = read contents held; job_ok = l.job.is_job; files_ok = ready.files_ok; is = v.is; safe = v.safe; named = v.named }) loads.held
    (answer_shows call (judged_files l.job.fields l.part l.steps.items l.files.items v.verdict) refl loads.only loads.reads v.printed)
rest_serves job part list workers call l read ready loads (inr m) = short_serves (rest job part list workers) call loads.held (printed_shows call no_memory refl loads.only loads.reads m)

-- the moves of the file that is read at a number of a list
pub moves_at : (files : List CutFile) (f : ℕ) (file : CutFile) (moves : List Move) → f < length files → file ≡ slice_index_or files f file → moves ≡ file.moves → moves ≡ (file_at files f).moves
moves_at files f file moves there is same = same ∙ ap (λ (x : CutFile). x.moves) (is ∙ get_or_default files f file _ there)

-- ---- the line of files that are accepted

-- by numbers as the machine stores them
pub accepted_line : (job : JobFields) (count moves columns f : ℕ) (left l o s : ℤ) → f ≡ count → l ≡ left → o ≡ job.overcut → s ≡ job.slack
    → line (codes "accepted" ∷ codes "files" ∷ decimal f ∷ codes "moves" ∷ decimal moves ∷ codes "columns" ∷ decimal columns ∷ codes "left" ∷ canonical job.unit l ∷ margin_words job.unit o s)
    ≡ list_line job [] (Accept count moves columns left)
accepted_line job count moves columns f left l o s ef el eo es = λ t.
    line (codes "accepted" ∷ codes "files" ∷ decimal (ef t) ∷ codes "moves" ∷ decimal moves ∷ codes "columns" ∷ decimal columns ∷ codes "left" ∷ canonical job.unit (el t) ∷ margin_words job.unit (eo t) (es t))
