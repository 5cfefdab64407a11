-- What was read from the bytes of a file holds of what the store tells of it.
use Rattle.std.proofs.Common.{◌≡◌, ℕ, List, length, Option, Some, None, Result, Ok, Err, refl, sym, subst, arith}
use Rattle.std.specs.Prelude.{◌<◌, ℤ, IfErr, IfSome}
use Rattle.mill_base.specs.declared.points.Tri.{Tri}
use Rattle.mill_base.specs.Covers.{IsUnder}
use Rattle.std.specs.Global.{Vec}
use Rattle.std.specs.Prelude.{Vec as AnyVec}
use Rattle.std.specs.declared.alloc.Global.{Global}
use Rattle.mill_io.specs.Causes.{Rose}
use Rattle.mill_io.specs.Pieces.{GivesNext}
use Rattle.mill_io.specs.Whole.{IsWhole}
use Rattle.mill_io.specs.declared.pieces.PieceEnd.{PieceEnd}
use Rattle.mill_io.specs.declared.pieces.PieceEnd.TheVariants.{TooLong as LongPiece}
use Rattle.mill_io.specs.declared.whole.ReadEnd.{ReadEnd}
use Rattle.mill_io.specs.declared.whole.ReadEnd.TheVariants.{TooLong as Long}
use Rattle.mill_job.specs.declared.fields.JobFields.{JobFields}
use Rattle.mill_job.specs.declared.job.Job.{Job}
use Rattle.mill_part.specs.declared.part.Part.{Part}
use Rattle.mill_load.specs.declared.file.File.TheVariants.{Job as JobFile, Part as PartFile, Program as ProgramFile, List as ListFile, StepProgram}
use Rattle.mill_load.specs.declared.load.LoadFault.{LoadFault}
use Rattle.mill_load.specs.declared.load.LoadFault.TheVariants.{Memory, ReadFault, Unfit}
use Rattle.mill_load.specs.declared.load.Unfit.TheVariants.{TooLong, JobRefused, PartRefused, ListRefused, ProgramRefused, PartTop}
use Rattle.mill_io.specs.Views.{ReadsOnly, StoreView}
use Rattle.mill_io.proofs.Held.{held_as, held_on}
use Rattle.mill_io.proofs.Read.{reads_on}
use Rattle.mill_load.specs.declared.load.Setup.{Setup}
use Rattle.mill_load.specs.Loads.{ReadsFile, LoadsJob, LoadsPart, LoadsUnder, LoadsSetup, JoinsPart, CountsFault, NamesFault, OnlyLoads}
use Rattle.mill_io.specs.Readings.{AreHeld, Reading}
use Rattle.mill_load.specs.declared.file.File.{File}
use Rattle.mill_load.specs.inner.Steps.{IsLow}
use Rattle.mill_load.specs.Setup.{SetupTexts, ReadsJob, IsPartText, IsUnfitWith, IsReadBeforeWith}

-- ---- nothing is said of a file that isn't told, but which faults may come

untold_job : (items : List ℕ) (r : Result Job LoadFault) → LoadsJob (Some items) r → LoadsJob None r
untold_job items (Ok job) h = tt
untold_job items (Err Memory) h = tt
untold_job items (Err (ReadFault JobFile)) h = tt
untold_job items (Err (ReadFault PartFile)) h = h
untold_job items (Err (ReadFault ProgramFile)) h = h
untold_job items (Err (ReadFault ListFile)) h = h
untold_job items (Err (ReadFault (StepProgram k))) h = h
untold_job items (Err (Unfit (TooLong JobFile))) h = tt
untold_job items (Err (Unfit (TooLong PartFile))) h = h
untold_job items (Err (Unfit (TooLong ProgramFile))) h = h
untold_job items (Err (Unfit (TooLong ListFile))) h = h
untold_job items (Err (Unfit (TooLong (StepProgram k)))) h = h
untold_job items (Err (Unfit (JobRefused fault))) h = tt
untold_job items (Err (Unfit (PartRefused fault))) h = h
untold_job items (Err (Unfit (ListRefused fault))) h = h
untold_job items (Err (Unfit (ProgramRefused file fault))) h = h
untold_job items (Err (Unfit (PartTop height top unit))) h = h

untold_part : (job : JobFields) (items : List ℕ) (r : Result Part LoadFault) → LoadsPart job (Some items) r → LoadsPart job None r
untold_part job items (Ok part) h = tt
untold_part job items (Err Memory) h = tt
untold_part job items (Err (ReadFault JobFile)) h = h
untold_part job items (Err (ReadFault PartFile)) h = tt
untold_part job items (Err (ReadFault ProgramFile)) h = h
untold_part job items (Err (ReadFault ListFile)) h = h
untold_part job items (Err (ReadFault (StepProgram k))) h = h
untold_part job items (Err (Unfit (TooLong JobFile))) h = h
untold_part job items (Err (Unfit (TooLong PartFile))) h = tt
untold_part job items (Err (Unfit (TooLong ProgramFile))) h = h
untold_part job items (Err (Unfit (TooLong ListFile))) h = h
untold_part job items (Err (Unfit (TooLong (StepProgram k)))) h = h
untold_part job items (Err (Unfit (JobRefused fault))) h = h
untold_part job items (Err (Unfit (PartRefused fault))) h = tt
untold_part job items (Err (Unfit (ListRefused fault))) h = h
untold_part job items (Err (Unfit (ProgramRefused file fault))) h = h
untold_part job items (Err (Unfit (PartTop height top unit))) h = h

-- ---- the bytes that were read are what is told

pub job_told : (told : Option (List ℕ)) (items : List ℕ) (r : Result Job LoadFault) → IfSome told (λ text. items ≡ text) → LoadsJob (Some items) r → LoadsJob told r
job_told None items r same h = untold_job items r h
job_told (Some text) items r same h = subst (λ (t : List ℕ). LoadsJob (Some t) r) same h

pub part_told : (job : JobFields) (told : Option (List ℕ)) (items : List ℕ) (r : Result Part LoadFault) → IfSome told (λ text. items ≡ text) → LoadsPart job (Some items) r
    → LoadsPart job told r
part_told job None items r same h = untold_part job items r h
part_told job (Some text) items r same h = subst (λ (t : List ℕ). LoadsPart job (Some t) r) same h

-- ---- why a file has no text

-- the job's file
pub no_job_text : (told : Option (List ℕ)) (f : LoadFault) → (let r : Result (Vec ℕ) LoadFault = Err f in ReadsFile told JobFile r) → LoadsJob told (Err f)
no_job_text told Memory h = tt
no_job_text told (ReadFault file) h = subst (λ (x : File). LoadsJob told (Err (ReadFault x))) (sym h) tt
no_job_text told (Unfit (TooLong file)) h = subst (λ (x : File). LoadsJob told (Err (Unfit (TooLong x)))) (sym h.0) h.1
no_job_text told (Unfit (JobRefused fault)) h = absurd h
no_job_text told (Unfit (PartRefused fault)) h = absurd h
no_job_text told (Unfit (ListRefused fault)) h = absurd h
no_job_text told (Unfit (ProgramRefused file fault)) h = absurd h
no_job_text told (Unfit (PartTop height top unit)) h = absurd h

-- the part's file
pub no_part_text : (job : JobFields) (told : Option (List ℕ)) (f : LoadFault) → (let r : Result (Vec ℕ) LoadFault = Err f in ReadsFile told PartFile r) → LoadsPart job told (Err f)
no_part_text job told Memory h = tt
no_part_text job told (ReadFault file) h = subst (λ (x : File). LoadsPart job told (Err (ReadFault x))) (sym h) tt
no_part_text job told (Unfit (TooLong file)) h = subst (λ (x : File). LoadsPart job told (Err (Unfit (TooLong x)))) (sym h.0) h.1
no_part_text job told (Unfit (JobRefused fault)) h = absurd h
no_part_text job told (Unfit (PartRefused fault)) h = absurd h
no_part_text job told (Unfit (ListRefused fault)) h = absurd h
no_part_text job told (Unfit (ProgramRefused file fault)) h = absurd h
no_part_text job told (Unfit (PartTop height top unit)) h = absurd h

-- where there is no part, none is put to a job
pub part_under : (job : JobFields) (told : Option (List ℕ)) (f : LoadFault) → LoadsPart job told (Err f) → LoadsUnder job told (Err f)
part_under job told Memory h = h
part_under job told (ReadFault file) h = h
part_under job told (Unfit (TooLong file)) h = h
part_under job told (Unfit (JobRefused fault)) h = h
part_under job told (Unfit (PartRefused fault)) h = h
part_under job told (Unfit (ListRefused fault)) h = h
part_under job told (Unfit (ProgramRefused file fault)) h = h
part_under job told (Unfit (PartTop height top unit)) h = absurd h

-- ---- what kept a command from one of its files

-- there was no job
pub job_fault : (texts : SetupTexts) (f : LoadFault) → LoadsJob texts.job (Err f) → LoadsSetup texts (Err f)
job_fault texts Memory h = tt
job_fault texts (ReadFault JobFile) h = tt
job_fault texts (ReadFault PartFile) h = absurd h
job_fault texts (ReadFault ProgramFile) h = absurd h
job_fault texts (ReadFault ListFile) h = absurd h
job_fault texts (ReadFault (StepProgram k)) h = absurd h
job_fault texts (Unfit (TooLong JobFile)) h = h
job_fault texts (Unfit (TooLong PartFile)) h = absurd h
job_fault texts (Unfit (TooLong ProgramFile)) h = absurd h
job_fault texts (Unfit (TooLong ListFile)) h = absurd h
job_fault texts (Unfit (TooLong (StepProgram k))) h = absurd h
job_fault texts (Unfit (JobRefused fault)) h = h
job_fault texts (Unfit (PartRefused fault)) h = absurd h
job_fault texts (Unfit (ListRefused fault)) h = absurd h
job_fault texts (Unfit (ProgramRefused file fault)) h = absurd h
job_fault texts (Unfit (PartTop height top unit)) h = absurd h

-- the job was read, and this is what the part's file came to
pub under_loads : (texts : SetupTexts) (job : JobFields) (r : Result Setup LoadFault) → ReadsJob texts job → LoadsUnder job texts.part r → LoadsSetup texts r
under_loads texts job (Ok s) read h = record {
  job_is = subst (λ (j : JobFields). ReadsJob texts j) (sym h.0) read;
  part_is = subst (λ (j : JobFields). IfSome texts.part (λ text. IsPartText j text s.part)) (sym h.0) h.1;
  under = subst (λ (j : JobFields). IsUnder s.part j.top) (sym h.0) h.2;
}
under_loads texts job (Err Memory) read h = tt
under_loads texts job (Err (ReadFault JobFile)) read h = absurd h
under_loads texts job (Err (ReadFault PartFile)) read h = (job, read)
under_loads texts job (Err (ReadFault ProgramFile)) read h = absurd h
under_loads texts job (Err (ReadFault ListFile)) read h = absurd h
under_loads texts job (Err (ReadFault (StepProgram k))) read h = absurd h
under_loads texts job (Err (Unfit (TooLong JobFile))) read h = absurd h
under_loads texts job (Err (Unfit (TooLong PartFile))) read h = record { job = job; job_is = read; long = h }
under_loads texts job (Err (Unfit (TooLong ProgramFile))) read h = absurd h
under_loads texts job (Err (Unfit (TooLong ListFile))) read h = absurd h
under_loads texts job (Err (Unfit (TooLong (StepProgram k)))) read h = absurd h
under_loads texts job (Err (Unfit (JobRefused fault))) read h = absurd h
under_loads texts job (Err (Unfit (PartRefused fault))) read h = record { job = job; job_is = read; refused = h }
under_loads texts job (Err (Unfit (ListRefused fault))) read h = absurd h
under_loads texts job (Err (Unfit (ProgramRefused file fault))) read h = absurd h
under_loads texts job (Err (Unfit (PartTop height top unit))) read h =
    record { job = job; part = h.part; job_is = read; part_is = h.part_is; greatest = h.greatest; limit = h.limit; unit_is = h.unit_is; over = h.over }

-- what kept a command from the job or the part, where it reads words between the two
abbrev pub HasFault : Type 0 → SetupTexts → LoadFault → Type 0
HasFault ReadsWords texts Memory = Unit {0}
HasFault ReadsWords texts (ReadFault file) = IsReadBeforeWith ReadsWords file
HasFault ReadsWords texts (Unfit fault) = IsUnfitWith ReadsWords texts fault

-- there was no job
pub job_fault_with : (ReadsWords : Type 0) (texts : SetupTexts) (f : LoadFault) → LoadsJob texts.job (Err f) → HasFault ReadsWords texts f
job_fault_with W texts Memory h = tt
job_fault_with W texts (ReadFault JobFile) h = tt
job_fault_with W texts (ReadFault PartFile) h = absurd h
job_fault_with W texts (ReadFault ProgramFile) h = absurd h
job_fault_with W texts (ReadFault ListFile) h = absurd h
job_fault_with W texts (ReadFault (StepProgram k)) h = absurd h
job_fault_with W texts (Unfit (TooLong JobFile)) h = h
job_fault_with W texts (Unfit (TooLong PartFile)) h = absurd h
job_fault_with W texts (Unfit (TooLong ProgramFile)) h = absurd h
job_fault_with W texts (Unfit (TooLong ListFile)) h = absurd h
job_fault_with W texts (Unfit (TooLong (StepProgram k))) h = absurd h
job_fault_with W texts (Unfit (JobRefused fault)) h = h
job_fault_with W texts (Unfit (PartRefused fault)) h = absurd h
job_fault_with W texts (Unfit (ListRefused fault)) h = absurd h
job_fault_with W texts (Unfit (ProgramRefused file fault)) h = absurd h
job_fault_with W texts (Unfit (PartTop height top unit)) h = absurd h

-- job and words were read, and there was no part
pub part_fault_with : (ReadsWords : Type 0) (texts : SetupTexts) (job : JobFields) (f : LoadFault) → ReadsWords → ReadsJob texts job → LoadsUnder job texts.part (Err f) → HasFault ReadsWords texts f
part_fault_with W texts job Memory w read h = tt
part_fault_with W texts job (ReadFault JobFile) w read h = absurd h
part_fault_with W texts job (ReadFault PartFile) w read h = w
part_fault_with W texts job (ReadFault ProgramFile) w read h = absurd h
part_fault_with W texts job (ReadFault ListFile) w read h = absurd h
part_fault_with W texts job (ReadFault (StepProgram k)) w read h = absurd h
part_fault_with W texts job (Unfit (TooLong JobFile)) w read h = absurd h
part_fault_with W texts job (Unfit (TooLong PartFile)) w read h = (w, under_loads texts job (Err (Unfit (TooLong PartFile))) read h)
part_fault_with W texts job (Unfit (TooLong ProgramFile)) w read h = absurd h
part_fault_with W texts job (Unfit (TooLong ListFile)) w read h = absurd h
part_fault_with W texts job (Unfit (TooLong (StepProgram k))) w read h = absurd h
part_fault_with W texts job (Unfit (JobRefused fault)) w read h = absurd h
part_fault_with W texts job (Unfit (PartRefused fault)) w read h = (w, under_loads texts job (Err (Unfit (PartRefused fault))) read h)
part_fault_with W texts job (Unfit (ListRefused fault)) w read h = absurd h
part_fault_with W texts job (Unfit (ProgramRefused file fault)) w read h = absurd h
part_fault_with W texts job (Unfit (PartTop height top unit)) w read h = (w, under_loads texts job (Err (Unfit (PartTop height top unit))) read h)

-- ---- job and part together

-- the part is too high
pub high_joined : (job : JobFields) (part : List Tri) (height : ℤ) → IsLow job part (Some height) → JoinsPart job part (Err (Unfit (PartTop height job.top job.unit)))
high_joined job part height high = (high.0, refl, refl, high.1)

-- the part that was read is put to the job
pub joined_under : (job : JobFields) (told : Option (List ℕ)) (part : List Tri) (r : Result Setup LoadFault) → IfSome told (λ text. IsPartText job text part) → JoinsPart job part r
    → LoadsUnder job told r
joined_under job told part (Ok s) is h = (h.0, subst (λ (p : List Tri). IfSome told (λ text. IsPartText job text p)) (sym h.1) is, subst (λ (p : List Tri). IsUnder p job.top) (sym h.1) h.2)
joined_under job told part (Err Memory) is h = absurd h
joined_under job told part (Err (ReadFault file)) is h = absurd h
joined_under job told part (Err (Unfit (TooLong file))) is h = absurd h
joined_under job told part (Err (Unfit (JobRefused fault))) is h = absurd h
joined_under job told part (Err (Unfit (PartRefused fault))) is h = absurd h
joined_under job told part (Err (Unfit (ListRefused fault))) is h = absurd h
joined_under job told part (Err (Unfit (ProgramRefused file fault))) is h = absurd h
joined_under job told part (Err (Unfit (PartTop height top unit))) is h =
    record { part = part; part_is = is; greatest = h.0; limit = h.1; unit_is = h.2; over = h.3 }

-- ---- counts

-- a file that is too long is longer than the limit
pub whole_long : (told : Option (List ℕ)) (limit : ℕ) (r : Result (AnyVec ℕ Global) ReadEnd) → r ≡ Err Long → IsWhole told limit r → IfSome told (λ bytes. limit < length bytes)
whole_long told limit r e h = subst (λ (x : Result (AnyVec ℕ Global) ReadEnd). IsWhole told limit x) e h

pub next_long : (told : Option (List ℕ)) (limit given : ℕ) (buf : List ℕ) (r : Result ℕ PieceEnd) → r ≡ Err LongPiece → GivesNext told limit given buf r → IfSome told (λ bytes. limit < length bytes)
next_long told limit given buf r e h = subst (λ (x : Result ℕ PieceEnd). GivesNext told limit given buf x) e h

-- no count rose from 0 to 0
unrisen : Rose 0 0 → ⊥
unrisen rose = omega (rose, arith)

-- what isn't read from a store comes to no read fault
pub none_failed : {T : Type 0} (names : File → List ℕ) (log : List Reading) (r : Result T LoadFault) → CountsFault 0 0 r → IfErr r (NamesFault names log)
none_failed names log (Ok x) h = tt
none_failed names log (Err Memory) h = tt
none_failed names log (Err (ReadFault file)) h = absurd (unrisen h)
none_failed names log (Err (Unfit fault)) h = tt

-- ---- one reading after another

-- the contents that the store tells hold what was read in turn: the first reads left them
pub held_next : (a b c : StoreView) → ReadsOnly a b → AreHeld a.contents a.log b.log → AreHeld b.contents b.log c.log → AreHeld a.contents a.log c.log
held_next a b c only first next = held_on a.contents a.log b.log c.log first (held_as b.contents a.contents b.log c.log (λ name. sym (only.contents name)) next)

-- what was read first left the count of failed reads as it was
pub loads_on : {T U : Type 0} (a b c : StoreView) (x : T) (r : Result U LoadFault) → (let q : Result T LoadFault = Ok x in OnlyLoads a b q) → OnlyLoads b c r → OnlyLoads a c r
loads_on a b c x r first next = record {
  only = reads_on a b c first.only next.only;
  reads = subst (λ (n : ℕ). CountsFault n c.read_faults r) first.reads next.reads;
  held = held_next a b c first.only first.held next.held;
}
