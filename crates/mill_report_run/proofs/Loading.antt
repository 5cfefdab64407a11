-- What was read of the three files, or why it wasn't.
use Rattle.std.proofs.Common.{◌≡◌, ℕ, List, Option, Some, None, Result, Ok, Err, sym, subst, arith}
use Rattle.std.specs.Prelude.{IfErr, IfOk, IfSome}
use Rattle.std.specs.Global.{Vec}
use Rattle.mill_base.specs.declared.motion.Move.{Move}
use Rattle.mill_base.specs.declared.points.Tri.{Tri}
use Rattle.mill_io.specs.Causes.{Rose}
use Rattle.mill_io.specs.Views.{StoreView}
use Rattle.mill_job.specs.declared.fields.JobFields.{JobFields}
use Rattle.mill_load.proofs.Reading.{loads_on, under_loads}
use Rattle.mill_load.specs.Loads.{CountsFault, IsSetup, JoinsPart, LoadsProgram, LoadsSetup, OnlyLoads, ReadsFile}
use Rattle.mill_load.specs.Programs.{IsProgramText}
use Rattle.mill_load.specs.Setup.{IsJobText, IsPartText, ReadsSetup as ReadsBoth, SetupTexts}
use Rattle.mill_load.specs.declared.file.File.{File}
use Rattle.mill_load.specs.declared.file.File.TheVariants.{Job as JobFile, Part as PartFile, Program as ProgramFile, List as ListFile, StepProgram}
use Rattle.mill_load.specs.declared.load.LoadFault.{LoadFault}
use Rattle.mill_load.specs.declared.load.LoadFault.TheVariants.{Memory, ReadFault, Unfit}
use Rattle.mill_load.specs.declared.load.Setup.{Setup}
use Rattle.mill_load.specs.declared.load.Unfit.TheVariants.{TooLong, JobRefused, PartRefused, ListRefused, ProgramRefused, PartTop}
use Rattle.mill_report_run.specs.Outcomes.{AreTextsOf}
use Rattle.mill_report_run.specs.declared.load.JobRead.{JobRead}
use Rattle.mill_report_run.specs.declared.load.SetupRead.{SetupRead}
use Rattle.mill_report_run.specs.inner.Loads.{AreSetupTexts, HoldsJob, HoldsSetup, IsOfThree, IsReportFile, Loads, ReadsPart, ReadsSetup, ReadsSource}
use Rattle.mill_report_run.specs.Reports.{Read, Texts}
use Rattle.mill_answer.specs.Verify.{IsReadBeforeProgram, IsUnfitProgram, Reads, Texts as ToldTexts}

-- ---- one text

-- what holds of a text holds of what is told of its file, where that is the text
pub if_told : (P : List ℕ → Type 0) (told : Option (List ℕ)) (text : List ℕ) → IfSome told (λ bytes. text ≡ bytes) → P text → IfSome told P
if_told P None text same p = tt
if_told P (Some bytes) text same p = subst P same p

-- the text that was read of a file, or no memory for it
pub source_read : (told : Option (List ℕ)) (file : File) (text : List ℕ) (r : Result (List ℕ) LoadFault) → IfSome told (λ bytes. text ≡ bytes) → IfOk r (λ source. source ≡ text) → IfErr r (λ fault. fault ≡ Memory)
    → ReadsSource told file r
source_read told file text (Ok source) same is short = subst (λ (t : List ℕ). IfSome told (λ bytes. t ≡ bytes)) (sym is) same
source_read told file text (Err fault) same is short = subst (λ (x : LoadFault). (let r : Result (Vec ℕ) LoadFault = Err x in ReadsFile told file r)) (sym short) tt

-- ---- why there is nothing to report on

-- there were no job and part
pub no_setup : (told : ToldTexts) (f : LoadFault) → LoadsSetup told.setup (Err f) → Loads told (Err f)
no_setup told Memory h = tt
no_setup told (ReadFault JobFile) h = h
no_setup told (ReadFault PartFile) h = h
no_setup told (ReadFault ProgramFile) h = absurd h
no_setup told (ReadFault ListFile) h = h
no_setup told (ReadFault (StepProgram number)) h = h
no_setup told (Unfit (TooLong JobFile)) h = h
no_setup told (Unfit (TooLong PartFile)) h = h
no_setup told (Unfit (TooLong ProgramFile)) h = absurd h
no_setup told (Unfit (TooLong ListFile)) h = h
no_setup told (Unfit (TooLong (StepProgram number))) h = h
no_setup told (Unfit (JobRefused fault)) h = h
no_setup told (Unfit (PartRefused fault)) h = h
no_setup told (Unfit (ListRefused fault)) h = h
no_setup told (Unfit (ProgramRefused file fault)) h = absurd h
no_setup told (Unfit (PartTop height top unit)) h = h

-- job and part were read, and there were no moves
pub no_moves : (told : ToldTexts) (job : JobFields) (part : List Tri) (f : LoadFault) → ReadsBoth told.setup job part
    → (let r : Result (Vec Move) LoadFault = Err f in LoadsProgram job told.program ProgramFile r) → Loads told (Err f)
no_moves told job part Memory both h = tt
no_moves told job part (ReadFault file) both h = subst (λ (x : File). IsReadBeforeProgram told x) (sym h) (job, part, both)
no_moves told job part (Unfit (TooLong file)) both h =
    subst (λ (x : File). IsUnfitProgram told (TooLong x)) (sym h.0) (record { job = job; part = part; setup_is = both; long = h.1 })
no_moves told job part (Unfit (JobRefused fault)) both h = absurd h
no_moves told job part (Unfit (PartRefused fault)) both h = absurd h
no_moves told job part (Unfit (ListRefused fault)) both h = absurd h
no_moves told job part (Unfit (ProgramRefused file fault)) both h =
    subst (λ (x : File). IsUnfitProgram told (ProgramRefused x fault)) (sym h.0) (record { job = job; part = part; setup_is = both; refused = h.1 })
no_moves told job part (Unfit (PartTop height top unit)) both h = absurd h

-- the program's file has no text
pub no_program_text : (job : JobFields) (told : Option (List ℕ)) (f : LoadFault) → (let r : Result (Vec ℕ) LoadFault = Err f in ReadsFile told ProgramFile r)
    → (let r : Result (Vec Move) LoadFault = Err f in LoadsProgram job told ProgramFile r)
no_program_text job told Memory h = tt
no_program_text job told (ReadFault file) h = h
no_program_text job told (Unfit (TooLong file)) h = h
no_program_text job told (Unfit (JobRefused fault)) h = absurd h
no_program_text job told (Unfit (PartRefused fault)) h = absurd h
no_program_text job told (Unfit (ListRefused fault)) h = absurd h
no_program_text job told (Unfit (ProgramRefused file fault)) h = absurd h
no_program_text job told (Unfit (PartTop height top unit)) h = absurd h

-- or its text, which is what is told of it, has no moves
pub no_text_moves : (job : JobFields) (told : Option (List ℕ)) (text : List ℕ) (f : LoadFault) → IfSome told (λ bytes. text ≡ bytes)
    → (let r : Result (Vec Move) LoadFault = Err f in LoadsProgram job (Some text) ProgramFile r) → (let r : Result (Vec Move) LoadFault = Err f in LoadsProgram job told ProgramFile r)
no_text_moves job None text Memory same h = tt
no_text_moves job None text (ReadFault file) same h = h
no_text_moves job None text (Unfit (TooLong file)) same h = (h.0, tt)
no_text_moves job None text (Unfit (JobRefused fault)) same h = absurd h
no_text_moves job None text (Unfit (PartRefused fault)) same h = absurd h
no_text_moves job None text (Unfit (ListRefused fault)) same h = absurd h
no_text_moves job None text (Unfit (ProgramRefused file fault)) same h = (h.0, tt)
no_text_moves job None text (Unfit (PartTop height top unit)) same h = absurd h
no_text_moves job (Some bytes) text f same h = subst (λ (t : List ℕ). (let r : Result (Vec Move) LoadFault = Err f in LoadsProgram job (Some t) ProgramFile r)) same h

-- a read fault is that of one of the three
pub of_three : (told : ToldTexts) (f : LoadFault) → Loads told (Err f) → IsOfThree f
of_three told Memory h = tt
of_three told (ReadFault JobFile) h = tt
of_three told (ReadFault PartFile) h = tt
of_three told (ReadFault ProgramFile) h = tt
of_three told (ReadFault ListFile) h = h
of_three told (ReadFault (StepProgram number)) h = h
of_three told (Unfit fault) h = tt

-- so is that of the program's file
pub program_of_three : (told : Option (List ℕ)) (f : LoadFault) → (let r : Result (Vec ℕ) LoadFault = Err f in ReadsFile told ProgramFile r) → IsOfThree f
program_of_three told Memory h = tt
program_of_three told (ReadFault file) h = subst (λ (x : File). IsReportFile x) (sym h) tt
program_of_three told (Unfit fault) h = tt

-- ---- what was read

-- job and part are those of their files
pub both_read : (told : ToldTexts) (r : SetupRead) → AreSetupTexts told.setup r → HoldsSetup r → ReadsBoth told.setup r.setup.job.fields r.setup.part
both_read told r agree holds = record {
  job_is = if_told (λ text. IsJobText text r.setup.job.fields) told.setup.job r.job agree.job holds.job_is;
  part_is = if_told (λ text. IsPartText r.setup.job.fields text r.setup.part) told.setup.part r.part agree.part holds.part_is;
  under = holds.under;
}

-- so are all three
pub all_read : (told : ToldTexts) (texts : Texts) (job : JobFields) (part : List Tri) (moves : List Move) → AreTextsOf told texts → Read texts job part moves → Reads told job part moves
all_read told texts job part moves agree read = record {
  setup_is = record {
    job_is = if_told (λ text. IsJobText text job) told.setup.job texts.job agree.job read.job_is;
    part_is = if_told (λ text. IsPartText job text part) told.setup.part texts.part agree.part read.part_is;
    under = read.under;
  };
  moves_are = if_told (λ text. IsProgramText job text moves) told.program texts.program agree.program read.moves_are;
}

-- the part that was put to the job leaves both as their texts read
pub joined_holds : (before : JobRead) (part : List Tri) (r : SetupRead) → HoldsJob before → IsPartText before.job.fields r.part part → r.job ≡ before.source → IsSetup r.setup
    → (let s : Result Setup LoadFault = Ok r.setup in JoinsPart before.job.fields part s) → HoldsSetup r
joined_holds before part r holds is stays under h = record {
  job_is = subst (λ (text : List ℕ). IsJobText text r.setup.job.fields) (sym stays) (subst (λ (j : JobFields). IsJobText before.source j) (sym h.0) holds);
  part_is = subst (λ (j : JobFields). IsPartText j r.part r.setup.part) (sym h.0) (subst (λ (p : List Tri). IsPartText before.job.fields r.part p) (sym h.1) is);
  under = under;
}

-- the job was read, and this is what the part's file came to
pub setup_read : (told : SetupTexts) (before : JobRead) (r : Result SetupRead LoadFault) → IfSome told.job (λ bytes. before.source ≡ bytes) → HoldsJob before
    → ReadsPart before told.part r → ReadsSetup told r
setup_read told before (Ok s) same holds h =
    record { job = subst (λ (items : List ℕ). IfSome told.job (λ bytes. items ≡ bytes)) (sym h.stays) same; part = h.same }
setup_read told before (Err fault) same holds h =
    under_loads told before.job.fields (Err fault) (if_told (λ text. IsJobText text before.job.fields) told.job before.source same holds) h

-- ---- the store

no_rise : (Rose 0 0) → ⊥
no_rise rose = omega (rose, arith)

-- what is made of a text that was read changes nothing more
pub loads_with : {T U : Type 0} (a b : StoreView) (x : T) (r : Result U LoadFault) → (let q : Result T LoadFault = Ok x in OnlyLoads a b q) → CountsFault 0 0 r → OnlyLoads a b r
loads_with a b x (Ok y) loads cause = record { only = loads.only; reads = loads.reads; held = loads.held }
loads_with a b x (Err Memory) loads cause = record { only = loads.only; reads = loads.reads; held = loads.held }
loads_with a b x (Err (ReadFault file)) loads cause = absurd (no_rise cause)
loads_with a b x (Err (Unfit fault)) loads cause = record { only = loads.only; reads = loads.reads; held = loads.held }

-- a fault of a later read is that of all
fault_kept : {T U : Type 0} (a b : StoreView) (f : LoadFault) → (let q : Result T LoadFault = Err f in OnlyLoads a b q) → (let r : Result U LoadFault = Err f in OnlyLoads a b r)
fault_kept a b Memory loads = record { only = loads.only; reads = loads.reads; held = loads.held }
fault_kept a b (ReadFault file) loads = record { only = loads.only; reads = loads.reads; held = loads.held }
fault_kept a b (Unfit fault) loads = record { only = loads.only; reads = loads.reads; held = loads.held }

pub fault_on : {T U V : Type 0} (a b c : StoreView) (x : T) (f : LoadFault) → (let q : Result T LoadFault = Ok x in OnlyLoads a b q) → (let r : Result U LoadFault = Err f in OnlyLoads b c r)
    → (let s : Result V LoadFault = Err f in OnlyLoads a c s)
fault_on a b c x f first next = fault_kept a c f (loads_on a b c x (Err f) first next)
