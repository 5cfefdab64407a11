-- Where the files are told, what was read decides the answer.
use Rattle.std.proofs.Common.{◌≡◌, ℕ, List, Result, Ok, Err, refl, sym, ap, subst, ◌∙◌, inl, inr, arith}
use Rattle.std.specs.Prelude.{◌<◌, ◌≤◌, ℤ, ◌≤ℤ◌, ◌<ℤ◌, IsSome}
use Rattle.std.proofs.lemmas.Int.{ints}
use Rattle.mill_base.specs.declared.points.Tri.{Tri}
use Rattle.mill_base.specs.declared.motion.Move.{Move}
use Rattle.mill_base.specs.declared.unit.Unit.{Unit as LengthUnit}
use Rattle.mill_base.specs.Covers.{IsUnder}
use Rattle.mill_part.specs.Tops.{IsTop, HasCornerAt}
use Rattle.mill_stl.specs.Parts.{Part}
use Rattle.mill_stl.specs.declared.fault.StlFault.{StlFault}
use Rattle.mill_said.specs.declared.fault.NgcFault.{NgcFault}
use Rattle.mill_job.specs.declared.fields.JobFields.{JobFields}
use Rattle.mill_job.specs.declared.fault.JobFault.{JobFault}
use Rattle.mill_job.proofs.OneAnswer.{one_answer}
use Rattle.mill_job.specs.Habits.{run_by}
use Rattle.mill_verify.specs.Verdicts.{IsVerdict}
use Rattle.mill_verify.specs.declared.verdict.Verdict.{Verdict}
use Rattle.mill_load.specs.declared.file.File.TheVariants.{Job as JobFile, Part as PartFile, Program as ProgramFile, List as ListFile, StepProgram}
use Rattle.mill_load.specs.declared.load.Unfit.{Unfit}
use Rattle.mill_load.specs.declared.load.Unfit.TheVariants.{TooLong, JobRefused, PartRefused, ListRefused, ProgramRefused, PartTop}
use Rattle.mill_answer.specs.Judgments.{unfit, judged, Judgment, IsJudgment, judgment_status}
use Rattle.mill_load.specs.Setup.{SetupTexts, AreSetupTold, IsTooLong, IsTooLongJob, IsJobText, IsRefusedJob, ReadsJob, IsPartText, IsRefusedPart, ReadsPart, ReadsSetup, LongPart, RefusesPart, HighPart, IsUnfit}
use Rattle.mill_answer.specs.Verify.{Texts, AreTold, ReadsProgram, Reads, LongProgram, RefusesProgram, IsUnfitProgram, Judges, verdict_status}
use Rattle.mill_load.specs.Programs.{IsProgramText, IsRefusedProgram}
use Rattle.mill_answer.proofs.Told.{told_both}

pub ok_is : {A E : Type 0} (a b : A) → (let r : Result A E = Ok a in r) ≡ Ok b → a ≡ b
ok_is a b e = cc

pub ok_err : {A E : Type 0} (a : A) (f : E) → (let r : Result A E = Ok a in r) ≡ Err f → ⊥
ok_err a f e = cc

pub too_long : (a b : ℕ) → a < b → b ≤ a → ⊥
too_long a b h k = omega (h, k, arith)

-- ---- one text reads as one thing

pub job_text : (text : List ℕ) (a b : JobFields) → IsJobText text a → IsJobText text b → a ≡ b
job_text text a b r s = ok_is a b (one_answer text (Ok a) (Ok b) r.reads s.reads)

pub no_job_text : (text : List ℕ) (job : JobFields) (fault : JobFault) → IsJobText text job → IsRefusedJob text fault → ⊥
no_job_text text job fault r refused = ok_err job fault (one_answer text (Ok job) (Err fault) r.reads refused.refused)

pub part_text : (job : JobFields) (text : List ℕ) (a b : List Tri) → IsPartText job text a → IsPartText job text b → a ≡ b
part_text job text a b r s =
    ap (λ (p : Part). p.tris) (ok_is (record { tris = a; rounded = r.rounded }) (record { tris = b; rounded = s.rounded }) (sym r.reads ∙ s.reads))

pub no_part_text : (job : JobFields) (text : List ℕ) (part : List Tri) (fault : StlFault) → IsPartText job text part → IsRefusedPart job text fault → ⊥
no_part_text job text part fault r refused = ok_err (record { tris = part; rounded = r.rounded }) fault (sym r.reads ∙ refused.refused)

pub program_text : (job : JobFields) (text : List ℕ) (a b : List Move) → IsProgramText job text a → IsProgramText job text b → a ≡ b
program_text job text a b r s = r.made ∙ ap (run_by job.rapids) (ok_is r.read s.read (sym r.reads ∙ s.reads)) ∙ sym s.made

pub no_program_text : (job : JobFields) (text : List ℕ) (moves : List Move) (fault : NgcFault) → IsProgramText job text moves → IsRefusedProgram job text fault → ⊥
no_program_text job text moves fault r refused = ok_err r.read fault (sym r.reads ∙ refused.refused)

-- ---- so does a file that is told

pub same_job : (texts : SetupTexts) (a b : JobFields) → IsSome texts.job → ReadsJob texts a → ReadsJob texts b → a ≡ b
same_job texts a b told r s =
    let both = told_both (λ text. IsJobText text a) (λ text. IsJobText text b) texts.job told r s in
    job_text both.0 a b both.1 both.2

pub same_part : (texts : SetupTexts) (job : JobFields) (a b : List Tri) → IsSome texts.part → ReadsPart texts job a → ReadsPart texts job b → a ≡ b
same_part texts job a b told r s =
    let both = told_both (λ text. IsPartText job text a) (λ text. IsPartText job text b) texts.part told r s in
    part_text job both.0 a b both.1 both.2

pub same_moves : (texts : Texts) (job : JobFields) (a b : List Move) → IsSome texts.program → ReadsProgram texts job a → ReadsProgram texts job b → a ≡ b
same_moves texts job a b told r s =
    let both = told_both (λ text. IsProgramText job text a) (λ text. IsProgramText job text b) texts.program told r s in
    program_text job both.0 a b both.1 both.2

-- ---- files that are told and read are not unfit

corner_under : (tri : Tri) (z top : ℤ) → (tri.a.z ≤ℤ top) × (tri.b.z ≤ℤ top) × (tri.c.z ≤ℤ top) → HasCornerAt tri z → z ≤ℤ top
corner_under tri z top u (inl e) = subst (λ (h : ℤ). h ≤ℤ top) e u.0
corner_under tri z top u (inr (inl e)) = subst (λ (h : ℤ). h ≤ℤ top) e u.1
corner_under tri z top u (inr (inr e)) = subst (λ (h : ℤ). h ≤ℤ top) e u.2

-- a part that isn't over the top has no corner over it
not_high : (part : List Tri) (top height limit : ℤ) → IsUnder part top → IsTop part height → limit ≡ top → limit <ℤ height → ⊥
not_high part top height limit under is_top same over =
    below height top (corner_under is_top.tri height top (under is_top.tri is_top.member) is_top.corner) (subst (λ (t : ℤ). t <ℤ height) same over)
  where
    below : (h t : ℤ) → h ≤ℤ t → t <ℤ h → ⊥
    below h t le lt = omega (le, lt, arith, ints)

fit_long_part : (texts : SetupTexts) (job : JobFields) (part : List Tri) → AreSetupTold texts → ReadsSetup texts job part → LongPart texts → ⊥
fit_long_part texts job part told r h =
    let both = told_both IsTooLong (λ text. IsPartText job text part) texts.part told.part h.long r.part_is in
    too_long _ _ both.1 both.2.fits

fit_part : (texts : SetupTexts) (job : JobFields) (part : List Tri) (fault : StlFault) → AreSetupTold texts → ReadsSetup texts job part → RefusesPart texts fault → ⊥
fit_part texts job part fault told r h =
    let same : h.job ≡ job = same_job texts h.job job told.job h.job_is r.job_is in
    let both = told_both (λ text. IsRefusedPart h.job text fault) (λ text. IsPartText job text part) texts.part told.part h.refused r.part_is in
    no_part_text job both.0 part fault both.2 (subst (λ (j : JobFields). IsRefusedPart j both.0 fault) same both.1)

fit_top : (texts : SetupTexts) (job : JobFields) (part : List Tri) (height top : ℤ) (unit : LengthUnit) → AreSetupTold texts → ReadsSetup texts job part → HighPart texts height top unit → ⊥
fit_top texts job part height top unit told r h =
    let same : h.job ≡ job = same_job texts h.job job told.job h.job_is r.job_is in
    let same_p : h.part ≡ part = same_part texts job h.part part told.part (subst (λ (j : JobFields). ReadsPart texts j h.part) same h.part_is) r.part_is in
    not_high part job.top height top r.under (subst (λ (q : List Tri). IsTop q height) same_p h.greatest) (h.limit ∙ ap (λ (j : JobFields). j.top) same) h.over

pub fit_setup : (texts : SetupTexts) (job : JobFields) (part : List Tri) (u : Unfit) → AreSetupTold texts → ReadsSetup texts job part → IsUnfit texts u → ⊥
fit_setup texts job part (TooLong JobFile) told r h =
    let both = told_both IsTooLongJob (λ text. IsJobText text job) texts.job told.job h r.job_is in
    too_long _ _ both.1 both.2.fits
fit_setup texts job part (TooLong PartFile) told r h = fit_long_part texts job part told r h
fit_setup texts job part (TooLong ProgramFile) told r h = h
fit_setup texts job part (TooLong ListFile) told r h = h
fit_setup texts job part (TooLong (StepProgram k)) told r h = h
fit_setup texts job part (JobRefused fault) told r h =
    let both = told_both (λ text. IsRefusedJob text fault) (λ text. IsJobText text job) texts.job told.job h r.job_is in
    no_job_text both.0 job fault both.2 both.1
fit_setup texts job part (PartRefused fault) told r h = fit_part texts job part fault told r h
fit_setup texts job part (ListRefused fault) told r h = h
fit_setup texts job part (ProgramRefused file fault) told r h = h
fit_setup texts job part (PartTop height top unit) told r h = fit_top texts job part height top unit told r h

fit_long_program : (texts : Texts) (job : JobFields) (part : List Tri) (moves : List Move) → AreTold texts → Reads texts job part moves → LongProgram texts → ⊥
fit_long_program texts job part moves told r h =
    let both = told_both IsTooLong (λ text. IsProgramText job text moves) texts.program told.program h.long r.moves_are in
    too_long _ _ both.1 both.2.fits

fit_moves : (texts : Texts) (job : JobFields) (part : List Tri) (moves : List Move) (fault : NgcFault) → AreTold texts → Reads texts job part moves → RefusesProgram texts fault → ⊥
fit_moves texts job part moves fault told r h =
    let same : h.job ≡ job = same_job texts.setup h.job job told.setup.job h.setup_is.job_is r.setup_is.job_is in
    let both = told_both (λ text. IsRefusedProgram h.job text fault) (λ text. IsProgramText job text moves) texts.program told.program h.refused r.moves_are in
    no_program_text job both.0 moves fault both.2 (subst (λ (j : JobFields). IsRefusedProgram j both.0 fault) same both.1)

pub fit_program : (texts : Texts) (job : JobFields) (part : List Tri) (moves : List Move) (u : Unfit) → AreTold texts → Reads texts job part moves → IsUnfitProgram texts u → ⊥
fit_program texts job part moves (TooLong JobFile) told r h = fit_setup texts.setup job part (TooLong JobFile) told.setup r.setup_is h
fit_program texts job part moves (TooLong PartFile) told r h = fit_long_part texts.setup job part told.setup r.setup_is h
fit_program texts job part moves (TooLong ProgramFile) told r h = fit_long_program texts job part moves told r h
fit_program texts job part moves (TooLong ListFile) told r h = h
fit_program texts job part moves (TooLong (StepProgram k)) told r h = h
fit_program texts job part moves (JobRefused fault) told r h = fit_setup texts.setup job part (JobRefused fault) told.setup r.setup_is h
fit_program texts job part moves (PartRefused fault) told r h = fit_part texts.setup job part fault told.setup r.setup_is h
fit_program texts job part moves (ListRefused fault) told r h = h
fit_program texts job part moves (ProgramRefused JobFile fault) told r h = h
fit_program texts job part moves (ProgramRefused PartFile fault) told r h = h
fit_program texts job part moves (ProgramRefused ProgramFile fault) told r h = fit_moves texts job part moves fault told r h
fit_program texts job part moves (ProgramRefused ListFile fault) told r h = h
fit_program texts job part moves (ProgramRefused (StepProgram k) fault) told r h = h
fit_program texts job part moves (PartTop height top unit) told r h = fit_top texts.setup job part height top unit told.setup r.setup_is h

-- ---- `verify`

-- what was judged is what was read
pub judged_is : (texts : Texts) (job j : JobFields) (part p : List Tri) (moves m : List Move) (v : Verdict) → AreTold texts → Reads texts job part moves → Judges texts j p m v
    → IsVerdict job part moves v
judged_is texts job j part p moves m v told r h =
    let e : j ≡ job = same_job texts.setup j job told.setup.job h.all_read.setup_is.job_is r.setup_is.job_is in
    let f : p ≡ part = same_part texts.setup job p part told.setup.part (subst (λ (x : JobFields). ReadsPart texts.setup x p) e h.all_read.setup_is.part_is) r.setup_is.part_is in
    let g : m ≡ moves = same_moves texts job m moves told.program (subst (λ (x : JobFields). ReadsProgram texts x m) e h.all_read.moves_are) r.moves_are in
    subst (λ (x : List Move). IsVerdict job part x v) g (subst (λ (x : List Tri). IsVerdict job x m v) f (subst (λ (x : JobFields). IsVerdict x p m v) e h.is))

-- the answer is the status of a verdict on what was read
pub record HasVerdict (job : JobFields) (part : List Tri) (moves : List Move) (status : ℕ) : Type 0 where
  pub verdict : Verdict
  pub is : IsVerdict job part moves verdict
  pub same : status ≡ verdict_status verdict

-- files that are told and read are judged, and nothing is refused
pub is_judged : (texts : Texts) (job : JobFields) (part : List Tri) (moves : List Move) (a : Judgment) → AreTold texts → Reads texts job part moves → IsJudgment texts a
    → HasVerdict job part moves (judgment_status a)
is_judged texts job part moves (unfit u) told r h = absurd (fit_program texts job part moves u told r h)
is_judged texts job part moves (judged j p m v) told r h = record { verdict = v; is = judged_is texts job j part p moves m v told r h; same = refl }
