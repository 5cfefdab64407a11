-- Where the three files are told, there is one judgment on them: it is that of the first check that fails, and there is one such check.
use Rattle.std.proofs.Common.{◌≡◌, ◌⊎◌, ℕ, List, Option, Result, Err, refl, sym, ap, subst, ◌∙◌, inl, inr, arith}
use Rattle.std.specs.Prelude.{ℤ, ◌≤ℤ◌, IfSome, IsSome}
use Rattle.std.proofs.lemmas.Int.{ints}
use Rattle.mill_base.specs.declared.motion.Move.{Move}
use Rattle.mill_base.specs.declared.points.Tri.{Tri}
use Rattle.mill_said.specs.declared.fault.NgcFault.{NgcFault}
use Rattle.mill_job.proofs.OneAnswer.{one_answer}
use Rattle.mill_job.specs.declared.fault.JobFault.{JobFault}
use Rattle.mill_job.specs.declared.fields.JobFields.{JobFields}
use Rattle.mill_load.specs.Programs.{IsRefusedProgram}
use Rattle.mill_load.specs.Setup.{AreSetupTold, IsJobText, IsPartText, IsRefusedJob, IsRefusedPart, IsTooLong, IsTooLongJob, IsUnfit, ReadsJob, ReadsPart, ReadsSetup, SetupTexts}
use Rattle.mill_load.specs.declared.file.File.{File}
use Rattle.mill_load.specs.declared.file.File.TheVariants.{Job as JobFile, List as ListFile, Part as PartFile, Program as ProgramFile, StepProgram}
use Rattle.mill_load.specs.declared.load.Unfit.{Unfit}
use Rattle.mill_load.specs.declared.load.Unfit.TheVariants.{JobRefused, ListRefused, PartRefused, PartTop, ProgramRefused, TooLong}
use Rattle.mill_part.specs.Tops.{HasCornerAt, IsTop}
use Rattle.mill_answer.proofs.Answering.{fit_program, fit_setup, judged_is, no_job_text, no_part_text, same_job, same_moves, same_part, too_long}
use Rattle.mill_answer.proofs.Told.{told_both}
use Rattle.mill_answer.specs.Judgments.{judged, unfit, OneJudgment}
use Rattle.mill_answer.specs.Verify.{AreTold, IsUnfitProgram, Judges, ReadsProgram, Texts}
use Rattle.mill_stl.specs.declared.fault.StlFault.{StlFault}
use Rattle.mill_verify.specs.Verdicts.{OneVerdict}
use Rattle.mill_verify.specs.declared.verdict.Verdict.{Verdict}

pub err_is : {A E : Type 0} (a b : E) → (let r : Result A E = Err a in r) ≡ Err b → a ≡ b
err_is a b e = cc

-- ---- the job's file

-- its check that fails: it is too long, or refused
abbrev pub JobStops : Option (List ℕ) → Unfit → Type 0
JobStops told u = ((u ≡ TooLong JobFile) × IfSome told IsTooLongJob) ⊎ ((fault : JobFault) × (u ≡ JobRefused fault) × IfSome told (λ text. IsRefusedJob text fault))

pub one_job_stop : (told : Option (List ℕ)) (u w : Unfit) → IsSome told → JobStops told u → JobStops told w → u ≡ w
one_job_stop told u w some (inl s) (inl t) = s.0 ∙ sym t.0
one_job_stop told u w some (inl s) (inr t) =
    let both = told_both IsTooLongJob (λ text. IsRefusedJob text t.0) told some s.1 t.2 in
    absurd (too_long _ _ both.1 both.2.fits)
one_job_stop told u w some (inr s) (inl t) =
    let both = told_both IsTooLongJob (λ text. IsRefusedJob text s.0) told some t.1 s.2 in
    absurd (too_long _ _ both.1 both.2.fits)
one_job_stop told u w some (inr s) (inr t) =
    let both = told_both (λ text. IsRefusedJob text s.0) (λ text. IsRefusedJob text t.0) told some s.2 t.2 in
    s.1 ∙ ap JobRefused (err_is s.0 t.0 (one_answer both.0 (Err s.0) (Err t.0) both.1.refused both.2.refused)) ∙ sym t.1

-- a job that is read stops nothing
pub job_goes_on : (told : Option (List ℕ)) (job : JobFields) (u : Unfit) → IsSome told → IfSome told (λ text. IsJobText text job) → JobStops told u → ⊥
job_goes_on told job u some r (inl s) =
    let both = told_both IsTooLongJob (λ text. IsJobText text job) told some s.1 r in
    too_long _ _ both.1 both.2.fits
job_goes_on told job u some r (inr s) =
    let both = told_both (λ text. IsRefusedJob text s.0) (λ text. IsJobText text job) told some s.2 r in
    no_job_text both.0 job s.0 both.2 both.1

-- ---- the part's file

-- the part is over the job's top
record IsHigh (texts : SetupTexts) (job : JobFields) (u : Unfit) : Type 0 where
  part : List Tri
  height : ℤ
  is : u ≡ PartTop height job.top job.unit
  part_is : ReadsPart texts job part
  greatest : IsTop part height

-- its check that fails: it is too long, or refused, or too high
abbrev PartStops : SetupTexts → JobFields → Unfit → Type 0
PartStops texts job u =
    ((u ≡ TooLong PartFile) × IfSome texts.part IsTooLong)
    ⊎ (((fault : StlFault) × (u ≡ PartRefused fault) × IfSome texts.part (λ text. IsRefusedPart job text fault)) ⊎ IsHigh texts job u)

-- a part has one greatest height
at_most : (part : List Tri) (a b : ℤ) → IsTop part a → IsTop part b → a ≤ℤ b
at_most part a b s t = corner s.corner
  where
    corner : HasCornerAt s.tri a → a ≤ℤ b
    corner (inl e) = subst (λ (h : ℤ). h ≤ℤ b) e (t.under s.tri s.member).0
    corner (inr (inl e)) = subst (λ (h : ℤ). h ≤ℤ b) e (t.under s.tri s.member).1
    corner (inr (inr e)) = subst (λ (h : ℤ). h ≤ℤ b) e (t.under s.tri s.member).2

both_ways : (a b : ℤ) → a ≤ℤ b → b ≤ℤ a → a ≡ b
both_ways a b h g = omega (h, g, arith, ints)

one_high : (texts : SetupTexts) (job : JobFields) (u w : Unfit) → IsSome texts.part → IsHigh texts job u → IsHigh texts job w → u ≡ w
one_high texts job u w some s t =
    let same : s.part ≡ t.part = same_part texts job s.part t.part some s.part_is t.part_is in
    let greatest : IsTop t.part s.height = subst (λ (p : List Tri). IsTop p s.height) same s.greatest in
    let height : s.height ≡ t.height = both_ways s.height t.height (at_most t.part s.height t.height greatest t.greatest) (at_most t.part t.height s.height t.greatest greatest) in
    s.is ∙ ap (λ h. PartTop h job.top job.unit) height ∙ sym t.is

long_or_refused : (texts : SetupTexts) (job : JobFields) (fault : StlFault) → IsSome texts.part → IfSome texts.part IsTooLong → IfSome texts.part (λ text. IsRefusedPart job text fault) → ⊥
long_or_refused texts job fault some s t =
    let both = told_both IsTooLong (λ text. IsRefusedPart job text fault) texts.part some s t in
    too_long _ _ both.1 both.2.fits

long_or_high : (texts : SetupTexts) (job : JobFields) (part : List Tri) → IsSome texts.part → IfSome texts.part IsTooLong → ReadsPart texts job part → ⊥
long_or_high texts job part some s t =
    let both = told_both IsTooLong (λ text. IsPartText job text part) texts.part some s t in
    too_long _ _ both.1 both.2.fits

refused_or_high : (texts : SetupTexts) (job : JobFields) (part : List Tri) (fault : StlFault) → IsSome texts.part → IfSome texts.part (λ text. IsRefusedPart job text fault) → ReadsPart texts job part → ⊥
refused_or_high texts job part fault some s t =
    let both = told_both (λ text. IsRefusedPart job text fault) (λ text. IsPartText job text part) texts.part some s t in
    no_part_text job both.0 part fault both.2 both.1

one_part_stop : (texts : SetupTexts) (job : JobFields) (u w : Unfit) → IsSome texts.part → PartStops texts job u → PartStops texts job w → u ≡ w
one_part_stop texts job u w some (inl s) (inl t) = s.0 ∙ sym t.0
one_part_stop texts job u w some (inl s) (inr (inl t)) = absurd (long_or_refused texts job t.0 some s.1 t.2)
one_part_stop texts job u w some (inl s) (inr (inr t)) = absurd (long_or_high texts job t.part some s.1 t.part_is)
one_part_stop texts job u w some (inr (inl s)) (inl t) = absurd (long_or_refused texts job s.0 some t.1 s.2)
one_part_stop texts job u w some (inr (inl s)) (inr (inl t)) =
    let both = told_both (λ text. IsRefusedPart job text s.0) (λ text. IsRefusedPart job text t.0) texts.part some s.2 t.2 in
    s.1 ∙ ap PartRefused (err_is s.0 t.0 (sym both.1.refused ∙ both.2.refused)) ∙ sym t.1
one_part_stop texts job u w some (inr (inl s)) (inr (inr t)) = absurd (refused_or_high texts job t.part s.0 some s.2 t.part_is)
one_part_stop texts job u w some (inr (inr s)) (inl t) = absurd (long_or_high texts job s.part some t.1 s.part_is)
one_part_stop texts job u w some (inr (inr s)) (inr (inl t)) = absurd (refused_or_high texts job s.part t.0 some t.2 s.part_is)
one_part_stop texts job u w some (inr (inr s)) (inr (inr t)) = one_high texts job u w some s t

-- ---- job and part

-- the job stops it, or the part does
abbrev SetupStops : SetupTexts → Unfit → Type 0
SetupStops texts u = JobStops texts.job u ⊎ ((job : JobFields) × ReadsJob texts job × PartStops texts job u)

setup_stop : (texts : SetupTexts) (u : Unfit) → IsUnfit texts u → SetupStops texts u
setup_stop texts (TooLong JobFile) h = inl (inl (refl, h))
setup_stop texts (TooLong PartFile) h = inr (h.job, h.job_is, inl (refl, h.long))
setup_stop texts (TooLong ProgramFile) h = absurd h
setup_stop texts (TooLong ListFile) h = absurd h
setup_stop texts (TooLong (StepProgram k)) h = absurd h
setup_stop texts (JobRefused fault) h = inl (inr (fault, refl, h))
setup_stop texts (PartRefused fault) h = inr (h.job, h.job_is, inr (inl (fault, refl, h.refused)))
setup_stop texts (ListRefused fault) h = absurd h
setup_stop texts (PartTop height top unit) h = inr (h.job, h.job_is, inr (inr (record { part = h.part; height = height; is = (λ i. PartTop height (h.limit i) (h.unit_is i)); part_is = h.part_is; greatest = h.greatest })))
setup_stop texts (ProgramRefused file fault) h = absurd h

one_setup_stop : (texts : SetupTexts) (u w : Unfit) → AreSetupTold texts → SetupStops texts u → SetupStops texts w → u ≡ w
one_setup_stop texts u w told (inl s) (inl t) = one_job_stop texts.job u w told.job s t
one_setup_stop texts u w told (inl s) (inr t) = absurd (job_goes_on texts.job t.0 u told.job t.1 s)
one_setup_stop texts u w told (inr s) (inl t) = absurd (job_goes_on texts.job s.0 w told.job s.1 t)
one_setup_stop texts u w told (inr s) (inr t) =
    let same : s.0 ≡ t.0 = same_job texts s.0 t.0 told.job s.1 t.1 in
    one_part_stop texts t.0 u w told.part (subst (λ (j : JobFields). PartStops texts j u) same s.2) t.2

pub one_unfit : (texts : SetupTexts) (u w : Unfit) → AreSetupTold texts → IsUnfit texts u → IsUnfit texts w → u ≡ w
one_unfit texts u w told h k = one_setup_stop texts u w told (setup_stop texts u h) (setup_stop texts w k)

-- ---- a program

-- its check that fails: it is too long, or refused
abbrev pub ProgramStops : Option (List ℕ) → JobFields → File → Unfit → Type 0
ProgramStops told job file u =
    ((u ≡ TooLong file) × IfSome told IsTooLong) ⊎ ((fault : NgcFault) × (u ≡ ProgramRefused file fault) × IfSome told (λ text. IsRefusedProgram job text fault))

pub one_program_stop : (told : Option (List ℕ)) (job : JobFields) (file : File) (u w : Unfit) → IsSome told → ProgramStops told job file u → ProgramStops told job file w → u ≡ w
one_program_stop told job file u w some (inl s) (inl t) = s.0 ∙ sym t.0
one_program_stop told job file u w some (inl s) (inr t) =
    let both = told_both IsTooLong (λ text. IsRefusedProgram job text t.0) told some s.1 t.2 in
    absurd (too_long _ _ both.1 both.2.fits)
one_program_stop told job file u w some (inr s) (inl t) =
    let both = told_both IsTooLong (λ text. IsRefusedProgram job text s.0) told some t.1 s.2 in
    absurd (too_long _ _ both.1 both.2.fits)
one_program_stop told job file u w some (inr s) (inr t) =
    let both = told_both (λ text. IsRefusedProgram job text s.0) (λ text. IsRefusedProgram job text t.0) told some s.2 t.2 in
    s.1 ∙ ap (λ f. ProgramRefused file f) (err_is s.0 t.0 (sym both.1.refused ∙ both.2.refused)) ∙ sym t.1

-- ---- `verify`

abbrev VerifyStops : Texts → Unfit → Type 0
VerifyStops texts u = IsUnfit texts.setup u ⊎ ((job : JobFields) × (part : List Tri) × ReadsSetup texts.setup job part × ProgramStops texts.program job ProgramFile u)

verify_stop : (texts : Texts) (u : Unfit) → IsUnfitProgram texts u → VerifyStops texts u
verify_stop texts (TooLong JobFile) h = inl h
verify_stop texts (TooLong PartFile) h = inl h
verify_stop texts (TooLong ProgramFile) h = inr (h.job, h.part, h.setup_is, inl (refl, h.long))
verify_stop texts (TooLong ListFile) h = absurd h
verify_stop texts (TooLong (StepProgram k)) h = absurd h
verify_stop texts (JobRefused fault) h = inl h
verify_stop texts (PartRefused fault) h = inl h
verify_stop texts (ListRefused fault) h = absurd h
verify_stop texts (PartTop height top unit) h = inl h
verify_stop texts (ProgramRefused JobFile fault) h = absurd h
verify_stop texts (ProgramRefused PartFile fault) h = absurd h
verify_stop texts (ProgramRefused ProgramFile fault) h = inr (h.job, h.part, h.setup_is, inr (fault, refl, h.refused))
verify_stop texts (ProgramRefused ListFile fault) h = absurd h
verify_stop texts (ProgramRefused (StepProgram k) fault) h = absurd h

one_verify_stop : (texts : Texts) (u w : Unfit) → AreTold texts → VerifyStops texts u → VerifyStops texts w → u ≡ w
one_verify_stop texts u w told (inl s) (inl t) = one_unfit texts.setup u w told.setup s t
one_verify_stop texts u w told (inl s) (inr t) = absurd (fit_setup texts.setup t.0 t.1 u told.setup t.2 s)
one_verify_stop texts u w told (inr s) (inl t) = absurd (fit_setup texts.setup s.0 s.1 w told.setup s.2 t)
one_verify_stop texts u w told (inr s) (inr t) =
    let same : s.0 ≡ t.0 = same_job texts.setup s.0 t.0 told.setup.job s.2.job_is t.2.job_is in
    one_program_stop texts.program t.0 ProgramFile u w told.program (subst (λ (j : JobFields). ProgramStops texts.program j ProgramFile u) same s.3) t.3

one_judged : OneVerdict → (texts : Texts) (j q : JobFields) (p o : List Tri) (m n : List Move) (v w : Verdict) → AreTold texts → Judges texts j p m v → Judges texts q o n w → judged j p m v ≡ judged q o n w
one_judged one texts j q p o m n v w told h k =
    let e : j ≡ q = same_job texts.setup j q told.setup.job h.all_read.setup_is.job_is k.all_read.setup_is.job_is in
    let f : p ≡ o = same_part texts.setup q p o told.setup.part (subst (λ (x : JobFields). ReadsPart texts.setup x p) e h.all_read.setup_is.part_is) k.all_read.setup_is.part_is in
    let g : m ≡ n = same_moves texts q m n told.program (subst (λ (x : JobFields). ReadsProgram texts x m) e h.all_read.moves_are) k.all_read.moves_are in
    let same : v ≡ w = one q o n v w (judged_is texts q j o p n m v told k.all_read h) k.is in
    λ i. judged (e i) (f i) (g i) (same i)

-- ---- the law

pub one_judgment_of : OneVerdict → OneJudgment
one_judgment_of one texts (unfit u) (unfit w) told h k = ap unfit (one_verify_stop texts u w told (verify_stop texts u h) (verify_stop texts w k))
one_judgment_of one texts (unfit u) (judged q o n w) told h k = absurd (fit_program texts q o n u told k.all_read h)
one_judgment_of one texts (judged j p m v) (unfit w) told h k = absurd (fit_program texts j p m w told h.all_read k)
one_judgment_of one texts (judged j p m v) (judged q o n w) told h k = one_judged one texts j q p o m n v w told h k
