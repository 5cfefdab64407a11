-- Where the files are told, what was read decides the answer.
use Rattle.std.proofs.Common.{◌≡◌, ◌⊎◌, ℕ, zero, suc, Bool, true, false, List, [], ◌∷◌, length, Option, Ok, Err, refl, sym, ap, subst, ◌∙◌, inl, inr, arith}
use Rattle.std.specs.Prelude.{◌<◌, ℤ, All, IsSome}
use Rattle.std.proofs.lemmas.List.Elements.{All-get_or, All-head, All-tail}
use Rattle.mill_base.specs.declared.points.Tri.{Tri}
use Rattle.mill_base.specs.declared.motion.Move.{Move}
use Rattle.mill_base.specs.declared.unit.Unit.{Unit as LengthUnit}
use Rattle.mill_said.specs.declared.fault.NgcFault.{NgcFault}
use Rattle.mill_job.specs.declared.fields.JobFields.{JobFields}
use Rattle.mill_job.specs.declared.fault.JobFault.{JobFault}
use Rattle.mill_job.specs.declared.step.Step.{Step}
use Rattle.mill_job.proofs.OneList.{one_list}
use Rattle.mill_verify.specs.Files.{File as CutFile}
use Rattle.mill_verify.specs.Lists.{IsListVerdict}
use Rattle.mill_verify.specs.declared.list.ListVerdict.{ListVerdict}
use Rattle.mill_plan.specs.Plans.{PlanAnswer, done, too_many_nodes, too_many_moves, uncut, held}
use Rattle.mill_command.specs.Requests.{verify, plan, drop, level, stock, rest, sample}
use Rattle.mill_load.specs.declared.file.File.TheVariants.{Job as JobFile, Part as PartFile, Program as ProgramFile, List as ListFile, StepProgram}
use Rattle.mill_load.specs.declared.load.Unfit.{Unfit}
use Rattle.mill_load.specs.declared.load.Unfit.TheVariants.{TooLong, JobRefused, PartRefused, ListRefused, ProgramRefused, PartTop}
use Rattle.mill_load.specs.declared.place.Coordinate.{Coordinate}
use Rattle.mill_load.specs.declared.place.Coordinate.TheVariants.{X, Y, Z}
use Rattle.mill_job.specs.declared.fields.Place.{Place}
use Rattle.mill_decimal.specs.declared.fault.DecFault.{DecFault}
use Rattle.mill_run.specs.Answers.{Answer, refused_word, unfit, judged, planned, dropped, leveled, stocked, judged_files, sampled, answer_status, IsAnswer}
use Rattle.mill_load.specs.Places.{ReadsPlace, RefusesWord, ReadsHeight, RefusesZ}
use Rattle.mill_run.specs.Drop.{RefusesPlace}
use Rattle.mill_run.specs.Plan.{IsUnfitPlan, Plans}
use Rattle.mill_run.specs.Level.{RefusesHeight, outlines, too_many_nodes as too_fine}
use Rattle.mill_run.specs.Rest.{RestTexts, rest_texts, AreRestTold, IsListText, IsRefusedList, ReadsList, step_at, ReadsStep, ReadsSteps, ReadsRest, LongList, RefusesList, ReadsToStep, LongStep, RefusesStep, IsUnfitRest, JudgesFiles, list_status}
use Rattle.mill_load.specs.Setup.{SetupTexts, setup_texts, AreSetupTold, IsTooLong, IsTooLongJob, IsJobText, IsRefusedJob, ReadsJob, ReadsPart, ReadsSetup, IsUnfit, IsUnfitWith}
use Rattle.mill_run.specs.Stock.{StockTexts, stock_texts, AreStockTold, ReadsStockJob, ReadsStock, LongStockProgram, RefusesStockProgram, IsUnfitStock, drawn, too_many_triangles}
use Rattle.mill_answer.specs.Verify.{texts_of, AreTold, Reads, Files}
use Rattle.mill_load.specs.Programs.{IsProgramText, IsRefusedProgram}
use Rattle.mill_run.specs.Words.{PlanFiles, DropWords, LevelWords, StockFiles, RestFiles}
use Rattle.mill_answer.proofs.Told.{told_both}
use Rattle.mill_answer.proofs.Answering.{is_judged as judged_files_of, ok_is, ok_err, too_long, job_text, no_job_text, program_text, no_program_text, same_job, same_part, fit_setup, HasVerdict}
use Rattle.mill_answer.specs.Judgments.{unfit as unfit_files, judged as judged_program}

-- what is unfit where words are read between the files is so anyway
pub unfit_of : (ReadsWords : Type 0) (texts : SetupTexts) (u : Unfit) → IsUnfitWith ReadsWords texts u → IsUnfit texts u
unfit_of W texts (TooLong JobFile) h = h
unfit_of W texts (TooLong PartFile) h = h.1
unfit_of W texts (TooLong ProgramFile) h = h.1
unfit_of W texts (TooLong ListFile) h = h.1
unfit_of W texts (TooLong (StepProgram k)) h = h.1
unfit_of W texts (JobRefused fault) h = h
unfit_of W texts (PartRefused fault) h = h.1
unfit_of W texts (ListRefused fault) h = h.1
unfit_of W texts (ProgramRefused file fault) h = h.1
unfit_of W texts (PartTop height top unit) h = h.1

-- ---- `verify`

-- files that are told and read are judged, and nothing is refused
pub is_judged : (contents : List ℕ → Option (List ℕ)) (files : Files) (workers : ℕ) (job : JobFields) (part : List Tri) (moves : List Move) (a : Answer)
    → AreTold (texts_of contents files) → Reads (texts_of contents files) job part moves → IsAnswer contents (verify files.job files.part files.program workers) a
    → HasVerdict job part moves (answer_status a)
is_judged contents files workers job part moves (refused_word coordinate fault) told r h = absurd h
is_judged contents files workers job part moves (unfit u) told r h = judged_files_of (texts_of contents files) job part moves (unfit_files u) told r h
is_judged contents files workers job part moves (judged j p m v) told r h = judged_files_of (texts_of contents files) job part moves (judged_program j p m v) told r h
is_judged contents files workers job part moves (planned j q name answer) told r h = absurd h
is_judged contents files workers job part moves (dropped unit height) told r h = absurd h
is_judged contents files workers job part moves (leveled unit answer) told r h = absurd h
is_judged contents files workers job part moves (stocked j m name answer) told r h = absurd h
is_judged contents files workers job part moves (judged_files j q ss fs v) told r h = absurd h
is_judged contents files workers job part moves (sampled n answer) told r h = absurd h

-- ---- `plan`

on_or_off : (b : Bool) → b ≡ true → b ≡ false → ⊥
on_or_off b on off = cc

-- files that are told and read aren't refused, where the job asks for no spindle
fit_plan : (texts : SetupTexts) (job : JobFields) (part : List Tri) (u : Unfit) → AreSetupTold texts → ReadsSetup texts job part → job.spindle ≡ false → IsUnfitPlan texts u → ⊥
fit_plan texts job part u told r off (inl h) = fit_setup texts job part u told r (unfit_of _ texts u h)
fit_plan texts job part u told r off (inr h) =
    let same : h.job ≡ job = same_job texts h.job job told.job h.job_is r.job_is in
    on_or_off job.spindle (subst (λ (j : JobFields). j.spindle ≡ true) same h.turns) off

-- files that are told and read have a plan, or there is none, and nothing is refused
pub is_planned : (contents : List ℕ → Option (List ℕ)) (files : PlanFiles) (workers : ℕ) (job : JobFields) (part : List Tri) (a : Answer)
    → AreSetupTold (setup_texts contents files.job files.part) → ReadsSetup (setup_texts contents files.job files.part) job part → job.spindle ≡ false
    → IsAnswer contents (plan files.job files.part files.out workers) a → (answer_status a ≡ 0) ⊎ ((answer_status a ≡ 8) ⊎ (answer_status a ≡ 9))
is_planned contents files workers job part (refused_word coordinate fault) told r off h = absurd h
is_planned contents files workers job part (unfit u) told r off h = absurd (fit_plan (setup_texts contents files.job files.part) job part u told r off h)
is_planned contents files workers job part (judged j p m v) told r off h = absurd h
is_planned contents files workers job part (planned j q name (done text count columns left)) told r off h = inl refl
is_planned contents files workers job part (planned j q name (uncut row col top)) told r off h = inr (inl refl)
is_planned contents files workers job part (planned j q name (held number row col)) told r off h = inr (inl refl)
is_planned contents files workers job part (planned j q name (too_many_nodes nodes)) told r off h = inr (inr refl)
is_planned contents files workers job part (planned j q name too_many_moves) told r off h = inr (inr refl)
is_planned contents files workers job part (dropped unit height) told r off h = absurd h
is_planned contents files workers job part (leveled unit answer) told r off h = absurd h
is_planned contents files workers job part (stocked j m name answer) told r off h = absurd h
is_planned contents files workers job part (judged_files j q ss fs v) told r off h = absurd h
is_planned contents files workers job part (sampled n answer) told r off h = absurd h

-- a job that is read and asks for a spindle has no plan
no_plan : (contents : List ℕ → Option (List ℕ)) (files : PlanFiles) (job j : JobFields) (part : List Tri) (answer : PlanAnswer) → IsSome (contents files.job)
    → ReadsJob (setup_texts contents files.job files.part) job → job.spindle ≡ true → Plans (setup_texts contents files.job files.part) j part answer → ⊥
no_plan contents files job j part answer told r on h =
    let same : job ≡ j = same_job (setup_texts contents files.job files.part) job j told r h.setup_is.job_is in
    on_or_off j.spindle (subst (λ (k : JobFields). k.spindle ≡ true) same on) h.still

-- so it is refused
pub is_unfed : (contents : List ℕ → Option (List ℕ)) (files : PlanFiles) (workers : ℕ) (job : JobFields) (a : Answer) → IsSome (contents files.job)
    → ReadsJob (setup_texts contents files.job files.part) job → job.spindle ≡ true → IsAnswer contents (plan files.job files.part files.out workers) a → answer_status a ≡ 4
is_unfed contents files workers job (refused_word coordinate fault) told r on h = absurd h
is_unfed contents files workers job (unfit u) told r on h = refl
is_unfed contents files workers job (judged j p m v) told r on h = absurd h
is_unfed contents files workers job (planned j q name answer) told r on h = absurd (no_plan contents files job j q answer told r on h.1)
is_unfed contents files workers job (dropped unit height) told r on h = absurd h
is_unfed contents files workers job (leveled unit answer) told r on h = absurd h
is_unfed contents files workers job (stocked j m name answer) told r on h = absurd h
is_unfed contents files workers job (judged_files j q ss fs v) told r on h = absurd h
is_unfed contents files workers job (sampled n answer) told r on h = absurd h

-- ---- `drop`

pub reads_word : (unit : LengthUnit) (x y : List ℕ) (place : Place) (coordinate : Coordinate) (fault : DecFault) → ReadsPlace unit x y place → RefusesWord unit x y coordinate fault → ⊥
reads_word unit x y place X fault r e = ok_err place.x fault (sym r.x_is ∙ e)
reads_word unit x y place Y fault r e = ok_err place.y fault (sym r.y_is ∙ e.2)
reads_word unit x y place Z fault r e = e

place_read : (contents : List ℕ → Option (List ℕ)) (given : DropWords) (place : Place) (job : JobFields) (coordinate : Coordinate) (fault : DecFault) → ReadsPlace job.unit given.x given.y place
    → IsSome (contents given.job) → ReadsJob (setup_texts contents given.job given.part) job
    → RefusesPlace (setup_texts contents given.job given.part) given.x given.y coordinate fault → ⊥
place_read contents given place job coordinate fault reads told r h =
    let same : h.job ≡ job = same_job (setup_texts contents given.job given.part) h.job job told h.job_is r in
    reads_word job.unit given.x given.y place coordinate fault reads (subst (λ (j : JobFields). RefusesWord j.unit given.x given.y coordinate fault) same h.refused)

-- words that read, and files that are told and read, give a drop height, and nothing is refused
pub is_dropped : (contents : List ℕ → Option (List ℕ)) (given : DropWords) (place : Place) (job : JobFields) (part : List Tri) (a : Answer) → ReadsPlace job.unit given.x given.y place
    → AreSetupTold (setup_texts contents given.job given.part) → ReadsSetup (setup_texts contents given.job given.part) job part
    → IsAnswer contents (drop given.job given.part given.x given.y) a → answer_status a ≡ 0
is_dropped contents given place job part (refused_word coordinate fault) p told r h = absurd (place_read contents given place job coordinate fault p told.job r.job_is h)
is_dropped contents given place job part (unfit u) p told r h = absurd (fit_setup (setup_texts contents given.job given.part) job part u told r (unfit_of _ _ u h))
is_dropped contents given place job part (judged j q m v) p told r h = absurd h
is_dropped contents given place job part (planned j q name answer) p told r h = absurd h
is_dropped contents given place job part (dropped unit height) p told r h = refl
is_dropped contents given place job part (leveled unit answer) p told r h = absurd h
is_dropped contents given place job part (stocked j m name answer) p told r h = absurd h
is_dropped contents given place job part (judged_files j q ss fs v) p told r h = absurd h
is_dropped contents given place job part (sampled n answer) p told r h = absurd h

-- ---- `level`

pub reads_height : (unit : LengthUnit) (z : List ℕ) (height : ℤ) (coordinate : Coordinate) (fault : DecFault) → ReadsHeight unit z height → RefusesZ unit z coordinate fault → ⊥
reads_height unit z height X fault r e = e
reads_height unit z height Y fault r e = e
reads_height unit z height Z fault r e = ok_err height fault (sym r ∙ e)

height_read : (contents : List ℕ → Option (List ℕ)) (given : LevelWords) (height : ℤ) (job : JobFields) (coordinate : Coordinate) (fault : DecFault) → ReadsHeight job.unit given.z height
    → IsSome (contents given.job) → ReadsJob (setup_texts contents given.job given.part) job
    → RefusesHeight (setup_texts contents given.job given.part) given.z coordinate fault → ⊥
height_read contents given height job coordinate fault reads told r h =
    let same : h.job ≡ job = same_job (setup_texts contents given.job given.part) h.job job told h.job_is r in
    reads_height job.unit given.z height coordinate fault reads (subst (λ (j : JobFields). RefusesZ j.unit given.z coordinate fault) same h.refused)

-- a word that reads, and files that are told and read, give the chains or too many nodes, and nothing is refused
pub is_leveled : (contents : List ℕ → Option (List ℕ)) (given : LevelWords) (height : ℤ) (job : JobFields) (part : List Tri) (a : Answer) → ReadsHeight job.unit given.z height
    → AreSetupTold (setup_texts contents given.job given.part) → ReadsSetup (setup_texts contents given.job given.part) job part
    → IsAnswer contents (level given.job given.part given.z) a → (answer_status a ≡ 0) ⊎ (answer_status a ≡ 9)
is_leveled contents given height job part (refused_word coordinate fault) z told r h = absurd (height_read contents given height job coordinate fault z told.job r.job_is h)
is_leveled contents given height job part (unfit u) z told r h = absurd (fit_setup (setup_texts contents given.job given.part) job part u told r (unfit_of _ _ u h))
is_leveled contents given height job part (judged j q m v) z told r h = absurd h
is_leveled contents given height job part (planned j q name answer) z told r h = absurd h
is_leveled contents given height job part (dropped unit place) z told r h = absurd h
is_leveled contents given height job part (leveled unit (outlines found)) z told r h = inl refl
is_leveled contents given height job part (leveled unit (too_fine nodes)) z told r h = inr refl
is_leveled contents given height job part (stocked j m name answer) z told r h = absurd h
is_leveled contents given height job part (judged_files j q ss fs v) z told r h = absurd h
is_leveled contents given height job part (sampled n answer) z told r h = absurd h

-- ---- `stock`

pub same_stock_job : (texts : StockTexts) (a b : JobFields) → IsSome texts.job → ReadsStockJob texts a → ReadsStockJob texts b → a ≡ b
same_stock_job texts a b told r s =
    let both = told_both (λ text. IsJobText text a) (λ text. IsJobText text b) texts.job told r s in
    job_text both.0 a b both.1 both.2

fit_long_stock : (texts : StockTexts) (job : JobFields) (moves : List Move) → AreStockTold texts → ReadsStock texts job moves → LongStockProgram texts → ⊥
fit_long_stock texts job moves told r h =
    let both = told_both IsTooLong (λ text. IsProgramText job text moves) texts.program told.program h.long r.moves_are in
    too_long _ _ both.1 both.2.fits

fit_stock_moves : (texts : StockTexts) (job : JobFields) (moves : List Move) (fault : NgcFault) → AreStockTold texts → ReadsStock texts job moves → RefusesStockProgram texts fault → ⊥
fit_stock_moves texts job moves fault told r h =
    let same : h.job ≡ job = same_stock_job texts h.job job told.job h.job_is r.job_is in
    let both = told_both (λ text. IsRefusedProgram h.job text fault) (λ text. IsProgramText job text moves) texts.program told.program h.refused r.moves_are in
    no_program_text job both.0 moves fault both.2 (subst (λ (j : JobFields). IsRefusedProgram j both.0 fault) same both.1)

pub fit_stock : (texts : StockTexts) (job : JobFields) (moves : List Move) (u : Unfit) → AreStockTold texts → ReadsStock texts job moves → IsUnfitStock texts u → ⊥
fit_stock texts job moves (TooLong JobFile) told r h =
    let both = told_both IsTooLongJob (λ text. IsJobText text job) texts.job told.job h r.job_is in
    too_long _ _ both.1 both.2.fits
fit_stock texts job moves (TooLong PartFile) told r h = h
fit_stock texts job moves (TooLong ProgramFile) told r h = fit_long_stock texts job moves told r h
fit_stock texts job moves (TooLong ListFile) told r h = h
fit_stock texts job moves (TooLong (StepProgram k)) told r h = h
fit_stock texts job moves (JobRefused fault) told r h =
    let both = told_both (λ text. IsRefusedJob text fault) (λ text. IsJobText text job) texts.job told.job h r.job_is in
    no_job_text both.0 job fault both.2 both.1
fit_stock texts job moves (PartRefused fault) told r h = h
fit_stock texts job moves (ListRefused fault) told r h = h
fit_stock texts job moves (ProgramRefused JobFile fault) told r h = h
fit_stock texts job moves (ProgramRefused PartFile fault) told r h = h
fit_stock texts job moves (ProgramRefused ProgramFile fault) told r h = fit_stock_moves texts job moves fault told r h
fit_stock texts job moves (ProgramRefused ListFile fault) told r h = h
fit_stock texts job moves (ProgramRefused (StepProgram k) fault) told r h = h
fit_stock texts job moves (PartTop height top unit) told r h = h

-- files that are told and read give a surface or too many triangles, and nothing is refused
pub is_stocked : (contents : List ℕ → Option (List ℕ)) (files : StockFiles) (job : JobFields) (moves : List Move) (a : Answer) → AreStockTold (stock_texts contents files.job files.program)
    → ReadsStock (stock_texts contents files.job files.program) job moves → IsAnswer contents (stock files.job files.program files.out) a → (answer_status a ≡ 0) ⊎ (answer_status a ≡ 9)
is_stocked contents files job moves (refused_word coordinate fault) told r h = absurd h
is_stocked contents files job moves (unfit u) told r h = absurd (fit_stock (stock_texts contents files.job files.program) job moves u told r h)
is_stocked contents files job moves (judged j p m v) told r h = absurd h
is_stocked contents files job moves (planned j q name answer) told r h = absurd h
is_stocked contents files job moves (dropped unit height) told r h = absurd h
is_stocked contents files job moves (leveled unit answer) told r h = absurd h
is_stocked contents files job moves (stocked j m name (drawn text count)) told r h = inl refl
is_stocked contents files job moves (stocked j m name (too_many_triangles count)) told r h = inr refl
is_stocked contents files job moves (judged_files j q ss fs v) told r h = absurd h
is_stocked contents files job moves (sampled n answer) told r h = absurd h

-- ---- `rest`

pub list_text : (job : JobFields) (text : List ℕ) (a b : List Step) → IsListText job text a → IsListText job text b → a ≡ b
list_text job text a b r s = ok_is a b (one_list job text (Ok a) (Ok b) r.reads s.reads)

pub no_list_text : (job : JobFields) (text : List ℕ) (steps : List Step) (fault : JobFault) → IsListText job text steps → IsRefusedList job text fault → ⊥
no_list_text job text steps fault r refused = ok_err steps fault (one_list job text (Ok steps) (Err fault) r.reads refused.refused)

pub same_steps : (texts : RestTexts) (job : JobFields) (a b : List Step) → IsSome texts.list → ReadsList texts job a → ReadsList texts job b → a ≡ b
same_steps texts job a b told r s =
    let both = told_both (λ text. IsListText job text a) (λ text. IsListText job text b) texts.list told r s in
    list_text job both.0 a b both.1 both.2

-- a step whose program is told reads as one file, and so does each of a list
same_file : (programs : List ℕ → Option (List ℕ)) (job : JobFields) (step : Step) (a b : CutFile) → IsSome (programs step.program) → ReadsStep programs job step a → ReadsStep programs job step b → a ≡ b
same_file programs job step a b told r s =
    let both = told_both (λ text. IsProgramText job text a.moves) (λ text. IsProgramText job text b.moves) (programs step.program) told r.moves_are s.moves_are in
    let cutter : a.cutter ≡ b.cutter = r.cutter_is ∙ sym s.cutter_is in
    let moves : a.moves ≡ b.moves = program_text job both.0 a.moves b.moves both.1 both.2 in
    λ i. record { cutter = cutter i; moves = moves i }

pub same_files : (programs : List ℕ → Option (List ℕ)) (job : JobFields) (steps : List Step) (a b : List CutFile) → All (λ step. IsSome (programs step.program)) steps → ReadsSteps programs job steps a
    → ReadsSteps programs job steps b → a ≡ b
same_files programs job [] [] [] told r s = refl
same_files programs job [] [] (g ∷ b) told r s = absurd s
same_files programs job [] (f ∷ a) b told r s = absurd r
same_files programs job (step ∷ steps) [] b told r s = absurd r
same_files programs job (step ∷ steps) (f ∷ a) [] told r s = absurd s
same_files programs job (step ∷ steps) (f ∷ a) (g ∷ b) told r s =
    let first : f ≡ g = same_file programs job step f g (All-head (λ x. IsSome (programs x.program)) step steps told) r.0 s.0 in
    let others : a ≡ b = same_files programs job steps a b (All-tail (λ x. IsSome (programs x.program)) step steps told) r.1 s.1 in
    λ i. first i ∷ others i

-- a step within a list that is read is read
pub step_read : (programs : List ℕ → Option (List ℕ)) (job : JobFields) (steps : List Step) (files : List CutFile) (k : ℕ) → ReadsSteps programs job steps files → k < length steps
    → (file : CutFile) × ReadsStep programs job (step_at steps k) file
step_read programs job [] files k r there = absurd (omega (there, arith))
step_read programs job (step ∷ steps) [] k r there = absurd r
step_read programs job (step ∷ steps) (file ∷ files) zero r there = (file, r.0)
step_read programs job (step ∷ steps) (file ∷ files) (suc k) r there = step_read programs job steps files k r.1 (omega (there, arith))

-- the step before which a list is read to stands in the list that is told, and is told and read
reads_to : (texts : RestTexts) (job j : JobFields) (part : List Tri) (steps : List Step) (files : List CutFile) (step : Step) (k : ℕ) → AreRestTold texts steps → ReadsRest texts job part steps files
    → ReadsToStep texts j step k → (j ≡ job) × IsSome (texts.programs step.program) × ((file : CutFile) × ReadsStep texts.programs job step file)
reads_to texts job j part steps files step k told r h =
    let same : j ≡ job = same_job texts.setup j job told.setup.job h.setup_is.job_is r.setup_is.job_is in
    let list : h.steps ≡ steps = same_steps texts job h.steps steps told.list (subst (λ (x : JobFields). ReadsList texts x h.steps) same h.list_is) r.list_is in
    let there : k < length steps = subst (λ (xs : List Step). k < length xs) list h.there in
    let is : step ≡ step_at steps k = h.step_is ∙ ap (λ (xs : List Step). step_at xs k) list in
    let read = step_read texts.programs job steps files k r.files_are there in (
      same,
      subst (λ (x : Step). IsSome (texts.programs x.program)) (sym is) (All-get_or (λ x. IsSome (texts.programs x.program)) steps k _ there told.programs),
      (read.0, subst (λ (x : Step). ReadsStep texts.programs job x read.0) (sym is) read.1),
    )

fit_long_list : (texts : RestTexts) (job : JobFields) (part : List Tri) (steps : List Step) (files : List CutFile) → AreRestTold texts steps → ReadsRest texts job part steps files → LongList texts → ⊥
fit_long_list texts job part steps files told r h =
    let both = told_both IsTooLongJob (λ text. IsListText job text steps) texts.list told.list h.long r.list_is in
    too_long _ _ both.1 both.2.fits

fit_list : (texts : RestTexts) (job : JobFields) (part : List Tri) (steps : List Step) (files : List CutFile) (fault : JobFault) → AreRestTold texts steps → ReadsRest texts job part steps files
    → RefusesList texts fault → ⊥
fit_list texts job part steps files fault told r h =
    let same : h.job ≡ job = same_job texts.setup h.job job told.setup.job h.setup_is.job_is r.setup_is.job_is in
    let both = told_both (λ text. IsRefusedList h.job text fault) (λ text. IsListText job text steps) texts.list told.list h.refused r.list_is in
    no_list_text job both.0 steps fault both.2 (subst (λ (j : JobFields). IsRefusedList j both.0 fault) same both.1)

fit_long_step : (texts : RestTexts) (job : JobFields) (part : List Tri) (steps : List Step) (files : List CutFile) (k : ℕ) → AreRestTold texts steps → ReadsRest texts job part steps files → LongStep texts k → ⊥
fit_long_step texts job part steps files k told r h =
    let (same, there, read) = reads_to texts job h.job part steps files h.step k told r h.before in
    let both = told_both IsTooLong (λ text. IsProgramText job text read.0.moves) (texts.programs h.step.program) there h.long read.1.moves_are in
    too_long _ _ both.1 both.2.fits

fit_step : (texts : RestTexts) (job : JobFields) (part : List Tri) (steps : List Step) (files : List CutFile) (k : ℕ) (fault : NgcFault) → AreRestTold texts steps → ReadsRest texts job part steps files
    → RefusesStep texts k fault → ⊥
fit_step texts job part steps files k fault told r h =
    let (same, there, read) = reads_to texts job h.job part steps files h.step k told r h.before in
    let both = told_both (λ text. IsRefusedProgram h.job text fault) (λ text. IsProgramText job text read.0.moves) (texts.programs h.step.program) there h.refused read.1.moves_are in
    no_program_text job both.0 read.0.moves fault both.2 (subst (λ (j : JobFields). IsRefusedProgram j both.0 fault) same both.1)

pub fit_rest : (texts : RestTexts) (job : JobFields) (part : List Tri) (steps : List Step) (files : List CutFile) (u : Unfit) → AreRestTold texts steps → ReadsRest texts job part steps files → IsUnfitRest texts u → ⊥
fit_rest texts job part steps files (TooLong JobFile) told r h = fit_setup texts.setup job part (TooLong JobFile) told.setup r.setup_is h
fit_rest texts job part steps files (TooLong PartFile) told r h = fit_setup texts.setup job part (TooLong PartFile) told.setup r.setup_is h
fit_rest texts job part steps files (TooLong ProgramFile) told r h = h
fit_rest texts job part steps files (TooLong ListFile) told r h = fit_long_list texts job part steps files told r h
fit_rest texts job part steps files (TooLong (StepProgram k)) told r h = fit_long_step texts job part steps files k told r h
fit_rest texts job part steps files (JobRefused fault) told r h = fit_setup texts.setup job part (JobRefused fault) told.setup r.setup_is h
fit_rest texts job part steps files (PartRefused fault) told r h = fit_setup texts.setup job part (PartRefused fault) told.setup r.setup_is h
fit_rest texts job part steps files (ListRefused fault) told r h = fit_list texts job part steps files fault told r h
fit_rest texts job part steps files (ProgramRefused JobFile fault) told r h = h
fit_rest texts job part steps files (ProgramRefused PartFile fault) told r h = h
fit_rest texts job part steps files (ProgramRefused ProgramFile fault) told r h = h
fit_rest texts job part steps files (ProgramRefused ListFile fault) told r h = h
fit_rest texts job part steps files (ProgramRefused (StepProgram k) fault) told r h = fit_step texts job part steps files k fault told r h
fit_rest texts job part steps files (PartTop height top unit) told r h = fit_setup texts.setup job part (PartTop height top unit) told.setup r.setup_is h

-- what was judged is what was read
pub judged_list_is : (texts : RestTexts) (job j : JobFields) (part p : List Tri) (steps ss : List Step) (files fs : List CutFile) (v : ListVerdict) → AreRestTold texts steps → ReadsRest texts job part steps files
    → JudgesFiles texts j p ss fs v → IsListVerdict job part files v
judged_list_is texts job j part p steps ss files fs v told r h =
    let e : j ≡ job = same_job texts.setup j job told.setup.job h.all_read.setup_is.job_is r.setup_is.job_is in
    let f : p ≡ part = same_part texts.setup job p part told.setup.part (subst (λ (x : JobFields). ReadsPart texts.setup x p) e h.all_read.setup_is.part_is) r.setup_is.part_is in
    let list : ss ≡ steps = same_steps texts job ss steps told.list (subst (λ (x : JobFields). ReadsList texts x ss) e h.all_read.list_is) r.list_is in
    let here : ReadsSteps texts.programs job steps fs = subst (λ (xs : List Step). ReadsSteps texts.programs job xs fs) list (subst (λ (x : JobFields). ReadsSteps texts.programs x ss fs) e h.all_read.files_are) in
    let g : fs ≡ files = same_files texts.programs job steps fs files told.programs here r.files_are in
    subst (λ (x : List CutFile). IsListVerdict job part x v) g (subst (λ (x : List Tri). IsListVerdict job x fs v) f (subst (λ (x : JobFields). IsListVerdict x p fs v) e h.is))

-- the answer is the status of a verdict on what was read
pub record HasListVerdict (job : JobFields) (part : List Tri) (files : List CutFile) (status : ℕ) : Type 0 where
  pub verdict : ListVerdict
  pub is : IsListVerdict job part files verdict
  pub same : status ≡ list_status verdict

-- files that are told and read are judged, and nothing is refused
pub is_judged_in_turn : (contents : List ℕ → Option (List ℕ)) (names : RestFiles) (workers : ℕ) (job : JobFields) (part : List Tri) (steps : List Step) (files : List CutFile) (a : Answer)
    → AreRestTold (rest_texts contents names) steps → ReadsRest (rest_texts contents names) job part steps files → IsAnswer contents (rest names.job names.part names.list workers) a
    → HasListVerdict job part files (answer_status a)
is_judged_in_turn contents names workers job part steps files (refused_word coordinate fault) told r h = absurd h
is_judged_in_turn contents names workers job part steps files (unfit u) told r h = absurd (fit_rest (rest_texts contents names) job part steps files u told r h)
is_judged_in_turn contents names workers job part steps files (judged j p m v) told r h = absurd h
is_judged_in_turn contents names workers job part steps files (planned j q name answer) told r h = absurd h
is_judged_in_turn contents names workers job part steps files (dropped unit height) told r h = absurd h
is_judged_in_turn contents names workers job part steps files (leveled unit answer) told r h = absurd h
is_judged_in_turn contents names workers job part steps files (stocked j m name answer) told r h = absurd h
is_judged_in_turn contents names workers job part steps files (judged_files j p ss fs v) told r h =
    record { verdict = v; is = judged_list_is (rest_texts contents names) job j part p steps ss files fs v told r h; same = refl }
is_judged_in_turn contents names workers job part steps files (sampled n answer) told r h = absurd h

-- ---- `sample`

-- a sample has a plan, or there is none, and nothing is refused
pub is_sampled : (contents : List ℕ → Option (List ℕ)) (n workers : ℕ) (a : Answer) → IsAnswer contents (sample n workers) a
    → (answer_status a ≡ 0) ⊎ ((answer_status a ≡ 8) ⊎ (answer_status a ≡ 9))
is_sampled contents n workers (refused_word coordinate fault) h = absurd h
is_sampled contents n workers (unfit u) h = absurd h
is_sampled contents n workers (judged j p m v) h = absurd h
is_sampled contents n workers (planned j q name answer) h = absurd h
is_sampled contents n workers (dropped unit height) h = absurd h
is_sampled contents n workers (leveled unit answer) h = absurd h
is_sampled contents n workers (stocked j m name answer) h = absurd h
is_sampled contents n workers (judged_files j q ss fs v) h = absurd h
is_sampled contents n workers (sampled size (done text count columns left)) h = inl refl
is_sampled contents n workers (sampled size (uncut row col top)) h = inr (inl refl)
is_sampled contents n workers (sampled size (held number row col)) h = inr (inl refl)
is_sampled contents n workers (sampled size (too_many_nodes nodes)) h = inr (inr refl)
is_sampled contents n workers (sampled size too_many_moves) h = inr (inr refl)
