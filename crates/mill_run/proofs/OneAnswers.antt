-- Where its files are told, a request has one answer: each answer is that of the first check that fails, and there is one such check.
use Rattle.std.proofs.Common.{◌≡◌, ◌⊎◌, ℕ, Bool, true, false, List, Option, Err, length, take, refl, sym, ap, subst, ◌∙◌, inl, inr, arith, length-take-le}
use Rattle.std.specs.Prelude.{◌<◌, ◌≤◌, ℤ, All, IfSome, IsSome}
use Rattle.std.proofs.lemmas.Bool.{cases_lt}
use Rattle.std.proofs.lemmas.List.{get_or-take}
use Rattle.std.proofs.lemmas.List.Elements.{All-get_or}
use Rattle.mill_base.specs.Lattices.{node_count}
use Rattle.mill_base.specs.declared.limits.TheConstants.{MAX_NODES, MAX_TRIANGLES}
use Rattle.mill_base.specs.declared.motion.Move.{Move}
use Rattle.mill_base.specs.declared.points.Tri.{Tri}
use Rattle.mill_base.specs.declared.unit.Unit.{Unit as LengthUnit}
use Rattle.mill_command.specs.Requests.{verify, plan, drop, level, stock, rest, sample}
use Rattle.mill_decimal.specs.declared.fault.DecFault.{DecFault}
use Rattle.mill_drop.proofs.Uniqueness.{one_height}
use Rattle.mill_drop.specs.Drops.{IsDropHeight}
use Rattle.mill_job.specs.Jobs.{tool_of}
use Rattle.mill_job.specs.declared.fault.JobFault.{JobFault}
use Rattle.mill_job.specs.declared.fields.JobFields.{JobFields}
use Rattle.mill_job.specs.declared.fields.Place.{Place}
use Rattle.mill_level.specs.Waterlines.{HasManyNodes, OneWaterline}
use Rattle.mill_obstacles.specs.Faces.{obstacles_of}
use Rattle.mill_job.proofs.OneList.{one_list}
use Rattle.mill_job.specs.declared.step.Step.{Step}
use Rattle.mill_load.specs.Places.{ReadsHeight, ReadsPlace, RefusesWord, RefusesZ}
use Rattle.mill_load.specs.Programs.{IsProgramText, IsRefusedProgram}
use Rattle.mill_load.specs.Setup.{AreSetupTold, IsTooLong, IsTooLongJob, IsUnfit, IsUnfitWith, ReadsJob, ReadsPart, ReadsSetup, SetupTexts, setup_texts}
use Rattle.mill_load.specs.declared.file.File.TheVariants.{Job as JobFile, List as ListFile, Part as PartFile, Program as ProgramFile, StepProgram}
use Rattle.mill_load.specs.declared.load.Unfit.{Unfit}
use Rattle.mill_load.specs.declared.load.Unfit.TheVariants.{JobRefused, ListRefused, PartRefused, PartTop, ProgramRefused, TooLong}
use Rattle.mill_load.specs.declared.place.Coordinate.{Coordinate}
use Rattle.mill_load.specs.declared.place.Coordinate.TheVariants.{X, Y, Z}
use Rattle.mill_paths.specs.Lattices.{finish_lattice}
use Rattle.mill_plan.specs.Laws.{OnePlanAnswer}
use Rattle.mill_plan.specs.Plans.{IsPlanAnswer, PlanAnswer}
use Rattle.mill_answer.proofs.Answering.{fit_setup, no_program_text, ok_err, ok_is, program_text, same_job, same_part, too_long}
use Rattle.mill_run.proofs.Answering.{fit_rest, fit_stock, judged_list_is, no_list_text, reads_height, reads_word, same_files, same_steps, same_stock_job, step_read, unfit_of}
use Rattle.mill_answer.proofs.Told.{told_both}
use Rattle.mill_run.specs.Answers.{Answer, IsAnswer, dropped, judged, judged_files, leveled, planned, refused_word, sampled, stocked, unfit}
use Rattle.mill_run.specs.Drop.{Drops, HasPlace, RefusesPlace}
use Rattle.mill_run.specs.Level.{HasHeight, IsLevelAnswer, LevelAnswer, Levels, RefusesHeight, outlines, too_many_nodes}
use Rattle.mill_run.specs.Plan.{IsUnfitPlan, LacksFeed, NeedsNoFeed, Plans}
use Rattle.mill_run.specs.Laws.{IsListTold, OneAnswer}
use Rattle.mill_run.specs.Rest.{AreRestTold, IsListText, IsRefusedList, IsUnfitRest, JudgesFiles, ReadsList, ReadsRest, ReadsStep, ReadsSteps, ReadsToStep, RestTexts, rest_texts, step_at}
use Rattle.mill_run.specs.Sample.{Samples}
use Rattle.mill_run.specs.Stock.{AreStockTold, DrawsStock, IsStockAnswer, IsUnfitStock, ReadsStockJob, StockAnswer, StockTexts, drawn, stock_surface, stock_texts, too_many_triangles}
use Rattle.mill_answer.specs.Verify.{AreTold, Texts, texts_of}
use Rattle.mill_run.specs.SamplePart.{sample_job, sample_part}
use Rattle.mill_run.proofs.Triangles.{length-surface}
use Rattle.mill_surface.specs.Surfaces.{HasManyTriangles}
use Rattle.mill_dexel.specs.Tops.{top_point}
use Rattle.mill_verify.specs.Files.{File as CutFile}
use Rattle.mill_verify.specs.Lists.{OneListVerdict}
use Rattle.mill_verify.specs.declared.list.ListVerdict.{ListVerdict}
use Rattle.mill_answer.proofs.OneJudgments.{err_is, JobStops, one_job_stop, job_goes_on, one_unfit, ProgramStops, one_program_stop}
use Rattle.mill_answer.specs.Judgments.{Judgment, IsJudgment, OneJudgment, unfit as unfit_files, judged as judged_program}

-- ---- `verify`

-- a judgment, as an answer
abbrev answer_of : Judgment → Answer
answer_of (unfit_files u) = unfit u
answer_of (judged_program j p m v) = judged j p m v

-- what the answers of `verify` are
abbrev VerifyAnswers : Texts → Answer → Type 0
VerifyAnswers texts a = (judgment : Judgment) × (a ≡ answer_of judgment) × IsJudgment texts judgment

verify_answer : (contents : List ℕ → Option (List ℕ)) (job part program : List ℕ) (workers : ℕ) (a : Answer) → IsAnswer contents (verify job part program workers) a
    → VerifyAnswers (texts_of contents (record { job = job; part = part; program = program })) a
verify_answer contents job part program workers (refused_word coordinate fault) h = absurd h
verify_answer contents job part program workers (unfit u) h = (unfit_files u, refl, h)
verify_answer contents job part program workers (judged j p m v) h = (judged_program j p m v, refl, h)
verify_answer contents job part program workers (planned j p name answer) h = absurd h
verify_answer contents job part program workers (dropped unit height) h = absurd h
verify_answer contents job part program workers (leveled unit answer) h = absurd h
verify_answer contents job part program workers (stocked j m name answer) h = absurd h
verify_answer contents job part program workers (judged_files j p ss fs v) h = absurd h
verify_answer contents job part program workers (sampled size answer) h = absurd h

one_verify : OneJudgment → (texts : Texts) (a b : Answer) → AreTold texts → VerifyAnswers texts a → VerifyAnswers texts b → a ≡ b
one_verify one texts a b told s t = s.1 ∙ ap answer_of (one texts s.0 t.0 told s.2 t.2) ∙ sym t.1

-- ---- where words are read between job and part

-- the job stops it; or the words are read, and a file stops it
abbrev StopsWith : Type 0 → SetupTexts → Unfit → Type 0
StopsWith Words texts u = JobStops texts.job u ⊎ (Words × IsUnfit texts u)

stop_with : (Words : Type 0) (texts : SetupTexts) (u : Unfit) → IsUnfitWith Words texts u → StopsWith Words texts u
stop_with Words texts (TooLong JobFile) h = inl (inl (refl, h))
stop_with Words texts (TooLong PartFile) h = inr h
stop_with Words texts (TooLong ProgramFile) h = inr h
stop_with Words texts (TooLong ListFile) h = inr h
stop_with Words texts (TooLong (StepProgram k)) h = inr h
stop_with Words texts (JobRefused fault) h = inl (inr (fault, refl, h))
stop_with Words texts (PartRefused fault) h = inr h
stop_with Words texts (ListRefused fault) h = inr h
stop_with Words texts (PartTop height top unit) h = inr h
stop_with Words texts (ProgramRefused file fault) h = inr h

-- ---- `plan`

one_planned : OnePlanAnswer → (texts : SetupTexts) (j q : JobFields) (p o : List Tri) (name : List ℕ) (answer next : PlanAnswer) → AreSetupTold texts → Plans texts j p answer → Plans texts q o next
    → planned j p name answer ≡ planned q o name next
one_planned one texts j q p o name answer next told h k =
    let e : j ≡ q = same_job texts j q told.job h.setup_is.job_is k.setup_is.job_is in
    let f : p ≡ o = same_part texts q p o told.part (subst (λ (x : JobFields). ReadsPart texts x p) e h.setup_is.part_is) k.setup_is.part_is in
    let is : IsPlanAnswer q o answer = subst (λ (x : List Tri). IsPlanAnswer q x answer) f (subst (λ (x : JobFields). IsPlanAnswer x p answer) e h.is) in
    let same : answer ≡ next = one q o answer next is k.is in
    λ i. planned (e i) (f i) name (same i)

abbrev PlanAnswers : SetupTexts → List ℕ → Answer → Type 0
PlanAnswers texts out a = ((u : Unfit) × (a ≡ unfit u) × IsUnfitPlan texts u) ⊎ ((j : JobFields) × (p : List Tri) × (answer : PlanAnswer) × (a ≡ planned j p out answer) × Plans texts j p answer)

plan_answer : (contents : List ℕ → Option (List ℕ)) (job part out : List ℕ) (workers : ℕ) (a : Answer) → IsAnswer contents (plan job part out workers) a → PlanAnswers (setup_texts contents job part) out a
plan_answer contents job part out workers (refused_word coordinate fault) h = absurd h
plan_answer contents job part out workers (unfit u) h = inl (u, refl, h)
plan_answer contents job part out workers (judged j p m v) h = absurd h
plan_answer contents job part out workers (planned j p name answer) h = inr (j, p, answer, ap (λ n. planned j p n answer) h.0, h.1)
plan_answer contents job part out workers (dropped unit height) h = absurd h
plan_answer contents job part out workers (leveled unit answer) h = absurd h
plan_answer contents job part out workers (stocked j m name answer) h = absurd h
plan_answer contents job part out workers (judged_files j p ss fs v) h = absurd h
plan_answer contents job part out workers (sampled size answer) h = absurd h

module _ (texts : SetupTexts) (told : AreSetupTold texts) where
  -- a job asks for a spindle or it doesn't
  turns_or_still : (fault : Unfit) → LacksFeed texts fault → NeedsNoFeed texts → ⊥
  turns_or_still fault h k =
      let same : h.job ≡ k.job = same_job texts h.job k.job told.job h.job_is k.job_is in
      let turns : k.job.spindle ≡ true = subst (λ (j : JobFields). j.spindle ≡ true) same h.turns in
      apart k.job.spindle turns k.still
    where
      apart : (b : Bool) → b ≡ true → b ≡ false → ⊥
      apart b on off = cc

  feed_or_file : (u fault : Unfit) → LacksFeed texts fault → StopsWith (NeedsNoFeed texts) texts u → ⊥
  feed_or_file u fault h (inl s) = job_goes_on texts.job h.job u told.job h.job_is s
  feed_or_file u fault h (inr s) = turns_or_still fault h s.0

  one_plan_stop : (u w : Unfit) → IsUnfitPlan texts u → IsUnfitPlan texts w → u ≡ w
  one_plan_stop u w (inl s) (inl t) = one_unfit texts u w told (unfit_of _ texts u s) (unfit_of _ texts w t)
  one_plan_stop u w (inl s) (inr t) = absurd (feed_or_file u w t (stop_with (NeedsNoFeed texts) texts u s))
  one_plan_stop u w (inr s) (inl t) = absurd (feed_or_file w u s (stop_with (NeedsNoFeed texts) texts w t))
  one_plan_stop u w (inr s) (inr t) = s.is ∙ sym t.is

  planned_or_unfit : (j : JobFields) (p : List Tri) (answer : PlanAnswer) (u : Unfit) → Plans texts j p answer → IsUnfitPlan texts u → ⊥
  planned_or_unfit j p answer u h (inl s) = fit_setup texts j p u told h.setup_is (unfit_of _ texts u s)
  planned_or_unfit j p answer u h (inr s) = turns_or_still u s (record { job = j; job_is = h.setup_is.job_is; still = h.still })

one_plan : OnePlanAnswer → (texts : SetupTexts) (out : List ℕ) (a b : Answer) → AreSetupTold texts → PlanAnswers texts out a → PlanAnswers texts out b → a ≡ b
one_plan one texts out a b told (inl s) (inl t) = s.1 ∙ ap unfit (one_plan_stop texts told s.0 t.0 s.2 t.2) ∙ sym t.1
one_plan one texts out a b told (inl s) (inr t) = absurd (planned_or_unfit texts told t.0 t.1 t.2 s.0 t.4 s.2)
one_plan one texts out a b told (inr s) (inl t) = absurd (planned_or_unfit texts told s.0 s.1 s.2 t.0 s.4 t.2)
one_plan one texts out a b told (inr s) (inr t) = s.3 ∙ one_planned one texts s.0 t.0 s.1 t.1 out s.2 t.2 told s.4 t.4 ∙ sym t.3

-- ---- `drop`

one_word : (unit : LengthUnit) (x y : List ℕ) (c d : Coordinate) (f g : DecFault) → RefusesWord unit x y c f → RefusesWord unit x y d g → refused_word c f ≡ refused_word d g
one_word unit x y X X f g h k = ap (refused_word X) (err_is f g (sym h ∙ k))
one_word unit x y X Y f g h k = absurd (ok_err k.0 f (sym k.1 ∙ h))
one_word unit x y X Z f g h k = absurd k
one_word unit x y Y X f g h k = absurd (ok_err h.0 g (sym h.1 ∙ k))
one_word unit x y Y Y f g h k = ap (refused_word Y) (err_is f g (sym h.2 ∙ k.2))
one_word unit x y Y Z f g h k = absurd k
one_word unit x y Z d f g h k = absurd h

abbrev DropAnswers : SetupTexts → List ℕ → List ℕ → Answer → Type 0
DropAnswers texts x y a =
    ((c : Coordinate) × (f : DecFault) × (a ≡ refused_word c f) × RefusesPlace texts x y c f)
    ⊎ (((u : Unfit) × (a ≡ unfit u) × IsUnfitWith (HasPlace texts x y) texts u) ⊎ ((unit : LengthUnit) × (height : ℤ) × (a ≡ dropped unit height) × Drops x y texts unit height))

drop_answer : (contents : List ℕ → Option (List ℕ)) (job part x y : List ℕ) (a : Answer) → IsAnswer contents (drop job part x y) a → DropAnswers (setup_texts contents job part) x y a
drop_answer contents job part x y (refused_word coordinate fault) h = inl (coordinate, fault, refl, h)
drop_answer contents job part x y (unfit u) h = inr (inl (u, refl, h))
drop_answer contents job part x y (judged j p m v) h = absurd h
drop_answer contents job part x y (planned j p name answer) h = absurd h
drop_answer contents job part x y (dropped unit height) h = inr (inr (unit, height, refl, h))
drop_answer contents job part x y (leveled unit answer) h = absurd h
drop_answer contents job part x y (stocked j m name answer) h = absurd h
drop_answer contents job part x y (judged_files j p ss fs v) h = absurd h
drop_answer contents job part x y (sampled size answer) h = absurd h

module _ (texts : SetupTexts) (told : AreSetupTold texts) (x y : List ℕ) where
  -- a word that is refused
  place_stops : (c : Coordinate) (f : DecFault) (place : Place) (job : JobFields) → RefusesPlace texts x y c f → ReadsJob texts job → ReadsPlace job.unit x y place → ⊥
  place_stops c f place job h r read =
      let same : h.job ≡ job = same_job texts h.job job told.job h.job_is r in
      reads_word job.unit x y place c f read (subst (λ (j : JobFields). RefusesWord j.unit x y c f) same h.refused)

  word_or_file : (c : Coordinate) (f : DecFault) (u : Unfit) → RefusesPlace texts x y c f → StopsWith (HasPlace texts x y) texts u → ⊥
  word_or_file c f u h (inl s) = job_goes_on texts.job h.job u told.job h.job_is s
  word_or_file c f u h (inr s) = place_stops c f s.0.place s.0.job h s.0.job_is s.0.place_is

  one_refused_place : (c d : Coordinate) (f g : DecFault) → RefusesPlace texts x y c f → RefusesPlace texts x y d g → refused_word c f ≡ refused_word d g
  one_refused_place c d f g h k =
      let same : h.job ≡ k.job = same_job texts h.job k.job told.job h.job_is k.job_is in
      one_word k.job.unit x y c d f g (subst (λ (j : JobFields). RefusesWord j.unit x y c f) same h.refused) k.refused

  one_dropped : (unit other : LengthUnit) (z w : ℤ) → Drops x y texts unit z → Drops x y texts other w → dropped unit z ≡ dropped other w
  one_dropped unit other z w h k =
      let e : h.job ≡ k.job = same_job texts h.job k.job told.job h.setup_is.job_is k.setup_is.job_is in
      let f : h.part ≡ k.part = same_part texts k.job h.part k.part told.part (subst (λ (j : JobFields). ReadsPart texts j h.part) e h.setup_is.part_is) k.setup_is.part_is in
      let place : ReadsPlace k.job.unit x y h.place = subst (λ (j : JobFields). ReadsPlace j.unit x y h.place) e h.place_is in
      let px : h.place.x ≡ k.place.x = ok_is h.place.x k.place.x (sym place.x_is ∙ k.place_is.x_is) in
      let py : h.place.y ≡ k.place.y = ok_is h.place.y k.place.y (sym place.y_is ∙ k.place_is.y_is) in
      let all : List Tri = obstacles_of k.job k.part in
      let is : IsDropHeight (tool_of k.job) all k.place.x k.place.y k.job.floor z =
      subst (λ (v : ℤ). IsDropHeight (tool_of k.job) all k.place.x v k.job.floor z) py
      (subst (λ (v : ℤ). IsDropHeight (tool_of k.job) all v h.place.y k.job.floor z) px
      (subst (λ (p : List Tri). IsDropHeight (tool_of k.job) (obstacles_of k.job p) h.place.x h.place.y k.job.floor z) f
      (subst (λ (j : JobFields). IsDropHeight (tool_of j) (obstacles_of j h.part) h.place.x h.place.y j.floor z) e h.is))) in
      let u : unit ≡ other = h.unit_is ∙ ap (λ (j : JobFields). j.unit) e ∙ sym k.unit_is in
      let same : z ≡ w = one_height (tool_of k.job) all k.place.x k.place.y k.job.floor z w is k.is in
      λ i. dropped (u i) (same i)

  one_drop : (a b : Answer) → DropAnswers texts x y a → DropAnswers texts x y b → a ≡ b
  one_drop a b (inl s) (inl t) = s.2 ∙ one_refused_place s.0 t.0 s.1 t.1 s.3 t.3 ∙ sym t.2
  one_drop a b (inl s) (inr (inl t)) = absurd (word_or_file s.0 s.1 t.0 s.3 (stop_with (HasPlace texts x y) texts t.0 t.2))
  one_drop a b (inl s) (inr (inr t)) = absurd (place_stops s.0 s.1 t.3.place t.3.job s.3 t.3.setup_is.job_is t.3.place_is)
  one_drop a b (inr (inl s)) (inl t) = absurd (word_or_file t.0 t.1 s.0 t.3 (stop_with (HasPlace texts x y) texts s.0 s.2))
  one_drop a b (inr (inl s)) (inr (inl t)) = s.1 ∙ ap unfit (one_unfit texts s.0 t.0 told (unfit_of _ texts s.0 s.2) (unfit_of _ texts t.0 t.2)) ∙ sym t.1
  one_drop a b (inr (inl s)) (inr (inr t)) = absurd (fit_setup texts t.3.job t.3.part s.0 told t.3.setup_is (unfit_of _ texts s.0 s.2))
  one_drop a b (inr (inr s)) (inl t) = absurd (place_stops t.0 t.1 s.3.place s.3.job t.3 s.3.setup_is.job_is s.3.place_is)
  one_drop a b (inr (inr s)) (inr (inl t)) = absurd (fit_setup texts s.3.job s.3.part t.0 told s.3.setup_is (unfit_of _ texts t.0 t.2))
  one_drop a b (inr (inr s)) (inr (inr t)) = s.2 ∙ one_dropped s.0 t.0 s.1 t.1 s.3 t.3 ∙ sym t.2

-- ---- `level`

one_height_word : (unit : LengthUnit) (z : List ℕ) (c d : Coordinate) (f g : DecFault) → RefusesZ unit z c f → RefusesZ unit z d g → refused_word c f ≡ refused_word d g
one_height_word unit z Z Z f g h k = ap (refused_word Z) (err_is f g (sym h ∙ k))
one_height_word unit z Z X f g h k = absurd k
one_height_word unit z Z Y f g h k = absurd k
one_height_word unit z X d f g h k = absurd h
one_height_word unit z Y d f g h k = absurd h

abbrev LevelAnswers : SetupTexts → List ℕ → Answer → Type 0
LevelAnswers texts z a =
    ((c : Coordinate) × (f : DecFault) × (a ≡ refused_word c f) × RefusesHeight texts z c f)
    ⊎ (((u : Unfit) × (a ≡ unfit u) × IsUnfitWith (HasHeight texts z) texts u) ⊎ ((unit : LengthUnit) × (answer : LevelAnswer) × (a ≡ leveled unit answer) × Levels z texts unit answer))

level_answer : (contents : List ℕ → Option (List ℕ)) (job part z : List ℕ) (a : Answer) → IsAnswer contents (level job part z) a → LevelAnswers (setup_texts contents job part) z a
level_answer contents job part z (refused_word coordinate fault) h = inl (coordinate, fault, refl, h)
level_answer contents job part z (unfit u) h = inr (inl (u, refl, h))
level_answer contents job part z (judged j p m v) h = absurd h
level_answer contents job part z (planned j p name answer) h = absurd h
level_answer contents job part z (dropped unit height) h = absurd h
level_answer contents job part z (leveled unit answer) h = inr (inr (unit, answer, refl, h))
level_answer contents job part z (stocked j m name answer) h = absurd h
level_answer contents job part z (judged_files j p ss fs v) h = absurd h
level_answer contents job part z (sampled size answer) h = absurd h

few_or_many : (job : JobFields) (nodes : ℕ) → node_count (finish_lattice job) ≤ MAX_NODES → HasManyNodes (finish_lattice job) nodes → ⊥
few_or_many job nodes few many = over nodes (node_count (finish_lattice job)) MAX_NODES many.count many.many few
  where
    over : (n m most : ℕ) → n ≡ m → most < n → m ≤ most → ⊥
    over n m most e lt le = omega (e, lt, le, arith)

one_level_answer : OneWaterline → (job : JobFields) (part : List Tri) (height : ℤ) (a b : LevelAnswer) → IsLevelAnswer job part height a → IsLevelAnswer job part height b → a ≡ b
one_level_answer one job part height (outlines f) (outlines g) h k = ap outlines (one (tool_of job) (obstacles_of job part) height (finish_lattice job) f g h.0 k.0)
one_level_answer one job part height (outlines f) (too_many_nodes n) h k = absurd (few_or_many job n h.1 k)
one_level_answer one job part height (too_many_nodes n) (outlines g) h k = absurd (few_or_many job n k.1 h)
one_level_answer one job part height (too_many_nodes n) (too_many_nodes m) h k = ap too_many_nodes (h.count ∙ sym k.count)

module _ (texts : SetupTexts) (told : AreSetupTold texts) (z : List ℕ) where
  height_stops : (c : Coordinate) (f : DecFault) (height : ℤ) (job : JobFields) → RefusesHeight texts z c f → ReadsJob texts job → ReadsHeight job.unit z height → ⊥
  height_stops c f height job h r read =
      let same : h.job ≡ job = same_job texts h.job job told.job h.job_is r in
      reads_height job.unit z height c f read (subst (λ (j : JobFields). RefusesZ j.unit z c f) same h.refused)

  height_or_file : (c : Coordinate) (f : DecFault) (u : Unfit) → RefusesHeight texts z c f → StopsWith (HasHeight texts z) texts u → ⊥
  height_or_file c f u h (inl s) = job_goes_on texts.job h.job u told.job h.job_is s
  height_or_file c f u h (inr s) = height_stops c f s.0.height s.0.job h s.0.job_is s.0.height_is

  one_refused_height : (c d : Coordinate) (f g : DecFault) → RefusesHeight texts z c f → RefusesHeight texts z d g → refused_word c f ≡ refused_word d g
  one_refused_height c d f g h k =
      let same : h.job ≡ k.job = same_job texts h.job k.job told.job h.job_is k.job_is in
      one_height_word k.job.unit z c d f g (subst (λ (j : JobFields). RefusesZ j.unit z c f) same h.refused) k.refused

  one_leveled : OneWaterline → (unit other : LengthUnit) (answer next : LevelAnswer) → Levels z texts unit answer → Levels z texts other next → leveled unit answer ≡ leveled other next
  one_leveled one unit other answer next h k =
      let e : h.job ≡ k.job = same_job texts h.job k.job told.job h.setup_is.job_is k.setup_is.job_is in
      let f : h.part ≡ k.part = same_part texts k.job h.part k.part told.part (subst (λ (j : JobFields). ReadsPart texts j h.part) e h.setup_is.part_is) k.setup_is.part_is in
      let read : ReadsHeight k.job.unit z h.height = subst (λ (j : JobFields). ReadsHeight j.unit z h.height) e h.height_is in
      let g : h.height ≡ k.height = ok_is h.height k.height (sym read ∙ k.height_is) in
      let is : IsLevelAnswer k.job k.part k.height answer =
      subst (λ (v : ℤ). IsLevelAnswer k.job k.part v answer) g
      (subst (λ (p : List Tri). IsLevelAnswer k.job p h.height answer) f (subst (λ (j : JobFields). IsLevelAnswer j h.part h.height answer) e h.is)) in
      let u : unit ≡ other = h.unit_is ∙ ap (λ (j : JobFields). j.unit) e ∙ sym k.unit_is in
      let same : answer ≡ next = one_level_answer one k.job k.part k.height answer next is k.is in
      λ i. leveled (u i) (same i)

  one_level : OneWaterline → (a b : Answer) → LevelAnswers texts z a → LevelAnswers texts z b → a ≡ b
  one_level one a b (inl s) (inl t) = s.2 ∙ one_refused_height s.0 t.0 s.1 t.1 s.3 t.3 ∙ sym t.2
  one_level one a b (inl s) (inr (inl t)) = absurd (height_or_file s.0 s.1 t.0 s.3 (stop_with (HasHeight texts z) texts t.0 t.2))
  one_level one a b (inl s) (inr (inr t)) = absurd (height_stops s.0 s.1 t.3.height t.3.job s.3 t.3.setup_is.job_is t.3.height_is)
  one_level one a b (inr (inl s)) (inl t) = absurd (height_or_file t.0 t.1 s.0 t.3 (stop_with (HasHeight texts z) texts s.0 s.2))
  one_level one a b (inr (inl s)) (inr (inl t)) = s.1 ∙ ap unfit (one_unfit texts s.0 t.0 told (unfit_of _ texts s.0 s.2) (unfit_of _ texts t.0 t.2)) ∙ sym t.1
  one_level one a b (inr (inl s)) (inr (inr t)) = absurd (fit_setup texts t.3.job t.3.part s.0 told t.3.setup_is (unfit_of _ texts s.0 s.2))
  one_level one a b (inr (inr s)) (inl t) = absurd (height_stops t.0 t.1 s.3.height s.3.job t.3 s.3.setup_is.job_is s.3.height_is)
  one_level one a b (inr (inr s)) (inr (inl t)) = absurd (fit_setup texts s.3.job s.3.part t.0 told s.3.setup_is (unfit_of _ texts t.0 t.2))
  one_level one a b (inr (inr s)) (inr (inr t)) = s.2 ∙ one_leveled one s.0 t.0 s.1 t.1 s.3 t.3 ∙ sym t.2

-- ---- `stock`

abbrev StockStops : StockTexts → Unfit → Type 0
StockStops texts u = JobStops texts.job u ⊎ ((job : JobFields) × ReadsStockJob texts job × ProgramStops texts.program job ProgramFile u)

stock_stop : (texts : StockTexts) (u : Unfit) → IsUnfitStock texts u → StockStops texts u
stock_stop texts (TooLong JobFile) h = inl (inl (refl, h))
stock_stop texts (TooLong PartFile) h = absurd h
stock_stop texts (TooLong ProgramFile) h = inr (h.job, h.job_is, inl (refl, h.long))
stock_stop texts (TooLong ListFile) h = absurd h
stock_stop texts (TooLong (StepProgram k)) h = absurd h
stock_stop texts (JobRefused fault) h = inl (inr (fault, refl, h))
stock_stop texts (PartRefused fault) h = absurd h
stock_stop texts (ListRefused fault) h = absurd h
stock_stop texts (PartTop height top unit) h = absurd h
stock_stop texts (ProgramRefused JobFile fault) h = absurd h
stock_stop texts (ProgramRefused PartFile fault) h = absurd h
stock_stop texts (ProgramRefused ProgramFile fault) h = inr (h.job, h.job_is, inr (fault, refl, h.refused))
stock_stop texts (ProgramRefused ListFile fault) h = absurd h
stock_stop texts (ProgramRefused (StepProgram k) fault) h = absurd h

one_stock_stop : (texts : StockTexts) (u w : Unfit) → AreStockTold texts → StockStops texts u → StockStops texts w → u ≡ w
one_stock_stop texts u w told (inl s) (inl t) = one_job_stop texts.job u w told.job s t
one_stock_stop texts u w told (inl s) (inr t) = absurd (job_goes_on texts.job t.0 u told.job t.1 s)
one_stock_stop texts u w told (inr s) (inl t) = absurd (job_goes_on texts.job s.0 w told.job s.1 t)
one_stock_stop texts u w told (inr s) (inr t) =
    let same : s.0 ≡ t.0 = same_stock_job texts s.0 t.0 told.job s.1 t.1 in
    one_program_stop texts.program t.0 ProgramFile u w told.program (subst (λ (j : JobFields). ProgramStops texts.program j ProgramFile u) same s.2) t.2

drawn_or_many : (job : JobFields) (moves : List Move) (count many : ℕ) → count ≡ length (stock_surface job moves) → count ≤ MAX_TRIANGLES → HasManyTriangles job many → ⊥
drawn_or_many job moves count many is few over = apart count many MAX_TRIANGLES (is ∙ length-surface job (top_point job moves) ∙ sym over.all) few over.many
  where
    apart : (n m most : ℕ) → n ≡ m → n ≤ most → most < m → ⊥
    apart n m most e le lt = omega (e, lt, le, arith)

one_stock_answer : (job : JobFields) (moves : List Move) (a b : StockAnswer) → IsStockAnswer job moves a → IsStockAnswer job moves b → a ≡ b
one_stock_answer job moves (drawn t n) (drawn s m) h k =
    let text : t ≡ s = h.text_is ∙ sym k.text_is in
    let count : n ≡ m = h.count_is ∙ sym k.count_is in
    λ i. drawn (text i) (count i)
one_stock_answer job moves (drawn t n) (too_many_triangles m) h k = absurd (drawn_or_many job moves n m h.count_is h.few k)
one_stock_answer job moves (too_many_triangles n) (drawn s m) h k = absurd (drawn_or_many job moves m n k.count_is k.few h)
one_stock_answer job moves (too_many_triangles n) (too_many_triangles m) h k = ap too_many_triangles (h.all ∙ sym k.all)

abbrev StockAnswers : StockTexts → List ℕ → Answer → Type 0
StockAnswers texts out a = ((u : Unfit) × (a ≡ unfit u) × IsUnfitStock texts u) ⊎ ((j : JobFields) × (m : List Move) × (answer : StockAnswer) × (a ≡ stocked j m out answer) × DrawsStock texts j m answer)

stock_answer : (contents : List ℕ → Option (List ℕ)) (job program out : List ℕ) (a : Answer) → IsAnswer contents (stock job program out) a → StockAnswers (stock_texts contents job program) out a
stock_answer contents job program out (refused_word coordinate fault) h = absurd h
stock_answer contents job program out (unfit u) h = inl (u, refl, h)
stock_answer contents job program out (judged j p m v) h = absurd h
stock_answer contents job program out (planned j p name answer) h = absurd h
stock_answer contents job program out (dropped unit height) h = absurd h
stock_answer contents job program out (leveled unit answer) h = absurd h
stock_answer contents job program out (stocked j m name answer) h = inr (j, m, answer, ap (λ n. stocked j m n answer) h.0, h.1)
stock_answer contents job program out (judged_files j p ss fs v) h = absurd h
stock_answer contents job program out (sampled size answer) h = absurd h

one_drawn : (texts : StockTexts) (out : List ℕ) (j q : JobFields) (m n : List Move) (a b : StockAnswer) → AreStockTold texts → DrawsStock texts j m a → DrawsStock texts q n b
    → stocked j m out a ≡ stocked q n out b
one_drawn texts out j q m n a b told h k =
    let e : j ≡ q = same_stock_job texts j q told.job h.all_read.job_is k.all_read.job_is in
    let both = told_both (λ text. IsProgramText q text m) (λ text. IsProgramText q text n) texts.program told.program
    (subst (λ (x : JobFields). IfSome texts.program (λ text. IsProgramText x text m)) e h.all_read.moves_are) k.all_read.moves_are in
    let f : m ≡ n = program_text q both.0 m n both.1 both.2 in
    let same : a ≡ b = one_stock_answer q n a b (subst (λ (x : List Move). IsStockAnswer q x a) f (subst (λ (x : JobFields). IsStockAnswer x m a) e h.is)) k.is in
    λ i. stocked (e i) (f i) out (same i)

one_stock : (texts : StockTexts) (out : List ℕ) (a b : Answer) → AreStockTold texts → StockAnswers texts out a → StockAnswers texts out b → a ≡ b
one_stock texts out a b told (inl s) (inl t) = s.1 ∙ ap unfit (one_stock_stop texts s.0 t.0 told (stock_stop texts s.0 s.2) (stock_stop texts t.0 t.2)) ∙ sym t.1
one_stock texts out a b told (inl s) (inr t) = absurd (fit_stock texts t.0 t.1 s.0 told t.4.all_read s.2)
one_stock texts out a b told (inr s) (inl t) = absurd (fit_stock texts s.0 s.1 t.0 told s.4.all_read t.2)
one_stock texts out a b told (inr s) (inr t) = s.3 ∙ one_drawn texts out s.0 t.0 s.1 t.1 s.2 t.2 told s.4 t.4 ∙ sym t.3

-- ---- `sample`

abbrev SampleAnswers : ℕ → Answer → Type 0
SampleAnswers n a = (answer : PlanAnswer) × (a ≡ sampled n answer) × Samples n answer

sample_answer : (contents : List ℕ → Option (List ℕ)) (n workers : ℕ) (a : Answer) → IsAnswer contents (sample n workers) a → SampleAnswers n a
sample_answer contents n workers (refused_word coordinate fault) h = absurd h
sample_answer contents n workers (unfit u) h = absurd h
sample_answer contents n workers (judged j p m v) h = absurd h
sample_answer contents n workers (planned j p name answer) h = absurd h
sample_answer contents n workers (dropped unit height) h = absurd h
sample_answer contents n workers (leveled unit answer) h = absurd h
sample_answer contents n workers (stocked j m name answer) h = absurd h
sample_answer contents n workers (judged_files j p ss fs v) h = absurd h
sample_answer contents n workers (sampled size answer) h = (answer, ap (λ m. sampled m answer) h.0, h.1)

one_sample : OnePlanAnswer → (n : ℕ) (a b : Answer) → SampleAnswers n a → SampleAnswers n b → a ≡ b
one_sample one n a b s t = s.1 ∙ ap (sampled n) (one (sample_job n) (sample_part n) s.0 t.0 s.2 t.2) ∙ sym t.1

-- ---- `rest`

-- job, part and list are read, and the program of a step stops it
record StepStops (texts : RestTexts) (job : JobFields) (steps : List Step) (u : Unfit) : Type 0 where
  k : ℕ
  files : List CutFile
  there : k < length steps
  before : ReadsSteps texts.programs job (take k steps) files
  stops : ProgramStops (texts.programs (step_at steps k).program) job (StepProgram k) u

-- the list's check that fails, or the list is read, and a step stops it
abbrev ListStops : RestTexts → JobFields → Unfit → Type 0
ListStops texts job u =
    (((u ≡ TooLong ListFile) × IfSome texts.list IsTooLongJob) ⊎ ((fault : JobFault) × (u ≡ ListRefused fault) × IfSome texts.list (λ text. IsRefusedList job text fault)))
    ⊎ ((steps : List Step) × ReadsList texts job steps × StepStops texts job steps u)

abbrev RestStops : RestTexts → Unfit → Type 0
RestStops texts u = IsUnfit texts.setup u ⊎ ((job : JobFields) × (part : List Tri) × ReadsSetup texts.setup job part × ListStops texts job u)

step_stops : (texts : RestTexts) (u : Unfit) (job : JobFields) (step : Step) (k : ℕ) → (r : ReadsToStep texts job step k) → ProgramStops (texts.programs step.program) job (StepProgram k) u → RestStops texts u
step_stops texts u job step k r s =
    inr (
      job,
      r.part,
      r.setup_is,
      inr (
        r.steps,
        r.list_is,
        record { k = k; files = r.files; there = r.there; before = r.before; stops = subst (λ (x : Step). ProgramStops (texts.programs x.program) job (StepProgram k) u) r.step_is s },
      ),
    )

rest_stop : (texts : RestTexts) (u : Unfit) → IsUnfitRest texts u → RestStops texts u
rest_stop texts (TooLong JobFile) h = inl h
rest_stop texts (TooLong PartFile) h = inl h
rest_stop texts (TooLong ProgramFile) h = absurd h
rest_stop texts (TooLong ListFile) h = inr (h.job, h.part, h.setup_is, inl (inl (refl, h.long)))
rest_stop texts (TooLong (StepProgram k)) h = step_stops texts (TooLong (StepProgram k)) h.job h.step k h.before (inl (refl, h.long))
rest_stop texts (JobRefused fault) h = inl h
rest_stop texts (PartRefused fault) h = inl h
rest_stop texts (ListRefused fault) h = inr (h.job, h.part, h.setup_is, inl (inr (fault, refl, h.refused)))
rest_stop texts (PartTop height top unit) h = inl h
rest_stop texts (ProgramRefused JobFile fault) h = absurd h
rest_stop texts (ProgramRefused PartFile fault) h = absurd h
rest_stop texts (ProgramRefused ProgramFile fault) h = absurd h
rest_stop texts (ProgramRefused ListFile fault) h = absurd h
rest_stop texts (ProgramRefused (StepProgram k) fault) h = step_stops texts (ProgramRefused (StepProgram k) fault) h.job h.step k h.before (inr (fault, refl, h.refused))

module _ (texts : RestTexts) (job : JobFields) (steps : List Step) (all_told : All (λ step. IsSome (texts.programs step.program)) steps) where
  step_told : (k : ℕ) → k < length steps → IsSome (texts.programs (step_at steps k).program)
  step_told k there = All-get_or (λ x. IsSome (texts.programs x.program)) steps k _ there all_told

  -- a step that is read doesn't stop it
  read_goes_on : (k : ℕ) (file : CutFile) (u : Unfit) → k < length steps → ReadsStep texts.programs job (step_at steps k) file → ProgramStops (texts.programs (step_at steps k).program) job (StepProgram k) u → ⊥
  read_goes_on k file u there r (inl s) =
      let both = told_both IsTooLong (λ text. IsProgramText job text file.moves) (texts.programs (step_at steps k).program) (step_told k there) s.1 r.moves_are in
      too_long _ _ both.1 both.2.fits
  read_goes_on k file u there r (inr s) =
      let both = told_both (λ text. IsRefusedProgram job text s.0) (λ text. IsProgramText job text file.moves) (texts.programs (step_at steps k).program) (step_told k there) s.2 r.moves_are in
      no_program_text job both.0 file.moves s.0 both.2 both.1

  -- so a step stops it before each later one
  not_later : (u w : Unfit) (s : StepStops texts job steps u) (t : StepStops texts job steps w) → s.k < t.k → ⊥
  not_later u w s t earlier =
      let within : s.k < length (take t.k steps) = omega (earlier, arith, t.there, length-take-le t.k steps (omega (t.there, arith))) in
      let read = step_read texts.programs job (take t.k steps) t.files s.k t.before within in
      read_goes_on s.k read.0 u s.there (subst (λ (x : Step). ReadsStep texts.programs job x read.0) (get_or-take t.k steps s.k _ earlier) read.1) s.stops

  one_step_stop : (u w : Unfit) → StepStops texts job steps u → StepStops texts job steps w → u ≡ w
  one_step_stop u w s t = by (cases_lt s.k t.k) (cases_lt t.k s.k)
    where
      same_k : s.k ≡ t.k → u ≡ w
      same_k e = one_program_stop (texts.programs (step_at steps t.k).program) job (StepProgram t.k) u w (step_told t.k t.there)
          (subst (λ (k : ℕ). ProgramStops (texts.programs (step_at steps k).program) job (StepProgram k) u) e s.stops) t.stops

      equal : (a b : ℕ) → a ≤ b → b ≤ a → a ≡ b
      equal a b h g = omega (h, g, arith)

      by : (s.k < t.k) ⊎ (t.k ≤ s.k) → (t.k < s.k) ⊎ (s.k ≤ t.k) → u ≡ w
      by (inl lt) d = absurd (not_later u w s t lt)
      by (inr ge) (inl gt) = absurd (not_later w u t s gt)
      by (inr ge) (inr le) = same_k (equal s.k t.k le ge)

-- a list that is read doesn't stop it
list_goes_on : (texts : RestTexts) (job : JobFields) (steps : List Step) (u : Unfit) → IsSome texts.list → ReadsList texts job steps
    → ((u ≡ TooLong ListFile) × IfSome texts.list IsTooLongJob) ⊎ ((fault : JobFault) × (u ≡ ListRefused fault) × IfSome texts.list (λ text. IsRefusedList job text fault)) → ⊥
list_goes_on texts job steps u some r (inl s) =
    let both = told_both IsTooLongJob (λ text. IsListText job text steps) texts.list some s.1 r in
    too_long _ _ both.1 both.2.fits
list_goes_on texts job steps u some r (inr s) =
    let both = told_both (λ text. IsRefusedList job text s.0) (λ text. IsListText job text steps) texts.list some s.2 r in
    no_list_text job both.0 steps s.0 both.2 both.1

one_list_stop : (texts : RestTexts) (job : JobFields) (u w : Unfit) → IsListTold texts → ReadsJob texts.setup job → ListStops texts job u → ListStops texts job w → u ≡ w
one_list_stop texts job u w told read (inl (inl s)) (inl (inl t)) = s.0 ∙ sym t.0
one_list_stop texts job u w told read (inl (inl s)) (inl (inr t)) =
    let both = told_both IsTooLongJob (λ text. IsRefusedList job text t.0) texts.list told.list s.1 t.2 in
    absurd (too_long _ _ both.1 both.2.fits)
one_list_stop texts job u w told read (inl (inr s)) (inl (inl t)) =
    let both = told_both IsTooLongJob (λ text. IsRefusedList job text s.0) texts.list told.list t.1 s.2 in
    absurd (too_long _ _ both.1 both.2.fits)
one_list_stop texts job u w told read (inl (inr s)) (inl (inr t)) =
    let both = told_both (λ text. IsRefusedList job text s.0) (λ text. IsRefusedList job text t.0) texts.list told.list s.2 t.2 in
    s.1 ∙ ap ListRefused (err_is s.0 t.0 (one_list job both.0 (Err s.0) (Err t.0) both.1.refused both.2.refused)) ∙ sym t.1
one_list_stop texts job u w told read (inl s) (inr t) = absurd (list_goes_on texts job t.0 u told.list t.1 s)
one_list_stop texts job u w told read (inr s) (inl t) = absurd (list_goes_on texts job s.0 w told.list s.1 t)
one_list_stop texts job u w told read (inr s) (inr t) =
    let same : s.0 ≡ t.0 = same_steps texts job s.0 t.0 told.list s.1 t.1 in
    one_step_stop texts job t.0 (told.programs job t.0 read t.1) u w (subst (λ (xs : List Step). StepStops texts job xs u) same s.2) t.2

one_rest_stop : (texts : RestTexts) (u w : Unfit) → IsListTold texts → RestStops texts u → RestStops texts w → u ≡ w
one_rest_stop texts u w told (inl s) (inl t) = one_unfit texts.setup u w told.setup s t
one_rest_stop texts u w told (inl s) (inr t) = absurd (fit_setup texts.setup t.0 t.1 u told.setup t.2 s)
one_rest_stop texts u w told (inr s) (inl t) = absurd (fit_setup texts.setup s.0 s.1 w told.setup s.2 t)
one_rest_stop texts u w told (inr s) (inr t) =
    let same : s.0 ≡ t.0 = same_job texts.setup s.0 t.0 told.setup.job s.2.job_is t.2.job_is in
    one_list_stop texts t.0 u w told t.2.job_is (subst (λ (j : JobFields). ListStops texts j u) same s.3) t.3

rest_told : (texts : RestTexts) (job : JobFields) (part : List Tri) (steps : List Step) (files : List CutFile) → IsListTold texts → ReadsRest texts job part steps files → AreRestTold texts steps
rest_told texts job part steps files told r = record { setup = told.setup; list = told.list; programs = told.programs job steps r.setup_is.job_is r.list_is }

one_judged_list : OneListVerdict → (texts : RestTexts) (j q : JobFields) (p o : List Tri) (xs ys : List Step) (m n : List CutFile) (v w : ListVerdict) → IsListTold texts → JudgesFiles texts j p xs m v
    → JudgesFiles texts q o ys n w → judged_files j p xs m v ≡ judged_files q o ys n w
one_judged_list one texts j q p o xs ys m n v w told h k =
    let all = rest_told texts q o ys n told k.all_read in
    let e : j ≡ q = same_job texts.setup j q told.setup.job h.all_read.setup_is.job_is k.all_read.setup_is.job_is in
    let f : p ≡ o = same_part texts.setup q p o told.setup.part (subst (λ (x : JobFields). ReadsPart texts.setup x p) e h.all_read.setup_is.part_is) k.all_read.setup_is.part_is in
    let list : xs ≡ ys = same_steps texts q xs ys told.list (subst (λ (x : JobFields). ReadsList texts x xs) e h.all_read.list_is) k.all_read.list_is in
    let here : ReadsSteps texts.programs q ys m = subst (λ (x : List Step). ReadsSteps texts.programs q x m) list (subst (λ (x : JobFields). ReadsSteps texts.programs x xs m) e h.all_read.files_are) in
    let g : m ≡ n = same_files texts.programs q ys m n all.programs here k.all_read.files_are in
    let same : v ≡ w = one q o n v w (judged_list_is texts q j o p ys xs n m v all k.all_read h) k.is in
    λ i. judged_files (e i) (f i) (list i) (g i) (same i)

abbrev RestAnswers : RestTexts → Answer → Type 0
RestAnswers texts a =
    ((u : Unfit) × (a ≡ unfit u) × IsUnfitRest texts u)
    ⊎ ((j : JobFields) × (p : List Tri) × (ss : List Step) × (fs : List CutFile) × (v : ListVerdict) × (a ≡ judged_files j p ss fs v) × JudgesFiles texts j p ss fs v)

rest_answer : (contents : List ℕ → Option (List ℕ)) (job part list : List ℕ) (workers : ℕ) (a : Answer) → IsAnswer contents (rest job part list workers) a
    → RestAnswers (rest_texts contents (record { job = job; part = part; list = list })) a
rest_answer contents job part list workers (refused_word coordinate fault) h = absurd h
rest_answer contents job part list workers (unfit u) h = inl (u, refl, h)
rest_answer contents job part list workers (judged j p m v) h = absurd h
rest_answer contents job part list workers (planned j p name answer) h = absurd h
rest_answer contents job part list workers (dropped unit height) h = absurd h
rest_answer contents job part list workers (leveled unit answer) h = absurd h
rest_answer contents job part list workers (stocked j m name answer) h = absurd h
rest_answer contents job part list workers (judged_files j p ss fs v) h = inr (j, p, ss, fs, v, refl, h)
rest_answer contents job part list workers (sampled size answer) h = absurd h

one_rest : OneListVerdict → (texts : RestTexts) (a b : Answer) → IsListTold texts → RestAnswers texts a → RestAnswers texts b → a ≡ b
one_rest one texts a b told (inl s) (inl t) = s.1 ∙ ap unfit (one_rest_stop texts s.0 t.0 told (rest_stop texts s.0 s.2) (rest_stop texts t.0 t.2)) ∙ sym t.1
one_rest one texts a b told (inl s) (inr t) =
    let read = t.6.all_read in
    absurd (fit_rest texts t.0 t.1 t.2 t.3 s.0 (rest_told texts t.0 t.1 t.2 t.3 told read) read s.2)
one_rest one texts a b told (inr s) (inl t) =
    let read = s.6.all_read in
    absurd (fit_rest texts s.0 s.1 s.2 s.3 t.0 (rest_told texts s.0 s.1 s.2 s.3 told read) read t.2)
one_rest one texts a b told (inr s) (inr t) = s.5 ∙ one_judged_list one texts s.0 t.0 s.1 t.1 s.2 t.2 s.3 t.3 s.4 t.4 told s.6 t.6 ∙ sym t.5

-- ---- all commands

pub one_answer_of : OneJudgment → OneListVerdict → OnePlanAnswer → OneWaterline → OneAnswer
one_answer_of judgment list_verdict plan_law waterline contents (verify job part program workers) a b told h k =
    one_verify judgment _ a b told (verify_answer contents job part program workers a h) (verify_answer contents job part program workers b k)
one_answer_of judgment list_verdict plan_law waterline contents (plan job part out workers) a b told h k =
    one_plan plan_law _ out a b told (plan_answer contents job part out workers a h) (plan_answer contents job part out workers b k)
one_answer_of judgment list_verdict plan_law waterline contents (drop job part x y) a b told h k =
    one_drop _ told x y a b (drop_answer contents job part x y a h) (drop_answer contents job part x y b k)
one_answer_of judgment list_verdict plan_law waterline contents (level job part z) a b told h k =
    one_level _ told z waterline a b (level_answer contents job part z a h) (level_answer contents job part z b k)
one_answer_of judgment list_verdict plan_law waterline contents (stock job program out) a b told h k =
    one_stock _ out a b told (stock_answer contents job program out a h) (stock_answer contents job program out b k)
one_answer_of judgment list_verdict plan_law waterline contents (rest job part list workers) a b told h k =
    one_rest list_verdict _ a b told (rest_answer contents job part list workers a h) (rest_answer contents job part list workers b k)
one_answer_of judgment list_verdict plan_law waterline contents (sample n workers) a b told h k =
    one_sample plan_law n a b (sample_answer contents n workers a h) (sample_answer contents n workers b k)
