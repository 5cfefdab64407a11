-- The work on `plan`: what was read, stored and printed, put together.
use Rattle.std.proofs.Common.{◌≡◌, ℕ, false, List, Option, Result, Ok, Err, refl, sym, subst, inl, inr}
use Rattle.std.specs.Prelude.{IfOk}
use Rattle.mill_command.specs.Requests.{plan}
use Rattle.mill_io.specs.Readings.{AreHeld}
use Rattle.mill_io.specs.Views.{StoreView}
use Rattle.mill_job.specs.declared.fields.JobFields.{JobFields}
use Rattle.mill_plan.specs.Plans.{PlanAnswer, too_many_nodes, too_many_moves, uncut, held, IsPlanAnswer, IsPlanFault}
use Rattle.mill_plan.specs.declared.fault.PlanFault.{PlanFault}
use Rattle.mill_plan.specs.declared.fault.PlanFault.TheVariants as plan_fault
use Rattle.mill_load.specs.declared.load.LoadFault.{LoadFault}
use Rattle.mill_load.specs.declared.load.LoadFault.TheVariants as load_fault
use Rattle.mill_load.specs.declared.load.Setup.{Setup}
use Rattle.mill_run.specs.Answers.{planned}
use Rattle.mill_answer.specs.Calls.{Call, HoldsReads}
use Rattle.mill_load.specs.Loads.{IsSetup, LoadsUnder, OnlyLoads}
use Rattle.mill_load.proofs.Reading.{HasFault, part_fault_with, under_loads}
use Rattle.mill_run.specs.Outcomes.{answered, IsOutcome, ShowsOr, Serves}
use Rattle.mill_run.specs.inner.Loads.{CanBePlanned, LoadsFed, LoadsPlan}
use Rattle.mill_run.specs.inner.Prints.{PrintsPlanFault, ShowsPlanOr, fault_outcome}
use Rattle.mill_run.specs.Plan.{NeedsNoFeed}
use Rattle.mill_load.specs.Setup.{ReadsJob, SetupTexts, setup_texts}
use Rattle.mill_run.proofs.Serving.{answer_serves, answer_shows, short_serves}
use Rattle.mill_run.proofs.Storing.{from, holds_after, holds_before, logged_anyhow, same_view, short_shows, unread, untouched}

-- ---- job and part

-- what kept it from job or part, where the job asks for no spindle
pub fault_of_plan : (texts : SetupTexts) (f : LoadFault) → HasFault (NeedsNoFeed texts) texts f → LoadsPlan texts (Err f)
fault_of_plan texts load_fault.Memory h = tt
fault_of_plan texts (load_fault.ReadFault file) h = h
fault_of_plan texts (load_fault.Unfit fault) h = inl h

-- the job was read, and this is what the want of a feed or the part's file came to
pub fed_loads : (texts : SetupTexts) (job : JobFields) (r : Result Setup LoadFault) → ReadsJob texts job → LoadsFed job texts.part r → LoadsPlan texts r
fed_loads texts job r read (inr h) = subst (λ (x : Result Setup LoadFault). LoadsPlan texts x) (sym h.1) (inr (record { job = job; job_is = read; turns = h.0; is = refl }))
fed_loads texts job (Ok s) read (inl h) = under_loads texts job (Ok s) read h.1
fed_loads texts job (Err f) read (inl h) = fault_of_plan texts f (part_fault_with (NeedsNoFeed texts) texts job f (record { job = job; job_is = read; still = h.0 }) read h.1)

-- a part that was read for a job that asks for no spindle
pub fed_ready : (job : JobFields) (told : Option (List ℕ)) (r : Result Setup LoadFault) → job.spindle ≡ false → IfOk r IsSetup → LoadsUnder job told r → IfOk r CanBePlanned
fed_ready job told (Ok s) off under h = record { under = under; still = subst (λ (j : JobFields). j.spindle ≡ false) (sym h.0) off }
fed_ready job told (Err f) off under h = tt

-- ---- the answer

-- job and part were read, and the planner's answer is shown
pub plan_serves : (job part name : List ℕ) (workers : ℕ) (call : Call) (store : StoreView) (s : Setup)
    → ((contents : List ℕ → Option (List ℕ)) → AreHeld contents call.store.log store.log → LoadsPlan (setup_texts contents job part) (Ok s)) → CanBePlanned s
    → (let r : Result Setup LoadFault = Ok s in OnlyLoads call.store store r) → call.store_after.log ≡ store.log → ShowsPlanOr s name (from call store) → Serves (plan job part name workers) call
plan_serves job part name workers call store s read ready loads logged shown = whole (subst (λ (view : StoreView). ShowsPlanOr s name (from call view)) (same_view call.store store loads.only loads.reads) shown)
  where
    own : HoldsReads call.store.contents call
    own = holds_after call.store.contents call store logged loads.held

    whole : ShowsPlanOr s name (from call (record call.store { log = store.log })) → Serves (plan job part name workers) call
    whole (inl p) =
        answer_serves (plan job part name workers) call (planned s.job.fields s.part name p.answer)
        (λ contents holds. (refl, record { setup_is = read contents (holds_before contents call store logged holds); job_ok = s.job.is_job; still = ready.still; is = p.is })) own
        (inl (logged_anyhow call store.log _ p.shows))
    whole (inr m) = short_serves (plan job part name workers) call own (logged_anyhow call store.log _ m)

pub plan_load_fault : (contents : List ℕ → Option (List ℕ)) (job part name : List ℕ) (workers : ℕ) (f : LoadFault) → LoadsPlan (setup_texts contents job part) (Err f)
    → IsOutcome contents (plan job part name workers) (fault_outcome f)
plan_load_fault contents job part name workers load_fault.Memory h = tt
plan_load_fault contents job part name workers (load_fault.ReadFault file) h = h
plan_load_fault contents job part name workers (load_fault.Unfit fault) h = h

-- the answer is shown
pub made_shows : (s : Setup) (name : List ℕ) (call : Call) (a : PlanAnswer) → IsPlanAnswer s.job.fields s.part a → ShowsOr (answered (planned s.job.fields s.part name a)) call → ShowsPlanOr s name call
made_shows s name call a is (inl shown) = inl (record { answer = a; is = is; shows = shown })
made_shows s name call a is (inr m) = inr m

-- there is no program, and that is printed
pub fault_shows : (s : Setup) (name : List ℕ) (call : Call) (f : PlanFault) → IsPlanFault s.job.fields s.part f → call.store_after ≡ call.store
    → PrintsPlanFault s.job.fields.unit f call.status call.sink call.sink_after → ShowsPlanOr s name call
fault_shows s name call (plan_fault.TooManyNodes nodes) is same p =
    made_shows s name call (too_many_nodes nodes) is (answer_shows call (planned s.job.fields s.part name (too_many_nodes nodes)) refl (untouched call same) (unread call same) p)
fault_shows s name call plan_fault.TooManyMoves is same p =
    made_shows s name call too_many_moves is (answer_shows call (planned s.job.fields s.part name too_many_moves) refl (untouched call same) (unread call same) p)
fault_shows s name call (plan_fault.Uncut row col top) is same p =
    made_shows s name call (uncut row col top) is (answer_shows call (planned s.job.fields s.part name (uncut row col top)) refl (untouched call same) (unread call same) p)
fault_shows s name call (plan_fault.Held number row col) is same p =
    made_shows s name call (held number row col) is (answer_shows call (planned s.job.fields s.part name (held number row col)) refl (untouched call same) (unread call same) p)
fault_shows s name call plan_fault.WantOfMemory is same p = inr (short_shows call same p)
