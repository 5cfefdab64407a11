-- The work on `sample`, put together.
use Rattle.std.proofs.Common.{◌≡◌, ℕ, false, List, [], refl, sym, ap, subst, ◌∙◌, inl, inr}
use Rattle.std.specs.Prelude.{ℤ, map, IfOk, Result, Ok, Err}
use Rattle.std.specs.Global.{Vec}
use Rattle.std.proofs.lemmas.Result.{IfOk-weaker}
use Rattle.mill_base.specs.declared.memory.WantOfMemory.{WantOfMemory}
use Rattle.mill_base.specs.declared.motion.Move.{Move}
use Rattle.mill_base.specs.declared.points.Tri.{Tri}
use Rattle.mill_base.specs.declared.unit.Unit.TheVariants.{Hundredth}
use Rattle.mill_job.specs.Columns.{home}
use Rattle.mill_job.specs.Habits.{run_by}
use Rattle.mill_job.specs.declared.fields.JobFields.{JobFields}
use Rattle.mill_ngc.specs.Programs.{program_of}
use Rattle.mill_ngc.specs.Writing.{as_written}
use Rattle.mill_load.specs.Programs.{SaysMoves, dialect_of, rules_of}
use Rattle.mill_job.specs.Jobs.{IsJob}
use Rattle.mill_load.proofs.Asked.{asks_start, may_have}
use Rattle.mill_command.specs.Requests.{sample}
use Rattle.mill_io.specs.Views.{StoreView, SinkView, ReadsOnly}
use Rattle.mill_plan.specs.Plans.{too_many_nodes, done, too_many_moves, uncut, held, answer_of, IsDone, IsPlanAnswer, IsPlanFault}
use Rattle.mill_plan.specs.declared.planned.Planned.{Planned}
use Rattle.mill_plan.specs.declared.fault.PlanFault.{PlanFault}
use Rattle.mill_plan.specs.declared.fault.PlanFault.TheVariants as plan_fault
use Rattle.mill_verify.specs.Verdicts.{IsVerdict, OneVerdict}
use Rattle.mill_verify.specs.declared.verdict.Verdict.{Verdict}
use Rattle.mill_verify.specs.declared.verdict.Verdict.TheVariants.{Accept}
use Rattle.mill_run.specs.Answers.{sampled}
use Rattle.mill_answer.specs.Calls.{Call}
use Rattle.mill_run.specs.SamplePart.{IsSample, sample_part, sample_job}
use Rattle.mill_answer.specs.Prints.{PrintsMade}
use Rattle.mill_run.specs.inner.Prints.{PrintsPlanFault, TriesSample}
use Rattle.mill_run.specs.Outcomes.{no_memory, Serves}
use Rattle.mill_run.specs.Sample.{sample_line}
use Rattle.mill_run.proofs.Serving.{same_store, answer_serves, answer_shows, made_prints, printed_shows, short_serves, unread_holds}

ok_is : {A E : Type 0} (a b : A) → (let r : Result A E = Ok a in r) ≡ Ok b → a ≡ b
ok_is a b e = cc

-- a text that has moves has no fault
pub no_fault : {A E : Type 0} (r : Result A E) (fault : E) → r ≡ Err fault → (a : A) × (r ≡ Ok a) → ⊥
no_fault r fault e meant =
    let is = meant.1 in
    cc

-- the sample part's job asks for no spindle
pub sample_still : (n : ℕ) (job : JobFields) (part : List Tri) → IsSample n job part → job.spindle ≡ false
sample_still n job part made = ap (λ (j : JobFields). j.spindle) made.job_is

-- the verdict on a plan's text, as it reads for a job that asks for no spindle, is the plan's
pub plan_verdict : OneVerdict → (job : JobFields) (part : List Tri) (text : List ℕ) (count columns : ℕ) (left : ℤ) (read : List Move) (r : Result Verdict WantOfMemory)
    → IsJob job → IsDone job part text count columns left → job.spindle ≡ false → SaysMoves job text read → IfOk r (IsVerdict job part read) → IfOk r (λ v. v ≡ Accept count columns left)
plan_verdict one job part text count columns left read r ok made still says verdict =
    let planned : program_of (home job) job.unit (rules_of job) text ≡ Ok (map as_written made.moves) = rw (asks_start job still) (made.reads (dialect_of job.words job) (may_have job ok)) in
    let same : read ≡ made.moves = says.made ∙ ap (run_by job.rapids) (ok_is says.read (map as_written made.moves) (sym says.reads ∙ planned)) ∙ sym made.made in
    IfOk-weaker r (IsVerdict job part read) (λ v. v ≡ Accept count columns left)
    (λ v is. one job part made.moves v (Accept count columns left) (subst (λ (m : List Move). IsVerdict job part m v) same is) made.accepted) verdict

-- there is no program, and that is printed
pub fault_tries : (n status : ℕ) (sink sink_after : SinkView) (job : JobFields) (part : List Tri) (f : PlanFault) → IsSample n job part → IsPlanFault job part f → PrintsPlanFault Hundredth f status sink sink_after
    → TriesSample n status sink sink_after
fault_tries n status sink sink_after job part f made is printed = go f (subst (λ p. IsPlanFault (sample_job n) p f) made.part_is (subst (λ j. IsPlanFault j part f) made.job_is is)) printed
  where
    go : (g : PlanFault) → IsPlanFault (sample_job n) (sample_part n) g → PrintsPlanFault Hundredth g status sink sink_after → TriesSample n status sink sink_after
    go (plan_fault.TooManyNodes nodes) here p = inl (record { answer = too_many_nodes nodes; is = here; printed = p })
    go plan_fault.TooManyMoves here p = inl (record { answer = too_many_moves; is = here; printed = p })
    go (plan_fault.Uncut row col top) here p = inl (record { answer = uncut row col top; is = here; printed = p })
    go (plan_fault.Held number row col) here p = inl (record { answer = held number row col; is = here; printed = p })
    go plan_fault.WantOfMemory here p = inr p

accept_is : (a b d e : ℕ) (x y : ℤ) → Accept a b x ≡ Accept d e y → (a ≡ d) × (b ≡ e) × (x ≡ y)
accept_is a b d e x y h = (cc, cc, cc)

-- the verdict's numbers are the plan's, and are printed
pub verdict_tries : (n status : ℕ) (sink sink_after : SinkView) (job : JobFields) (part : List Tri) (planned : Planned) (moves columns : ℕ) (left : ℤ) (line : Result (Vec ℕ) WantOfMemory)
    → IsSample n job part → IsPlanAnswer job part (answer_of planned) → Accept moves columns left ≡ Accept planned.moves planned.columns planned.most_left
    → IfOk line (λ v. v.items ≡ sample_line n (done [] moves columns left)) → PrintsMade line 0 status sink sink_after → TriesSample n status sink sink_after
verdict_tries n status sink sink_after job part planned moves columns left line made is same text printed =
    let numbers = accept_is moves columns planned.moves planned.columns left planned.most_left same in
    inl (record {
      answer = answer_of planned;
      is = subst (λ (p : List Tri). IsPlanAnswer (sample_job n) p (answer_of planned)) made.part_is (subst (λ (j : JobFields). IsPlanAnswer j part (answer_of planned)) made.job_is is);
      printed = made_prints line (sampled n (answer_of planned)) 0 status sink sink_after refl (IfOk-weaker line _ _ (λ v whole. whole ∙ line_is numbers.0 numbers.1 numbers.2) text) printed;
    })
  where
    line_is : moves ≡ planned.moves → columns ≡ planned.columns → left ≡ planned.most_left → sample_line n (done [] moves columns left) ≡ sample_line n (answer_of planned)
    line_is m k l = rw (m, k, l) refl

-- what was printed is the work on `sample`, whatever the store is
pub sample_serves : (n workers : ℕ) (call : Call) → call.store_after ≡ call.store → TriesSample n call.status call.sink call.sink_after → Serves (sample n workers) call
sample_serves n workers call same tried = go tried
  where
    only : ReadsOnly call.store call.store_after
    only = subst (λ (v : StoreView). ReadsOnly call.store v) (sym same) (same_store call.store)

    reads : call.store_after.read_faults ≡ call.store.read_faults
    reads = ap (λ (v : StoreView). v.read_faults) same

    go : TriesSample n call.status call.sink call.sink_after → Serves (sample n workers) call
    go (inl p) = answer_serves (sample n workers) call (sampled n p.answer) (λ contents given. (refl, p.is)) (unread_holds call same) (answer_shows call (sampled n p.answer) refl only reads p.printed)
    go (inr m) = short_serves (sample n workers) call (unread_holds call same) (printed_shows call no_memory refl only reads m)
