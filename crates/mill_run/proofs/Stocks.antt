-- The work on `stock`: what was read, stored and printed, put together.
use Rattle.std.proofs.Common.{◌≡◌, ℕ, List, ◌++◌, length, take, drop, Option, Result, Ok, Err, refl, sym, subst, inl, inr, arith}
use Rattle.std.proofs.lemmas.List.{append-nil, drop_all, take_all}
use Rattle.mill_command.specs.Requests.{stock}
use Rattle.mill_io.specs.Readings.{AreHeld}
use Rattle.mill_io.specs.Views.{StoreView}
use Rattle.mill_job.specs.declared.fields.JobFields.{JobFields}
use Rattle.mill_load.specs.declared.file.File.{File}
use Rattle.mill_load.specs.declared.file.File.TheVariants.{Job as JobFile, Part as PartFile, Program as ProgramFile, List as ListFile, StepProgram}
use Rattle.mill_load.specs.declared.load.LoadFault.{LoadFault}
use Rattle.mill_load.specs.declared.load.LoadFault.TheVariants.{Memory, ReadFault, Unfit}
use Rattle.mill_load.specs.declared.load.Unfit.TheVariants.{TooLong, JobRefused, PartRefused, ListRefused, ProgramRefused, PartTop}
use Rattle.mill_run.specs.declared.stock.Cutting.{Cutting}
use Rattle.mill_run.specs.Answers.{stocked}
use Rattle.mill_answer.specs.Calls.{Call, HoldsReads}
use Rattle.mill_run.specs.inner.Loads.{IsCutting, LoadsCutting}
use Rattle.mill_load.specs.Loads.{LoadsJob, LoadsProgram, OnlyLoads}
use Rattle.mill_run.specs.Outcomes.{answered, IsOutcome, ShowsOr, Serves}
use Rattle.mill_run.specs.inner.Prints.{ShowsStockOr, fault_outcome}
use Rattle.mill_run.specs.Stock.{StockAnswer, StockTexts, stock_texts, IsStockAnswer, IsReadBeforeStock, IsUnfitStock, ReadsStockJob}
use Rattle.mill_run.proofs.Serving.{answer_serves, short_serves}
use Rattle.mill_run.proofs.Storing.{from, holds_after, holds_before, logged_anyhow, same_view}

-- ---- what kept it from its files

-- there was no job
pub no_job : (texts : StockTexts) (f : LoadFault) → LoadsJob texts.job (Err f) → LoadsCutting texts (Err f)
no_job texts Memory h = tt
no_job texts (ReadFault JobFile) h = tt
no_job texts (ReadFault PartFile) h = absurd h
no_job texts (ReadFault ProgramFile) h = absurd h
no_job texts (ReadFault ListFile) h = absurd h
no_job texts (ReadFault (StepProgram k)) h = absurd h
no_job texts (Unfit (TooLong JobFile)) h = h
no_job texts (Unfit (TooLong PartFile)) h = absurd h
no_job texts (Unfit (TooLong ProgramFile)) h = absurd h
no_job texts (Unfit (TooLong ListFile)) h = absurd h
no_job texts (Unfit (TooLong (StepProgram k))) h = absurd h
no_job texts (Unfit (JobRefused fault)) h = h
no_job texts (Unfit (PartRefused fault)) h = absurd h
no_job texts (Unfit (ListRefused fault)) h = absurd h
no_job texts (Unfit (ProgramRefused file fault)) h = absurd h
no_job texts (Unfit (PartTop height top unit)) h = absurd h

-- the job was read, and there was no program
pub no_program : (texts : StockTexts) (job : JobFields) (f : LoadFault) → ReadsStockJob texts job → LoadsProgram job texts.program ProgramFile (Err f) → LoadsCutting texts (Err f)
no_program texts job Memory r h = tt
no_program texts job (ReadFault file) r h = subst (λ (x : File). IsReadBeforeStock texts x) (sym h) (job, r)
no_program texts job (Unfit (TooLong file)) r h = subst (λ (x : File). IsUnfitStock texts (TooLong x)) (sym h.0) (record { job = job; job_is = r; long = h.1 })
no_program texts job (Unfit (JobRefused fault)) r h = absurd h
no_program texts job (Unfit (PartRefused fault)) r h = absurd h
no_program texts job (Unfit (ListRefused fault)) r h = absurd h
no_program texts job (Unfit (ProgramRefused file fault)) r h = subst (λ (x : File). IsUnfitStock texts (ProgramRefused x fault)) (sym h.0) (record { job = job; job_is = r; refused = h.1 })
no_program texts job (Unfit (PartTop height top unit)) r h = absurd h

pub stock_load_fault : (contents : List ℕ → Option (List ℕ)) (job program name : List ℕ) (f : LoadFault) → LoadsCutting (stock_texts contents job program) (Err f)
    → IsOutcome contents (stock job program name) (fault_outcome f)
stock_load_fault contents job program name Memory h = tt
stock_load_fault contents job program name (ReadFault file) h = h
stock_load_fault contents job program name (Unfit fault) h = h

-- ---- the work

-- an error that is handed on is the same
pub handed_on : {T U E : Type 0} (r : Result T E) (x y e : E) → r ≡ Err x → x ≡ y → r ≡ Err e → (let q : Result U E = Err y in q) ≡ Err e
handed_on r x y e is same other = cc

-- a list that is written back whole
pub put_back : {T : Type 0} (old new : List T) (n : ℕ) → length new ≡ n → length old ≡ n → take n (new ++ drop (length new) old) ≡ new
put_back old new n as_long long = rw (drop_all (length new) old (omega arith), append-nil new, take_all n new (omega arith)) refl

-- ---- the answer

-- the answer is shown
pub answer_drawn : (c : Cutting) (name : List ℕ) (call : Call) (a : StockAnswer) → IsStockAnswer c.job.fields c.moves.items a → ShowsOr (answered (stocked c.job.fields c.moves.items name a)) call → ShowsStockOr c name call
answer_drawn c name call a is (inl shown) = inl (record { answer = a; is = is; shows = shown })
answer_drawn c name call a is (inr m) = inr m

-- job and program were read, and the answer to them is shown
pub stock_serves : (job program name : List ℕ) (call : Call) (store : StoreView) (c : Cutting)
    → ((contents : List ℕ → Option (List ℕ)) → AreHeld contents call.store.log store.log → LoadsCutting (stock_texts contents job program) (Ok c)) → IsCutting c
    → (let r : Result Cutting LoadFault = Ok c in OnlyLoads call.store store r) → call.store_after.log ≡ store.log → ShowsStockOr c name (from call store) → Serves (stock job program name) call
stock_serves job program name call store c read ready loads logged shown = whole (subst (λ (view : StoreView). ShowsStockOr c name (from call view)) (same_view call.store store loads.only loads.reads) shown)
  where
    own : HoldsReads call.store.contents call
    own = holds_after call.store.contents call store logged loads.held

    whole : ShowsStockOr c name (from call (record call.store { log = store.log })) → Serves (stock job program name) call
    whole (inl p) =
        answer_serves (stock job program name) call (stocked c.job.fields c.moves.items name p.answer)
        (λ contents held. (refl, record { all_read = read contents (holds_before contents call store logged held); job_ok = c.job.is_job; moves_ok = ready; is = p.is })) own
        (inl (logged_anyhow call store.log _ p.shows))
    whole (inr m) = short_serves (stock job program name) call own (logged_anyhow call store.log _ m)
