-- What status 0 and status 3 mean.
use Rattle.std.proofs.Common.{◌≡◌, ◌≢◌, ℕ, false, List, [], ◌∷◌, Option, refl, sym, ap, subst, ◌∙◌, arith}
use Rattle.std.specs.Prelude.{ℤ, ◌≤ℤ◌, All, map, Ok}
use Rattle.std.specs.List.{AllZip}
use Rattle.std.proofs.lemmas.Int.{ints}
use Rattle.std.proofs.lemmas.List.Elements.{All-weaker}
use Rattle.mill_command.specs.Requests.{verify, plan, stock, rest}
use Rattle.mill_io.specs.Views.{IsStored, IsWritten}
use Rattle.mill_base.specs.declared.points.Tri.{Tri}
use Rattle.mill_base.specs.declared.motion.Move.{Move}
use Rattle.mill_base.specs.Covers.{IsUnder}
use Rattle.mill_job.specs.Columns.{home}
use Rattle.mill_job.specs.Jobs.{IsJob}
use Rattle.mill_job.specs.declared.fields.JobFields.{JobFields}
use Rattle.mill_job.specs.declared.step.Step.{Step}
use Rattle.mill_job.proofs.WithCutter.{is_job_with}
use Rattle.mill_plan.specs.Plans.{IsDone, done, too_many_nodes, too_many_moves, uncut, held as holder_stops}
use Rattle.mill_verify.specs.Files.{File as CutFile, IsFileOf, job_of}
use Rattle.mill_verify.specs.Lists.{OneListVerdict}
use Rattle.mill_verify.specs.Starts.{StartIsSafe, StartsSafely}
use Rattle.mill_verify.specs.Verdicts.{IsVerdict, OneVerdict}
use Rattle.mill_verify.specs.declared.list.ListVerdict.TheVariants as list
use Rattle.mill_verify.specs.declared.verdict.Verdict.TheVariants.{Accept, Reject}
use Rattle.mill_run.specs.Answers.{Answer, refused_word, unfit, judged, planned, dropped, leveled, stocked, judged_files, sampled, answer_status, answer_line, answer_file, IsAnswer}
use Rattle.mill_answer.specs.Calls.{Call, HoldsReads}
use Rattle.mill_run.specs.Outcomes.{Stores, HasOutcome}
use Rattle.mill_answer.specs.Verify.{AcceptsSafely, Judges, texts_of, verdict_status, Files}
use Rattle.mill_run.specs.Headline.{RejectsFirst, Headline, StoresSafely, PlanHeadline, StoresStock, StockHeadline, AcceptsFilesSafely, RejectsFilesFirst, BeginsSafely, RestHeadline, StepGoesByText}
use Rattle.mill_run.specs.Plan.{Plans, plan_line}
use Rattle.mill_run.specs.Rest.{JudgesFiles, ReadsSteps, rest_texts, list_status}
use Rattle.mill_load.specs.Setup.{setup_texts}
use Rattle.mill_run.specs.Stock.{stock_texts, stock_line, drawn, too_many_triangles, DrawsStock}
use Rattle.mill_run.specs.Words.{PlanFiles, StockFiles, RestFiles}
use Rattle.mill_run.proofs.Answering.{is_judged, is_judged_in_turn}
use Rattle.mill_answer.proofs.ByText.{may_go_by_text}
use Rattle.mill_answer.proofs.Counts.{no, on}
use Rattle.mill_ngc.specs.Pieces.{FollowOn}
use Rattle.mill_ngc.specs.Programs.{program_of}
use Rattle.mill_ngc.specs.Writing.{as_written}
use Rattle.mill_ngc.proofs.Follows.{text_follows}
use Rattle.mill_load.specs.Programs.{dialect_of, rules_of}
use Rattle.mill_load.proofs.Asked.{asks_start, may_have}
use Rattle.mill_load.proofs.Bending.{run_follow}
use Rattle.mill_run.proofs.Lengths.{plan_fits}
use Rattle.mill_run.proofs.Outcomes.{answered_by, answers_of}

-- a status that is one number isn't another
apart : (n a b : ℕ) → n ≡ a → a ≢ b → n ≢ b
apart n a b e ne f = ne (sym e ∙ f)

-- ---- `verify`

module _ (law : StartIsSafe) (call : Call) (files : Files) (workers : ℕ) (own : HoldsReads call.store.contents call) where
  accepts_by : (a : Answer) → ((contents : List ℕ → Option (List ℕ)) → HoldsReads contents call → IsAnswer contents (verify files.job files.part files.program workers) a) → answer_status a ≡ 0
      → AcceptsSafely call files
  accepts_by (refused_word coordinate fault) is e = absurd (is call.store.contents own)
  accepts_by (unfit fault) is e = absurd (on 4 0 (omega arith) e)
  accepts_by (judged job part moves (Accept count columns left)) is e =
      let here : Judges (texts_of call.store.contents files) job part moves (Accept count columns left) = is call.store.contents own in
      record {
        job = job;
        part = part;
        moves = moves;
        all_read = λ contents held. (is contents held).all_read;
        job_ok = here.job_ok;
        moves_ok = here.moves_ok;
        start = law job part here.moves_ok.follow.from here.job_ok here.all_read.setup_is.under here.moves_ok.follow.over;
        safe = here.safe;
        by_text = λ contents held. may_go_by_text job (contents files.program) moves here.job_ok (is contents held).all_read.moves_are;
      }
  accepts_by (judged job part moves (Reject reason)) is e = absurd (on 3 0 (omega arith) e)
  accepts_by (planned j p name answer) is e = absurd (is call.store.contents own)
  accepts_by (dropped unit height) is e = absurd (is call.store.contents own)
  accepts_by (leveled unit answer) is e = absurd (is call.store.contents own)
  accepts_by (stocked j m name answer) is e = absurd (is call.store.contents own)
  accepts_by (judged_files j p ss fs v) is e = absurd (is call.store.contents own)
  accepts_by (sampled n answer) is e = absurd (is call.store.contents own)

module _ (call : Call) (files : Files) (workers : ℕ) (own : HoldsReads call.store.contents call) where
  rejects_by : (a : Answer) → ((contents : List ℕ → Option (List ℕ)) → HoldsReads contents call → IsAnswer contents (verify files.job files.part files.program workers) a) → answer_status a ≡ 3
      → IsWritten (answer_line a) call.sink call.sink_after → RejectsFirst call files
  rejects_by (refused_word coordinate fault) is e printed = absurd (is call.store.contents own)
  rejects_by (unfit fault) is e printed = absurd (on 4 3 (omega arith) e)
  rejects_by (judged job part moves (Accept count columns left)) is e printed = absurd (no 0 3 (omega arith) e)
  rejects_by (judged job part moves (Reject reason)) is e printed =
      let here : Judges (texts_of call.store.contents files) job part moves (Reject reason) = is call.store.contents own in
      record {
        job = job;
        part = part;
        moves = moves;
        reason = reason;
        all_read = λ contents held. (is contents held).all_read;
        job_ok = here.job_ok;
        moves_ok = here.moves_ok;
        first = here.is;
        named = here.named;
        printed = printed;
      }
  rejects_by (planned j p name answer) is e printed = absurd (is call.store.contents own)
  rejects_by (dropped unit height) is e printed = absurd (is call.store.contents own)
  rejects_by (leveled unit answer) is e printed = absurd (is call.store.contents own)
  rejects_by (stocked j m name answer) is e printed = absurd (is call.store.contents own)
  rejects_by (judged_files j p ss fs v) is e printed = absurd (is call.store.contents own)
  rejects_by (sampled n answer) is e printed = absurd (is call.store.contents own)

pub headline_of : OneVerdict → StartIsSafe → (words : List (List ℕ)) (call : Call) → HasOutcome words call → Headline words call
headline_of one law words call has = record {
  accepts = λ files asks e.
      let a = answered_by words call (verify files.job files.part files.program asks.0) has asks.1
      (apart _ 0 5 e (no 0 5 (omega arith))) (apart _ 0 6 e (no 0 6 (omega arith))) (apart _ 0 7 e (no 0 7 (omega arith))) in
      accepts_by law call files asks.0 has.held a.answer a.is (sym a.status ∙ e);
  rejects = λ files asks e.
      let a = answered_by words call (verify files.job files.part files.program asks.0) has asks.1
      (apart _ 3 5 e (no 3 5 (omega arith))) (apart _ 3 6 e (no 3 6 (omega arith))) (apart _ 3 7 e (no 3 7 (omega arith))) in
      rejects_by call files asks.0 has.held a.answer a.is (sym a.status ∙ e) a.printed;
  exactly = λ files contents job part moves reason asks held told read rejected fine n5.
      let a = answers_of words call has (verify files.job files.part files.program asks.0) asks.1 fine n5 in
      let v = is_judged contents files asks.0 job part moves a.answer told read (a.is contents held) in
      a.status ∙ v.same ∙ ap verdict_status (one job part moves v.verdict (Reject reason) v.is rejected);
}

-- ---- `plan`

at_least_itself : (z : ℤ) → z ≤ℤ z
at_least_itself z = omega (arith, ints)

-- a plan's text reads back as its moves, which are accepted, whatever the files hold
done_safely : StartIsSafe → (call : Call) (files : PlanFiles) (job : JobFields) (part : List Tri) (text : List ℕ) (count columns : ℕ) (left : ℤ)
    → ((contents : List ℕ → Option (List ℕ)) → HoldsReads contents call → Plans (setup_texts contents files.job files.part) job part (done text count columns left)) → IsJob job → IsUnder part job.top → job.spindle ≡ false
    → IsDone job part text count columns left → IsStored files.out text call.store call.store_after → IsWritten (plan_line job.unit (done text count columns left)) call.sink call.sink_after
    → StoresSafely call files
done_safely law call files job part text count columns left plans job_ok under still d stored printed =
    let reads : program_of (home job) job.unit (rules_of job) text ≡ Ok (map as_written d.moves) = rw (asks_start job still) (d.reads (dialect_of job.words job) (may_have job job_ok)) in
    let follow : FollowOn (home job) (rules_of job) d.moves =
    subst (FollowOn (home job) (rules_of job)) (sym d.made)
    (run_follow job.rapids (home job) (rules_of job) (map as_written d.moves) (text_follows (home job) job.unit (rules_of job) text (map as_written d.moves) reads)) in record {
      job = job;
      part = part;
      moves = d.moves;
      text = text;
      columns = columns;
      left = left;
      stored = stored;
      accepted = λ contents held. record {
        all_read = record {
          setup_is = (plans contents held).setup_is;
          moves_are = record { fits = plan_fits job d.moves text job_ok d.in_range d.plan.few d.written; read = map as_written d.moves; reads = reads; made = d.made };
        };
        job_ok = job_ok;
        moves_ok = record { in_range = d.in_range; follow = follow; few = d.plan.few };
        is = subst (λ (n : ℕ). IsVerdict job part d.moves (Accept n columns left)) d.accepted.all_moves d.accepted;
        safe = d.safe;
        named = tt;
      };
      start = law job part (home job) job_ok under (at_least_itself job.clear);
      safe = d.safe;
      printed = subst (λ (n : ℕ). IsWritten (plan_line job.unit (done text n columns left)) call.sink call.sink_after) d.accepted.all_moves printed;
    }

plans_by : StartIsSafe → (call : Call) (files : PlanFiles) (workers : ℕ) (own : HoldsReads call.store.contents call) (a : Answer)
    → ((contents : List ℕ → Option (List ℕ)) → HoldsReads contents call → IsAnswer contents (plan files.job files.part files.out workers) a)
    → answer_status a ≡ 0 → IsWritten (answer_line a) call.sink call.sink_after → Stores call (answer_file a) → StoresSafely call files
plans_by law call files workers own (refused_word coordinate fault) is e printed stored = absurd (is call.store.contents own)
plans_by law call files workers own (unfit fault) is e printed stored = absurd (on 4 0 (omega arith) e)
plans_by law call files workers own (judged job part moves verdict) is e printed stored = absurd (is call.store.contents own)
plans_by law call files workers own (planned j p name (done text count columns left)) is e printed stored =
    let here = is call.store.contents own in
    done_safely law call files j p text count columns left (λ contents held. (is contents held).1) here.1.job_ok here.1.setup_is.under here.1.still here.1.is
    (subst (λ (n : List ℕ). IsStored n text call.store call.store_after) here.0 stored) printed
plans_by law call files workers own (planned j p name (uncut row col top)) is e printed stored = absurd (on 8 0 (omega arith) e)
plans_by law call files workers own (planned j p name (holder_stops number row col)) is e printed stored = absurd (on 8 0 (omega arith) e)
plans_by law call files workers own (planned j p name (too_many_nodes nodes)) is e printed stored = absurd (on 9 0 (omega arith) e)
plans_by law call files workers own (planned j p name too_many_moves) is e printed stored = absurd (on 9 0 (omega arith) e)
plans_by law call files workers own (dropped unit height) is e printed stored = absurd (is call.store.contents own)
plans_by law call files workers own (leveled unit answer) is e printed stored = absurd (is call.store.contents own)
plans_by law call files workers own (stocked j m name answer) is e printed stored = absurd (is call.store.contents own)
plans_by law call files workers own (judged_files j p ss fs v) is e printed stored = absurd (is call.store.contents own)
plans_by law call files workers own (sampled n answer) is e printed stored = absurd (is call.store.contents own)

pub plan_headline_of : StartIsSafe → (words : List (List ℕ)) (call : Call) → HasOutcome words call → PlanHeadline words call
plan_headline_of law words call has = λ files asks e.
    let a = answered_by words call (plan files.job files.part files.out asks.0) has asks.1
    (apart _ 0 5 e (no 0 5 (omega arith))) (apart _ 0 6 e (no 0 6 (omega arith))) (apart _ 0 7 e (no 0 7 (omega arith))) in
    plans_by law call files asks.0 has.held a.answer a.is (sym a.status ∙ e) a.printed a.stored

-- ---- `stock`

drawn_stored : (call : Call) (files : StockFiles) (job : JobFields) (moves : List Move) (text : List ℕ) (count : ℕ) (own : HoldsReads call.store.contents call)
    → ((contents : List ℕ → Option (List ℕ)) → HoldsReads contents call → DrawsStock (stock_texts contents files.job files.program) job moves (drawn text count))
    → IsStored files.out text call.store call.store_after → IsWritten (stock_line (drawn text count)) call.sink call.sink_after → StoresStock call files
drawn_stored call files job moves text count own draws stored printed =
    let d = draws call.store.contents own in record {
      job = job;
      moves = moves;
      text = text;
      all_read = λ contents held. (draws contents held).all_read;
      job_ok = d.job_ok;
      moves_ok = d.moves_ok;
      stored = stored;
      fits = d.is.fits;
      reads = d.is.reads;
      printed = subst (λ (n : ℕ). IsWritten (stock_line (drawn text n)) call.sink call.sink_after) d.is.count_is printed;
    }

stocks_by : (call : Call) (files : StockFiles) (own : HoldsReads call.store.contents call) (a : Answer)
    → ((contents : List ℕ → Option (List ℕ)) → HoldsReads contents call → IsAnswer contents (stock files.job files.program files.out) a)
    → answer_status a ≡ 0 → IsWritten (answer_line a) call.sink call.sink_after → Stores call (answer_file a) → StoresStock call files
stocks_by call files own (refused_word coordinate fault) is e printed stored = absurd (is call.store.contents own)
stocks_by call files own (unfit fault) is e printed stored = absurd (on 4 0 (omega arith) e)
stocks_by call files own (judged job part moves verdict) is e printed stored = absurd (is call.store.contents own)
stocks_by call files own (planned j p name answer) is e printed stored = absurd (is call.store.contents own)
stocks_by call files own (dropped unit height) is e printed stored = absurd (is call.store.contents own)
stocks_by call files own (leveled unit answer) is e printed stored = absurd (is call.store.contents own)
stocks_by call files own (stocked j m name (drawn text count)) is e printed stored =
    drawn_stored call files j m text count own (λ contents held. (is contents held).1)
    (subst (λ (n : List ℕ). IsStored n text call.store call.store_after) (is call.store.contents own).0 stored) printed
stocks_by call files own (stocked j m name (too_many_triangles count)) is e printed stored = absurd (on 9 0 (omega arith) e)
stocks_by call files own (judged_files j p ss fs v) is e printed stored = absurd (is call.store.contents own)
stocks_by call files own (sampled n answer) is e printed stored = absurd (is call.store.contents own)

pub stock_headline_of : (words : List (List ℕ)) (call : Call) → HasOutcome words call → StockHeadline words call
stock_headline_of words call has = λ files asks e.
    let a = answered_by words call (stock files.job files.program files.out) has asks
    (apart _ 0 5 e (no 0 5 (omega arith))) (apart _ 0 6 e (no 0 6 (omega arith))) (apart _ 0 7 e (no 0 7 (omega arith))) in
    stocks_by call files has.held a.answer a.is (sym a.status ∙ e) a.printed a.stored

-- ---- `rest`

-- each file begins so
begin_safely : StartIsSafe → (job : JobFields) (part : List Tri) (files : List CutFile) → IsJob job → IsUnder part job.top → All (IsFileOf job) files → All (BeginsSafely job part) files
begin_safely law job part files ok under are = All-weaker (IsFileOf job) (BeginsSafely job part) begins files are
  where
    begins : (file : CutFile) → IsFileOf job file → BeginsSafely job part file
    begins file is = record {
      from = is.follow.from;
      follow = is.follow.follow;
      start = law (job_of job file) part is.follow.from (is_job_with job file.cutter ok is.fits) under is.follow.over;
    }

-- and its machine may go by its text
go_by_texts : (programs : List ℕ → Option (List ℕ)) (job : JobFields) → IsJob job → (steps : List Step) (files : List CutFile) → ReadsSteps programs job steps files → AllZip (StepGoesByText programs job) steps files
go_by_texts programs job ok [] [] read = tt
go_by_texts programs job ok (step ∷ steps) (file ∷ files) read = (may_go_by_text job (programs step.program) file.moves ok read.0.moves_are, go_by_texts programs job ok steps files read.1)
go_by_texts programs job ok [] (file ∷ files) read = absurd read
go_by_texts programs job ok (step ∷ steps) [] read = absurd read

module _ (law : StartIsSafe) (call : Call) (names : RestFiles) (workers : ℕ) (own : HoldsReads call.store.contents call) where
  accepts_in_turn : (a : Answer) → ((contents : List ℕ → Option (List ℕ)) → HoldsReads contents call → IsAnswer contents (rest names.job names.part names.list workers) a) → answer_status a ≡ 0
      → AcceptsFilesSafely call names
  accepts_in_turn (refused_word coordinate fault) is e = absurd (is call.store.contents own)
  accepts_in_turn (unfit fault) is e = absurd (on 4 0 (omega arith) e)
  accepts_in_turn (judged job part moves verdict) is e = absurd (is call.store.contents own)
  accepts_in_turn (planned j p name answer) is e = absurd (is call.store.contents own)
  accepts_in_turn (dropped unit height) is e = absurd (is call.store.contents own)
  accepts_in_turn (leveled unit answer) is e = absurd (is call.store.contents own)
  accepts_in_turn (stocked j m name answer) is e = absurd (is call.store.contents own)
  accepts_in_turn (judged_files job part steps files (list.Accept count moves columns left)) is e =
      let here : JudgesFiles (rest_texts call.store.contents names) job part steps files (list.Accept count moves columns left) = is call.store.contents own in
      record {
        job = job;
        part = part;
        steps = steps;
        files = files;
        all_read = λ contents held. (is contents held).all_read;
        job_ok = here.job_ok;
        files_ok = here.files_ok;
        starts = begin_safely law job part files here.job_ok here.all_read.setup_is.under here.files_ok;
        safe = here.safe;
        by_texts = λ contents held. go_by_texts contents job here.job_ok steps files (is contents held).all_read.files_are;
      }
  accepts_in_turn (judged_files job part steps files (list.Reject file reason)) is e = absurd (on 3 0 (omega arith) e)
  accepts_in_turn (judged_files job part steps files (list.Left row column top)) is e = absurd (on 3 0 (omega arith) e)
  accepts_in_turn (sampled n answer) is e = absurd (is call.store.contents own)

module _ (call : Call) (names : RestFiles) (workers : ℕ) (own : HoldsReads call.store.contents call) where
  rejects_in_turn : (a : Answer) → ((contents : List ℕ → Option (List ℕ)) → HoldsReads contents call → IsAnswer contents (rest names.job names.part names.list workers) a) → answer_status a ≡ 3
      → IsWritten (answer_line a) call.sink call.sink_after → RejectsFilesFirst call names
  rejects_in_turn (refused_word coordinate fault) is e printed = absurd (is call.store.contents own)
  rejects_in_turn (unfit fault) is e printed = absurd (on 4 3 (omega arith) e)
  rejects_in_turn (judged job part moves verdict) is e printed = absurd (is call.store.contents own)
  rejects_in_turn (planned j p name answer) is e printed = absurd (is call.store.contents own)
  rejects_in_turn (dropped unit height) is e printed = absurd (is call.store.contents own)
  rejects_in_turn (leveled unit answer) is e printed = absurd (is call.store.contents own)
  rejects_in_turn (stocked j m name answer) is e printed = absurd (is call.store.contents own)
  rejects_in_turn (judged_files job part steps files verdict) is e printed =
      let here : JudgesFiles (rest_texts call.store.contents names) job part steps files verdict = is call.store.contents own in
      record {
        job = job;
        part = part;
        steps = steps;
        files = files;
        verdict = verdict;
        all_read = λ contents held. (is contents held).all_read;
        job_ok = here.job_ok;
        files_ok = here.files_ok;
        first = here.is;
        rejects = e;
        named = here.named;
        printed = printed;
      }
  rejects_in_turn (sampled n answer) is e printed = absurd (is call.store.contents own)

pub rest_headline_of : OneListVerdict → StartIsSafe → (words : List (List ℕ)) (call : Call) → HasOutcome words call → RestHeadline words call
rest_headline_of one law words call has = record {
  accepts = λ names asks e.
      let a = answered_by words call (rest names.job names.part names.list asks.0) has asks.1
      (apart _ 0 5 e (no 0 5 (omega arith))) (apart _ 0 6 e (no 0 6 (omega arith))) (apart _ 0 7 e (no 0 7 (omega arith))) in
      accepts_in_turn law call names asks.0 has.held a.answer a.is (sym a.status ∙ e);
  rejects = λ names asks e.
      let a = answered_by words call (rest names.job names.part names.list asks.0) has asks.1
      (apart _ 3 5 e (no 3 5 (omega arith))) (apart _ 3 6 e (no 3 6 (omega arith))) (apart _ 3 7 e (no 3 7 (omega arith))) in
      rejects_in_turn call names asks.0 has.held a.answer a.is (sym a.status ∙ e) a.printed;
  exactly = λ names contents job part steps files verdict asks held told read is rejected fine n5.
      let a = answers_of words call has (rest names.job names.part names.list asks.0) asks.1 fine n5 in
      let v = is_judged_in_turn contents names asks.0 job part steps files a.answer told read (a.is contents held) in
      a.status ∙ v.same ∙ ap list_status (one job part files v.verdict verdict v.is is) ∙ rejected;
}
