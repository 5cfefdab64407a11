-- What the statuses of a call mean.
use Rattle.std.proofs.Common.{◌≡◌, ◌≢◌, ◌⊎◌, ℕ, List, ◌∷◌, Option, Some, false, sym, ap, subst, ◌∙◌, inl, inr, arith}
use Rattle.std.specs.Prelude.{All}
use Rattle.std.proofs.lemmas.List.Elements.{All-head}
use Rattle.mill_base.specs.declared.motion.Move.{Move}
use Rattle.mill_base.specs.declared.points.Tri.{Tri}
use Rattle.mill_dexel.specs.Tops.{uncut}
use Rattle.mill_document.specs.Documents.{text_of}
use Rattle.mill_io.specs.Views.{IsWritten}
use Rattle.mill_job.specs.Jobs.{IsJob}
use Rattle.mill_job.specs.declared.fields.JobFields.{JobFields}
use Rattle.mill_load.specs.Loads.{AreMoves}
use Rattle.mill_answer.specs.Prints.{PrintsWhole}
use Rattle.mill_load.specs.declared.load.LoadFault.TheVariants.{Memory, ReadFault, Unfit}
use Rattle.mill_report.specs.declared.left.LeftColumn.{LeftColumn}
use Rattle.mill_report_run.proofs.Blaming.{not_6, not_7, printed_whole, verdict_not}
use Rattle.mill_report_run.proofs.Loading.{all_read}
use Rattle.mill_report_run.proofs.Taken.{no_request, same_request}
use Rattle.mill_report_run.specs.Headline.{Completes, Headline, PrintsAcceptance, PrintsReport, Untaken}
use Rattle.mill_report_run.specs.Outcomes.{AreTextsOf, AsksFor, HasOutcome, IsOutcome, IsOutcomeOf, IsTextOf, Outcome, Reported, Reports, bad_words, failed, help, outcome_status, reported}
use Rattle.mill_report_run.specs.Words.{RefusesWords, Request, ShowsHelp, is_taken, request}
use Rattle.mill_report_run.specs.Reports.{Agree, AreFailing, IsReport, Texts}
use Rattle.mill_answer.proofs.Answering.{HasVerdict, is_judged}
use Rattle.mill_answer.proofs.ByText.{may_go_by_text}
use Rattle.mill_answer.proofs.Counts.{no, on}
use Rattle.mill_answer.specs.Judgments.{judged, unfit}
use Rattle.mill_answer.specs.Calls.{Call, HoldsReads, NoFault}
use Rattle.mill_answer.specs.Verify.{AcceptsSafely, AreTold, Files, IsNamed, Judges, Reads, Texts as ToldTexts, texts_of, verdict_status}
use Rattle.mill_verify.specs.Starts.{StartIsSafe}
use Rattle.mill_verify.specs.Verdicts.{NamesLeaf, OneVerdict}
use Rattle.mill_verify.specs.declared.verdict.Reason.{Reason}
use Rattle.mill_verify.specs.declared.verdict.Reason.TheVariants.{Floor, Gouge, Holder, Fixture, HolderFixture, Rapid as RapidCut, Cut, HolderStock, Left}
use Rattle.mill_verify.specs.declared.verdict.Verdict.{Verdict}
use Rattle.mill_verify.specs.declared.verdict.Verdict.TheVariants.{Accept, Reject}
use Rattle.serde_json.specs.Data.{Data}

-- a status that is one number isn't another
apart : (n a b : ℕ) → n ≡ a → a ≢ b → n ≢ b
apart n a b e ne f = ne (sym e ∙ f)

-- the outcome of what the words ask for is that of any request that they make
asked_outcome : (words : List (List ℕ)) (contents : List ℕ → Option (List ℕ)) (o : Outcome) (asked : Request) → AsksFor words contents o → request words ≡ Some asked
    → IsOutcome (texts_of contents asked.files) o
asked_outcome words contents o asked a taken = subst (λ (r : Request). IsOutcome (texts_of contents r.files) o) (same_request (request words) a.asked asked a.taken taken) a.is

-- ---- a report

-- a call printed the report on these files, with its status
record IsReported (call : Call) (files : Files) : Type 0 where
  made : Reported
  is : (contents : List ℕ → Option (List ℕ)) → HoldsReads contents call → Reports (texts_of contents files) made
  status_is : call.status ≡ made.status
  printed : IsWritten made.report call.sink call.sink_after

reported_by : (words : List (List ℕ)) (call : Call) (asked : Request) (o : Outcome) (text : List ℕ) → ((contents : List ℕ → Option (List ℕ)) → HoldsReads contents call → IsOutcomeOf words contents o)
    → HoldsReads call.store.contents call → IsTextOf o text → PrintsWhole text (outcome_status o) call.status call.sink call.sink_after → request words ≡ Some asked
    → call.status ≢ 4 → call.status ≢ 5 → call.status ≢ 6 → IsReported call asked.files
reported_by words call asked (help shown) text is held same w taken n4 n5 n6 = absurd (no_request words asked (is call.store.contents held).untaken taken)
reported_by words call asked (bad_words shown) text is held same w taken n4 n5 n6 = absurd (no_request words asked (is call.store.contents held).untaken taken)
reported_by words call asked (failed Memory) text is held same w taken n4 n5 n6 = absurd (n5 w.wanted_is)
reported_by words call asked (failed (ReadFault file)) text is held same w taken n4 n5 n6 = absurd (n6 w.wanted_is)
reported_by words call asked (failed (Unfit fault)) text is held same w taken n4 n5 n6 = absurd (n4 w.wanted_is)
reported_by words call asked (reported r) text is held same w taken n4 n5 n6 = record {
  made = r;
  is = λ contents holds. asked_outcome words contents (reported r) asked (is contents holds) taken;
  status_is = w.wanted_is;
  printed = subst (λ (t : List ℕ). IsWritten t call.sink call.sink_after) same w.written;
}

-- words that are taken, and a status that neither refuses nor blames: a report
is_reported : (words : List (List ℕ)) (call : Call) (asked : Request) → HasOutcome words call → request words ≡ Some asked
    → call.status ≢ 4 → call.status ≢ 5 → call.status ≢ 6 → call.status ≢ 7 → IsReported call asked.files
is_reported words call asked has taken n4 n5 n6 n7 =
    reported_by words call asked has.outcome has.shows.text has.is has.held has.shows.text_is (printed_whole words call has n7) taken n4 n5 n6

-- ---- its verdict

module _ (call : Call) (files : Files) (r : Reported) (is : (contents : List ℕ → Option (List ℕ)) → HoldsReads contents call → Reports (texts_of contents files) r) (job_ok : IsJob r.job) (moves_ok : AreMoves r.job r.moves) where
  accepts_by : StartIsSafe → (v : Verdict) (document : Data) → IsReport r.texts r.job r.part r.moves v document → 0 ≡ verdict_status v → AcceptsSafely call files
  accepts_by law (Accept count columns left) document d e = record {
    job = r.job;
    part = r.part;
    moves = r.moves;
    job_ok = job_ok;
    moves_ok = moves_ok;
    all_read = λ contents held. all_read (texts_of contents files) r.texts r.job r.part r.moves (is contents held).agree d.all_read;
    start = law r.job r.part moves_ok.follow.from job_ok d.all_read.under moves_ok.follow.over;
    safe = d.safe;
    by_text = λ contents held. may_go_by_text r.job (contents files.program) r.moves job_ok (all_read (texts_of contents files) r.texts r.job r.part r.moves (is contents held).agree d.all_read).moves_are;
  }
  accepts_by law (Reject reason) document d e = absurd (no 0 3 (omega arith) e)

  none_by : (v : Verdict) (document : Data) → IsReport r.texts r.job r.part r.moves v document → 0 ≡ verdict_status v
      → IsWritten (text_of document) call.sink call.sink_after → PrintsAcceptance call files
  none_by (Accept count columns left) document d e printed = record {
    count = count;
    columns = columns;
    most_left = left;
    prints = record {
      texts = r.texts;
      agree = λ contents held. (is contents held).agree;
      job = r.job;
      part = r.part;
      moves = r.moves;
      job_ok = job_ok;
      moves_ok = moves_ok;
      document = document;
      report = d;
      printed = printed;
    };
    none_fails = subst (λ (found : List Reason). AreFailing r.texts r.job r.part r.moves found d.failing) d.agree.0 d.failing_are;
    none_left = d.agree.1;
    none_too_high = d.agree.2;
  }
  none_by (Reject reason) document d e printed = absurd (no 0 3 (omega arith) e)

  rejects_by : (v : Verdict) (document : Data) → IsReport r.texts r.job r.part r.moves v document → 3 ≡ verdict_status v
      → IsWritten (text_of document) call.sink call.sink_after → (reason : Reason) × PrintsReport call files (Reject reason)
  rejects_by (Accept count columns left) document d e printed = absurd (on 3 0 (omega arith) e)
  rejects_by (Reject reason) document d e printed = (
    reason,
    record {
      texts = r.texts;
      agree = λ contents held. (is contents held).agree;
      job = r.job;
      part = r.part;
      moves = r.moves;
      job_ok = job_ok;
      moves_ok = moves_ok;
      document = document;
      report = d;
      printed = printed;
    },
  )

-- ---- what was read decides the verdict

module _ (job : JobFields) (part : List Tri) (moves : List Move) where
  first_named : (reason : Reason) (others found : List Reason) → found ≡ reason ∷ others → All (NamesLeaf job part (uncut job) moves) found → NamesLeaf job part (uncut job) moves reason
  first_named reason others found same named =
      All-head (NamesLeaf job part (uncut job) moves) reason others (subst (λ (f : List Reason). All (NamesLeaf job part (uncut job) moves) f) same named)

  is_named : (v : Verdict) (found : List Reason) (left : List LeftColumn) (too_high : ℕ) → Agree v found left too_high → All (NamesLeaf job part (uncut job) moves) found → IsNamed job part moves v
  is_named (Accept count columns most) found left too_high agree named = tt
  is_named (Reject (Floor k)) found left too_high agree named = tt
  is_named (Reject (Gouge k t leaf)) found left too_high agree named = first_named (Gouge k t leaf) agree.0 found agree.1 named
  is_named (Reject (Holder k t leaf)) found left too_high agree named = first_named (Holder k t leaf) agree.0 found agree.1 named
  is_named (Reject (Fixture k b leaf)) found left too_high agree named = first_named (Fixture k b leaf) agree.0 found agree.1 named
  is_named (Reject (HolderFixture k b leaf)) found left too_high agree named = first_named (HolderFixture k b leaf) agree.0 found agree.1 named
  is_named (Reject (RapidCut k j i leaf)) found left too_high agree named = first_named (RapidCut k j i leaf) agree.0 found agree.1 named
  is_named (Reject (Cut k j i leaf)) found left too_high agree named = first_named (Cut k j i leaf) agree.0 found agree.1 named
  is_named (Reject (HolderStock k j i leaf)) found left too_high agree named = first_named (HolderStock k j i leaf) agree.0 found agree.1 named
  is_named (Reject (Left j i top)) found left too_high agree named = tt

pub judges : (told : ToldTexts) (texts : Texts) (job : JobFields) (part : List Tri) (moves : List Move) (v : Verdict) (document : Data) → IsJob job → AreMoves job moves → AreTextsOf told texts
    → IsReport texts job part moves v document → Judges told job part moves v
judges told texts job part moves v document job_ok moves_ok agree r = record {
  all_read = all_read told texts job part moves agree r.all_read;
  job_ok = job_ok;
  moves_ok = moves_ok;
  is = r.verdict_is;
  safe = r.safe;
  named = is_named job part moves v r.found r.left r.too_high r.agree r.named;
}

verdict_by : (words : List (List ℕ)) (call : Call) (asked : Request) (contents : List ℕ → Option (List ℕ)) (job : JobFields) (part : List Tri) (moves : List Move) (o : Outcome) → IsOutcomeOf words contents o
    → call.status ≡ outcome_status o → request words ≡ Some asked → AreTold (texts_of contents asked.files) → Reads (texts_of contents asked.files) job part moves
    → call.status ≢ 6 → HasVerdict job part moves call.status ⊎ (call.status ≡ 5)
verdict_by words call asked contents job part moves (help shown) is e taken told read n6 = absurd (no_request words asked is.untaken taken)
verdict_by words call asked contents job part moves (bad_words shown) is e taken told read n6 = absurd (no_request words asked is.untaken taken)
verdict_by words call asked contents job part moves (failed Memory) is e taken told read n6 = inr e
verdict_by words call asked contents job part moves (failed (ReadFault file)) is e taken told read n6 = absurd (n6 e)
verdict_by words call asked contents job part moves (failed (Unfit fault)) is e taken told read n6 =
    let v = is_judged (texts_of contents asked.files) job part moves (unfit fault) told read
    (asked_outcome words contents (failed (Unfit fault)) asked is taken) in
    absurd (verdict_not 4 (no 0 4 (omega arith)) (no 3 4 (omega arith)) v.verdict (sym v.same))
verdict_by words call asked contents job part moves (reported r) is e taken told read n6 =
    let s = asked_outcome words contents (reported r) asked is taken in
    let v = is_judged (texts_of contents asked.files) job part moves (judged r.job r.part r.moves s.is.verdict) told read
    (judges (texts_of contents asked.files) r.texts r.job r.part r.moves s.is.verdict s.is.told s.job_ok s.moves_ok s.agree s.is.report) in
    inl (record { verdict = v.verdict; is = v.is; same = e ∙ s.is.status_is ∙ v.same })

-- files that are told, hold what the reads gave and are read have a verdict, whose status it is, or memory was short
has_verdict : (words : List (List ℕ)) (call : Call) (asked : Request) (contents : List ℕ → Option (List ℕ)) (job : JobFields) (part : List Tri) (moves : List Move) → HasOutcome words call
    → request words ≡ Some asked → HoldsReads contents call → AreTold (texts_of contents asked.files) → Reads (texts_of contents asked.files) job part moves
    → NoFault call → HasVerdict job part moves call.status ⊎ (call.status ≡ 5)
has_verdict words call asked contents job part moves has taken holds told read fine =
    verdict_by words call asked contents job part moves has.outcome (has.is contents holds) (printed_whole words call has (not_7 words call has fine)).wanted_is taken told read
    (not_6 words call has fine)

-- ---- the clauses

zero_three : (n : ℕ) (v : Verdict) → n ≡ verdict_status v → (n ≡ 0) ⊎ ((n ≡ 3) ⊎ (n ≡ 5))
zero_three n (Accept count columns left) e = inl e
zero_three n (Reject reason) e = inr (inl e)

pub completes_of : (words : List (List ℕ)) (call : Call) → HasOutcome words call → Completes words call
completes_of words call has = λ asked contents job part moves taken holds told read fine.
    elim (has_verdict words call asked contents job part moves has taken holds told read fine) [
      | inl v ↦ zero_three call.status v.verdict v.same
      | inr e ↦ inr (inr e)
    ]

pub headline_of : OneVerdict → StartIsSafe → (words : List (List ℕ)) (call : Call) → HasOutcome words call → Headline words call
headline_of one law words call has = record {
  accepts = λ asked taken e.
      let t = is_reported words call asked has taken
      (apart _ 0 4 e (no 0 4 (omega arith))) (apart _ 0 5 e (no 0 5 (omega arith))) (apart _ 0 6 e (no 0 6 (omega arith))) (apart _ 0 7 e (no 0 7 (omega arith))) in
      let r = t.is call.store.contents has.held in
      accepts_by call asked.files t.made t.is r.job_ok r.moves_ok law r.is.verdict r.is.told r.is.report (sym e ∙ t.status_is ∙ r.is.status_is);
  clean = λ asked taken e.
      let t = is_reported words call asked has taken
      (apart _ 0 4 e (no 0 4 (omega arith))) (apart _ 0 5 e (no 0 5 (omega arith))) (apart _ 0 6 e (no 0 6 (omega arith))) (apart _ 0 7 e (no 0 7 (omega arith))) in
      let r = t.is call.store.contents has.held in
      none_by call asked.files t.made t.is r.job_ok r.moves_ok r.is.verdict r.is.told r.is.report (sym e ∙ t.status_is ∙ r.is.status_is)
      (subst (λ (x : List ℕ). IsWritten x call.sink call.sink_after) r.is.text_is t.printed);
  rejects = λ asked taken e.
      let t = is_reported words call asked has taken
      (apart _ 3 4 e (no 3 4 (omega arith))) (apart _ 3 5 e (no 3 5 (omega arith))) (apart _ 3 6 e (no 3 6 (omega arith))) (apart _ 3 7 e (no 3 7 (omega arith))) in
      let r = t.is call.store.contents has.held in
      rejects_by call asked.files t.made t.is r.job_ok r.moves_ok r.is.verdict r.is.told r.is.report (sym e ∙ t.status_is ∙ r.is.status_is)
      (subst (λ (x : List ℕ). IsWritten x call.sink call.sink_after) r.is.text_is t.printed);
  exactly = λ asked contents job part moves reason taken holds told read rejected fine n5.
      elim (has_verdict words call asked contents job part moves has taken holds told read fine) [
        | inl v ↦ v.same ∙ ap verdict_status (one job part moves v.verdict (Reject reason) v.is rejected)
        | inr e ↦ absurd (n5 e)
      ];
}

-- ---- words that aren't taken

refused_by : (words : List (List ℕ)) (call : Call) (o : Outcome) → IsOutcomeOf words call.store.contents o → call.status ≡ outcome_status o → is_taken words ≡ false → call.status ≢ 5
    → ((call.status ≡ 0) × ShowsHelp words) ⊎ ((call.status ≡ 2) × RefusesWords words)
refused_by words call (help shown) is e untaken n5 = inl (e, is)
refused_by words call (bad_words shown) is e untaken n5 = inr (e, is)
refused_by words call (failed Memory) is e untaken n5 = absurd (n5 e)
refused_by words call (failed (ReadFault file)) is e untaken n5 = absurd (no_request words is.asked untaken is.taken)
refused_by words call (failed (Unfit fault)) is e untaken n5 = absurd (no_request words is.asked untaken is.taken)
refused_by words call (reported r) is e untaken n5 = absurd (no_request words is.asked untaken is.taken)

mistaken_by : (words : List (List ℕ)) (call : Call) (o : Outcome) → IsOutcomeOf words call.store.contents o → outcome_status o ≡ 2 → RefusesWords words
mistaken_by words call (help shown) is e = absurd (no 0 2 (omega arith) e)
mistaken_by words call (bad_words shown) is e = is
mistaken_by words call (failed Memory) is e = absurd (on 5 2 (omega arith) e)
mistaken_by words call (failed (ReadFault file)) is e = absurd (on 6 2 (omega arith) e)
mistaken_by words call (failed (Unfit fault)) is e = absurd (on 4 2 (omega arith) e)
mistaken_by words call (reported r) is e =
    absurd (verdict_not 2 (no 0 2 (omega arith)) (on 3 2 (omega arith)) is.is.is.verdict (sym is.is.is.status_is ∙ e))

pub untaken_of : (words : List (List ℕ)) (call : Call) → HasOutcome words call → Untaken words call
untaken_of words call has = record {
  refused = λ untaken fine n5. refused_by words call has.outcome (has.is call.store.contents has.held) (printed_whole words call has (not_7 words call has fine)).wanted_is untaken n5;
  mistaken = λ e.
      let w = printed_whole words call has (λ (seven : call.status ≡ 7). no 2 7 (omega arith) (sym e ∙ seven)) in
      mistaken_by words call has.outcome (has.is call.store.contents has.held) (sym w.wanted_is ∙ e);
}
