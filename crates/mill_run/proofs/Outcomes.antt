-- What a call came to, where its words are taken and nothing of the outside is blamed.
use Rattle.std.proofs.Common.{◌≡◌, ◌≢◌, ◌⊎◌, ℕ, List, Option, Some, false, sym, ◌∙◌, inl, inr, arith}
use Rattle.mill_command.specs.Requests.{Request, is_taken, request, verify, plan, drop, level, stock, rest, sample}
use Rattle.mill_verify.specs.declared.list.ListVerdict.{ListVerdict}
use Rattle.mill_verify.specs.declared.list.ListVerdict.TheVariants as list
use Rattle.mill_verify.specs.declared.verdict.Verdict.{Verdict}
use Rattle.mill_verify.specs.declared.verdict.Verdict.TheVariants.{Accept, Reject}
use Rattle.mill_run.specs.Answers.{answer_status}
use Rattle.mill_answer.specs.Calls.{Call, HoldsReads, NoFault}
use Rattle.mill_run.specs.Headline.{Answered, Answers, Completes, Untaken}
use Rattle.mill_run.specs.Outcomes.{Outcome, help, bad_words, no_memory, read_fault, answered, outcome_status, IsOutcomeOf, ShowsHelp, RefusesWords, ShowsWhole, HasOutcome}
use Rattle.mill_run.specs.Rest.{list_status}
use Rattle.mill_answer.specs.Verify.{verdict_status}
use Rattle.mill_run.proofs.Answering.{is_judged, is_planned, is_unfed, is_dropped, is_leveled, is_stocked, is_judged_in_turn, is_sampled}
use Rattle.mill_answer.proofs.Counts.{no, on}
use Rattle.mill_run.proofs.Blaming.{answer_not_2, not_6, not_7, shown_whole}
use Rattle.mill_run.proofs.Taken.{not_taken, asked_outcome}

-- ---- words that are taken

served_by : (words : List (List ℕ)) (call : Call) (asked : Request) (o : Outcome) → ((contents : List ℕ → Option (List ℕ)) → HoldsReads contents call → IsOutcomeOf words contents o)
    → HoldsReads call.store.contents call → ShowsWhole call o → request words ≡ Some asked → call.status ≢ 6 → Answered call asked ⊎ (call.status ≡ 5)
served_by words call asked (help text) is own w taken n6 = absurd (not_taken words asked (is call.store.contents own).untaken taken)
served_by words call asked (bad_words text) is own w taken n6 = absurd (not_taken words asked (is call.store.contents own).untaken taken)
served_by words call asked no_memory is own w taken n6 = inr w.status
served_by words call asked (read_fault file) is own w taken n6 = absurd (n6 w.status)
served_by words call asked (answered a) is own w taken n6 = inl (record {
  answer = a;
  is = λ contents held. asked_outcome words contents (answered a) asked (is contents held) taken;
  status = w.status;
  printed = w.printed;
  stored = w.stored;
})

-- a status that blames nothing is the answer's, or tells of memory
pub served : (words : List (List ℕ)) (call : Call) (asked : Request) → HasOutcome words call → request words ≡ Some asked → call.status ≢ 6 → call.status ≢ 7
    → Answered call asked ⊎ (call.status ≡ 5)
served words call asked has taken n6 n7 = served_by words call asked has.outcome has.is has.held (shown_whole call has.outcome has.shows n7) taken n6

pub answered_by : (words : List (List ℕ)) (call : Call) (asked : Request) → HasOutcome words call → request words ≡ Some asked → call.status ≢ 5 → call.status ≢ 6 → call.status ≢ 7
    → Answered call asked
answered_by words call asked has taken n5 n6 n7 = which (served words call asked has taken n6 n7)
  where
    which : Answered call asked ⊎ (call.status ≡ 5) → Answered call asked
    which (inl a) = a
    which (inr e) = absurd (n5 e)

pub answers_of : (words : List (List ℕ)) (call : Call) → HasOutcome words call → Answers words call
answers_of words call has = λ asked taken fine n5. answered_by words call asked has taken n5 (not_6 call has.outcome has.shows fine) (not_7 call has.outcome has.shows fine)

served_fine : (words : List (List ℕ)) (call : Call) (asked : Request) → HasOutcome words call → request words ≡ Some asked → NoFault call → Answered call asked ⊎ (call.status ≡ 5)
served_fine words call asked has taken fine = served words call asked has taken (not_6 call has.outcome has.shows fine) (not_7 call has.outcome has.shows fine)

-- ---- completeness

zero_three : (n : ℕ) (v : Verdict) → n ≡ verdict_status v → (n ≡ 0) ⊎ ((n ≡ 3) ⊎ (n ≡ 5))
zero_three n (Accept count columns left) e = inl e
zero_three n (Reject reason) e = inr (inl e)

list_statuses : (n : ℕ) (v : ListVerdict) → n ≡ list_status v → (n ≡ 0) ⊎ ((n ≡ 3) ⊎ (n ≡ 5))
list_statuses n (list.Accept count moves columns left) e = inl e
list_statuses n (list.Reject file reason) e = inr (inl e)
list_statuses n (list.Left row column top) e = inr (inl e)

plan_statuses : (n m : ℕ) → n ≡ m → (m ≡ 0) ⊎ ((m ≡ 8) ⊎ (m ≡ 9)) → (n ≡ 0) ⊎ ((n ≡ 8) ⊎ ((n ≡ 9) ⊎ (n ≡ 5)))
plan_statuses n m e (inl f) = inl (e ∙ f)
plan_statuses n m e (inr (inl f)) = inr (inl (e ∙ f))
plan_statuses n m e (inr (inr f)) = inr (inr (inl (e ∙ f)))

level_statuses : (n m : ℕ) → n ≡ m → (m ≡ 0) ⊎ (m ≡ 9) → (n ≡ 0) ⊎ ((n ≡ 9) ⊎ (n ≡ 5))
level_statuses n m e (inl f) = inl (e ∙ f)
level_statuses n m e (inr f) = inr (inl (e ∙ f))

pub completes_of : (words : List (List ℕ)) (call : Call) → HasOutcome words call → Completes words call
completes_of words call has = record {
  verifies = λ files contents job part moves asks held told read fine.
      elim (served_fine words call (verify files.job files.part files.program asks.0) has asks.1 fine) [
        | inl a ↦ (let v = is_judged contents files asks.0 job part moves a.answer told read (a.is contents held) in zero_three call.status v.verdict (a.status ∙ v.same))
        | inr e ↦ inr (inr e)
      ];
  plans = λ files contents job part asks held told read off fine.
      elim (served_fine words call (plan files.job files.part files.out asks.0) has asks.1 fine) [
        | inl a ↦ plan_statuses call.status (answer_status a.answer) a.status (is_planned contents files asks.0 job part a.answer told read off (a.is contents held))
        | inr e ↦ inr (inr (inr e))
      ];
  unfed = λ files contents job asks held told read on fine.
      elim (served_fine words call (plan files.job files.part files.out asks.0) has asks.1 fine) [
        | inl a ↦ inl (a.status ∙ is_unfed contents files asks.0 job a.answer told read on (a.is contents held))
        | inr e ↦ inr e
      ];
  drops = λ given contents place job part asks reads held told read fine.
      elim (served_fine words call (drop given.job given.part given.x given.y) has asks fine) [
        | inl a ↦ inl (a.status ∙ is_dropped contents given place job part a.answer reads told read (a.is contents held))
        | inr e ↦ inr e
      ];
  levels = λ given contents height job part asks reads held told read fine.
      elim (served_fine words call (level given.job given.part given.z) has asks fine) [
        | inl a ↦ level_statuses call.status (answer_status a.answer) a.status (is_leveled contents given height job part a.answer reads told read (a.is contents held))
        | inr e ↦ inr (inr e)
      ];
  stocks = λ files contents job moves asks held told read fine.
      elim (served_fine words call (stock files.job files.program files.out) has asks fine) [
        | inl a ↦ level_statuses call.status (answer_status a.answer) a.status (is_stocked contents files job moves a.answer told read (a.is contents held))
        | inr e ↦ inr (inr e)
      ];
  rests = λ names contents job part steps files asks held told read fine.
      elim (served_fine words call (rest names.job names.part names.list asks.0) has asks.1 fine) [
        | inl a ↦ (let v = is_judged_in_turn contents names asks.0 job part steps files a.answer told read (a.is contents held) in list_statuses call.status v.verdict (a.status ∙ v.same))
        | inr e ↦ inr (inr e)
      ];
  samples = λ n asks fine.
      elim (served_fine words call (sample n asks.0) has asks.1 fine) [
        | inl a ↦ plan_statuses call.status (answer_status a.answer) a.status (is_sampled call.store.contents n asks.0 a.answer (a.is call.store.contents has.held))
        | inr e ↦ inr (inr (inr e))
      ];
}

-- ---- words that aren't taken

refused_by : (words : List (List ℕ)) (call : Call) (o : Outcome) → IsOutcomeOf words call.store.contents o → ShowsWhole call o → is_taken words ≡ false → call.status ≢ 5
    → ((call.status ≡ 0) × ShowsHelp words) ⊎ ((call.status ≡ 2) × RefusesWords words)
refused_by words call (help text) is w untaken n5 = inl (w.status, is)
refused_by words call (bad_words text) is w untaken n5 = inr (w.status, is)
refused_by words call no_memory is w untaken n5 = absurd (n5 w.status)
refused_by words call (read_fault file) is w untaken n5 = absurd (not_taken words is.asked untaken is.taken)
refused_by words call (answered a) is w untaken n5 = absurd (not_taken words is.asked untaken is.taken)

mistaken_by : (words : List (List ℕ)) (call : Call) (o : Outcome) → IsOutcomeOf words call.store.contents o → outcome_status o ≡ 2 → RefusesWords words
mistaken_by words call (help text) is e = absurd (no 0 2 (omega arith) e)
mistaken_by words call (bad_words text) is e = is
mistaken_by words call no_memory is e = absurd (on 5 2 (omega arith) e)
mistaken_by words call (read_fault file) is e = absurd (on 6 2 (omega arith) e)
mistaken_by words call (answered a) is e = absurd (answer_not_2 a e)

pub untaken_of : (words : List (List ℕ)) (call : Call) → HasOutcome words call → Untaken words call
untaken_of words call has = record {
  refused = λ untaken fine n5. refused_by words call has.outcome (has.is call.store.contents has.held) (shown_whole call has.outcome has.shows (not_7 call has.outcome has.shows fine)) untaken n5;
  mistaken = λ e.
      let w = shown_whole call has.outcome has.shows (λ (seven : call.status ≡ 7). no 2 7 (omega arith) (sym e ∙ seven)) in
      mistaken_by words call has.outcome (has.is call.store.contents has.held) (sym w.status ∙ e);
}
