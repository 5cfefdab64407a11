-- How an outcome is told gives the status, and which counts of faults rose.
use Rattle.std.proofs.Common.{◌≡◌, ◌≢◌, ◌⊎◌, ℕ, List, Option, refl, sym, ◌∙◌, inl, inr, arith}
use Rattle.std.specs.Prelude.{◌<◌}
use Rattle.mill_answer.specs.Prints.{Prints, PrintsWhole}
use Rattle.mill_load.specs.declared.load.LoadFault.TheVariants.{Memory, ReadFault, Unfit}
use Rattle.mill_report_run.specs.Outcomes.{CountsReads, HasOutcome, IsOutcomeOf, Outcome, Shows, bad_words, failed, help, outcome_status, reported}
use Rattle.mill_answer.proofs.Counts.{no, on, stays}
use Rattle.mill_answer.specs.Calls.{BlamesFaults, BlamesReads, BlamesWrites, Call, NoFault}
use Rattle.mill_answer.specs.Verify.{verdict_status}
use Rattle.mill_verify.specs.declared.verdict.Verdict.{Verdict}
use Rattle.mill_verify.specs.declared.verdict.Verdict.TheVariants.{Accept, Reject}

-- ---- statuses

-- a verdict's status is one of two
pub verdict_not : (n : ℕ) → 0 ≢ n → 3 ≢ n → (v : Verdict) → verdict_status v ≢ n
verdict_not n n0 n3 (Accept count columns left) e = n0 e
verdict_not n n0 n3 (Reject reason) e = n3 e

-- no outcome has the status of a failed write
outcome_not_7 : (words : List (List ℕ)) (contents : List ℕ → Option (List ℕ)) (o : Outcome) → IsOutcomeOf words contents o → outcome_status o ≢ 7
outcome_not_7 words contents (help shown) is = no 0 7 (omega arith)
outcome_not_7 words contents (bad_words shown) is = no 2 7 (omega arith)
outcome_not_7 words contents (failed Memory) is = no 5 7 (omega arith)
outcome_not_7 words contents (failed (ReadFault file)) is = no 6 7 (omega arith)
outcome_not_7 words contents (failed (Unfit fault)) is = no 4 7 (omega arith)
outcome_not_7 words contents (reported r) is =
    λ e. verdict_not 7 (no 0 7 (omega arith)) (no 3 7 (omega arith)) is.is.is.verdict (sym is.is.is.status_is ∙ e)

-- a read fault alone has status 6, and with it alone the count of failed reads rises
six_reads : (words : List (List ℕ)) (contents : List ℕ → Option (List ℕ)) (o : Outcome) (a b : ℕ) → IsOutcomeOf words contents o → outcome_status o ≡ 6 → CountsReads o a b → a < b
six_reads words contents (help shown) a b is e r = absurd (no 0 6 (omega arith) e)
six_reads words contents (bad_words shown) a b is e r = absurd (no 2 6 (omega arith) e)
six_reads words contents (failed Memory) a b is e r = absurd (no 5 6 (omega arith) e)
six_reads words contents (failed (ReadFault file)) a b is e r = r
six_reads words contents (failed (Unfit fault)) a b is e r = absurd (no 4 6 (omega arith) e)
six_reads words contents (reported made) a b is e r =
    absurd (verdict_not 6 (no 0 6 (omega arith)) (no 3 6 (omega arith)) is.is.is.verdict (sym is.is.is.status_is ∙ e))

rose_six : (o : Outcome) (a b : ℕ) → a < b → CountsReads o a b → outcome_status o ≡ 6
rose_six (help shown) a b rose r = absurd (stays a b rose r)
rose_six (bad_words shown) a b rose r = absurd (stays a b rose r)
rose_six (failed Memory) a b rose r = absurd (stays a b rose r)
rose_six (failed (ReadFault file)) a b rose r = refl
rose_six (failed (Unfit fault)) a b rose r = absurd (stays a b rose r)
rose_six (reported made) a b rose r = absurd (stays a b rose r)

-- ---- blame

shown_writes : (call : Call) (o : Outcome) → Shows call o → outcome_status o ≢ 7 → BlamesWrites call
shown_writes call o shows other = (to shows.printed, from shows.printed)
  where
    to : Prints shows.text (outcome_status o) call.status call.sink call.sink_after → call.status ≡ 7
        → (call.store.write_faults < call.store_after.write_faults) ⊎ (call.sink.faults < call.sink_after.faults)
    to (inl w) e = absurd (other (sym w.wanted_is ∙ e))
    to (inr p) e = inr p.risen

    from : Prints shows.text (outcome_status o) call.status call.sink call.sink_after
        → (call.store.write_faults < call.store_after.write_faults) ⊎ (call.sink.faults < call.sink_after.faults) → call.status ≡ 7
    from (inl w) (inl rose) = absurd (stays _ _ rose shows.only.write_faults)
    from (inl w) (inr rose) = absurd (stays _ _ rose w.written.faults)
    from (inr p) rose = p.failed

shown_reads : (call : Call) (o : Outcome) → Shows call o → (outcome_status o ≡ 6 → call.store.read_faults < call.store_after.read_faults) → BlamesReads call
shown_reads call o shows six = (to shows.printed, from shows.printed)
  where
    to : Prints shows.text (outcome_status o) call.status call.sink call.sink_after → call.status ≡ 6
        → (call.store.read_faults < call.store_after.read_faults) × (call.sink_after.faults ≡ call.sink.faults)
    to (inl w) e = (six (sym w.wanted_is ∙ e), w.written.faults)
    to (inr p) e = absurd (on 7 6 (omega arith) (sym p.failed ∙ e))

    from : Prints shows.text (outcome_status o) call.status call.sink call.sink_after
        → (call.store.read_faults < call.store_after.read_faults) × (call.sink_after.faults ≡ call.sink.faults) → call.status ≡ 6
    from (inl w) rose = w.wanted_is ∙ rose_six o _ _ rose.0 shows.reads
    from (inr p) rose = absurd (stays _ _ p.risen rose.1)

-- the contents that the store tells hold what was read, and the outcome is right by them
pub blames : (words : List (List ℕ)) (call : Call) → HasOutcome words call → BlamesFaults call
blames words call has =
    let is : IsOutcomeOf words call.store.contents has.outcome = has.is call.store.contents has.held in
    record {
      write = shown_writes call has.outcome has.shows (outcome_not_7 words call.store.contents has.outcome is);
      read = shown_reads call has.outcome has.shows (λ e. six_reads words call.store.contents has.outcome _ _ is e has.shows.reads);
    }

-- that memory was short blames nothing else
pub short_blames : (call : Call) → Shows call (failed Memory) → BlamesFaults call
short_blames call shows = record {
  write = shown_writes call (failed Memory) shows (no 5 7 (omega arith));
  read = shown_reads call (failed Memory) shows (λ e. absurd (no 5 6 (omega arith) e));
}

-- nothing of the outside is blamed where nothing failed
pub not_7 : (words : List (List ℕ)) (call : Call) → HasOutcome words call → NoFault call → call.status ≢ 7
not_7 words call has fine e = which ((blames words call has).write.0 e)
  where
    which : (call.store.write_faults < call.store_after.write_faults) ⊎ (call.sink.faults < call.sink_after.faults) → ⊥
    which (inl rose) = stays _ _ rose fine.writes
    which (inr rose) = stays _ _ rose fine.prints

pub not_6 : (words : List (List ℕ)) (call : Call) → HasOutcome words call → NoFault call → call.status ≢ 6
not_6 words call has fine e = stays _ _ ((blames words call has).read.0 e).0 fine.reads

-- a status other than 7 is the outcome's, of which the text is printed whole
pub printed_whole : (words : List (List ℕ)) (call : Call) (has : HasOutcome words call) → call.status ≢ 7
    → PrintsWhole has.shows.text (outcome_status has.outcome) call.status call.sink call.sink_after
printed_whole words call has n7 = which has.shows.printed
  where
    which : Prints has.shows.text (outcome_status has.outcome) call.status call.sink call.sink_after
        → PrintsWhole has.shows.text (outcome_status has.outcome) call.status call.sink call.sink_after
    which (inl w) = w
    which (inr p) = absurd (n7 p.failed)
