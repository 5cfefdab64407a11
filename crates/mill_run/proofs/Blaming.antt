-- How an outcome is shown gives the status, and which counts of faults rose.
use Rattle.std.proofs.Common.{◌≡◌, ◌≢◌, ◌⊎◌, ℕ, List, Option, Some, None, refl, sym, subst, ◌∙◌, inl, inr, arith}
use Rattle.std.specs.Prelude.{◌<◌}
use Rattle.mill_io.specs.Views.{ReadsOnly}
use Rattle.mill_command.specs.Requests.{Request, verify, plan, drop, level, stock, rest, sample, request}
use Rattle.mill_plan.specs.Plans.{done, too_many_nodes, too_many_moves, uncut, held}
use Rattle.mill_verify.specs.declared.list.ListVerdict.TheVariants as list
use Rattle.mill_verify.specs.declared.verdict.Verdict.TheVariants.{Accept, Reject}
use Rattle.mill_run.specs.Answers.{Answer, refused_word, unfit, judged, planned, dropped, leveled, stocked, judged_files, sampled, answer_status, answer_file, IsAnswer, NamedText}
use Rattle.mill_answer.specs.Calls.{Call, NoFault, BlamesWrites, BlamesReads}
use Rattle.mill_run.specs.Outcomes.{Stores, Outcome, help, bad_words, no_memory, read_fault, answered, outcome_status, outcome_file, IsOutcomeOf, ShowsWhole, FailsToStore, FailsToPrint, CountsReads, Shows, HasOutcome}
use Rattle.mill_run.specs.Level.{outlines, too_many_nodes as too_fine}
use Rattle.mill_run.specs.Stock.{drawn, too_many_triangles}
use Rattle.mill_run.specs.Words.{AsksNoFileStored}
use Rattle.mill_answer.proofs.Counts.{stays, no, on}

none_some : (file : NamedText) → (let o : Option NamedText = None in o) ≡ Some file → ⊥
none_some file e = cc

-- ---- statuses

-- an answer's status is one of five
pub status_not : (n : ℕ) → 0 ≢ n → 3 ≢ n → 4 ≢ n → 8 ≢ n → 9 ≢ n → (a : Answer) → answer_status a ≢ n
status_not n n0 n3 n4 n8 n9 (refused_word coordinate fault) e = n4 e
status_not n n0 n3 n4 n8 n9 (unfit fault) e = n4 e
status_not n n0 n3 n4 n8 n9 (judged job part moves (Accept count columns left)) e = n0 e
status_not n n0 n3 n4 n8 n9 (judged job part moves (Reject reason)) e = n3 e
status_not n n0 n3 n4 n8 n9 (planned j p name (done text moves columns left)) e = n0 e
status_not n n0 n3 n4 n8 n9 (planned j p name (uncut row column top)) e = n8 e
status_not n n0 n3 n4 n8 n9 (planned j p name (held number row column)) e = n8 e
status_not n n0 n3 n4 n8 n9 (planned j p name (too_many_nodes nodes)) e = n9 e
status_not n n0 n3 n4 n8 n9 (planned j p name too_many_moves) e = n9 e
status_not n n0 n3 n4 n8 n9 (dropped unit height) e = n0 e
status_not n n0 n3 n4 n8 n9 (leveled unit (outlines found)) e = n0 e
status_not n n0 n3 n4 n8 n9 (leveled unit (too_fine nodes)) e = n9 e
status_not n n0 n3 n4 n8 n9 (stocked j m name (drawn text count)) e = n0 e
status_not n n0 n3 n4 n8 n9 (stocked j m name (too_many_triangles count)) e = n9 e
status_not n n0 n3 n4 n8 n9 (judged_files job part steps files (list.Accept count moves columns left)) e = n0 e
status_not n n0 n3 n4 n8 n9 (judged_files job part steps files (list.Reject file reason)) e = n3 e
status_not n n0 n3 n4 n8 n9 (judged_files job part steps files (list.Left row column top)) e = n3 e
status_not n n0 n3 n4 n8 n9 (sampled size (done text moves columns left)) e = n0 e
status_not n n0 n3 n4 n8 n9 (sampled size (uncut row column top)) e = n8 e
status_not n n0 n3 n4 n8 n9 (sampled size (held number row column)) e = n8 e
status_not n n0 n3 n4 n8 n9 (sampled size (too_many_nodes nodes)) e = n9 e
status_not n n0 n3 n4 n8 n9 (sampled size too_many_moves) e = n9 e

pub answer_not_2 : (a : Answer) → answer_status a ≢ 2
answer_not_2 = status_not 2 (no 0 2 (omega arith)) (on 3 2 (omega arith)) (on 4 2 (omega arith)) (on 8 2 (omega arith)) (on 9 2 (omega arith))

answer_not_6 : (a : Answer) → answer_status a ≢ 6
answer_not_6 = status_not 6 (no 0 6 (omega arith)) (no 3 6 (omega arith)) (no 4 6 (omega arith)) (on 8 6 (omega arith)) (on 9 6 (omega arith))

answer_not_7 : (a : Answer) → answer_status a ≢ 7
answer_not_7 = status_not 7 (no 0 7 (omega arith)) (no 3 7 (omega arith)) (no 4 7 (omega arith)) (on 8 7 (omega arith)) (on 9 7 (omega arith))

-- no outcome has the status of a failed write
outcome_not_7 : (o : Outcome) → outcome_status o ≢ 7
outcome_not_7 (help text) = no 0 7 (omega arith)
outcome_not_7 (bad_words text) = no 2 7 (omega arith)
outcome_not_7 no_memory = no 5 7 (omega arith)
outcome_not_7 (read_fault file) = no 6 7 (omega arith)
outcome_not_7 (answered a) = answer_not_7 a

-- a read fault alone has status 6, and with it alone the count of failed reads rises
six_reads : (o : Outcome) (a b : ℕ) → outcome_status o ≡ 6 → CountsReads o a b → a < b
six_reads (help text) a b e r = absurd (no 0 6 (omega arith) e)
six_reads (bad_words text) a b e r = absurd (no 2 6 (omega arith) e)
six_reads no_memory a b e r = absurd (no 5 6 (omega arith) e)
six_reads (read_fault file) a b e r = r
six_reads (answered answer) a b e r = absurd (answer_not_6 answer e)

rose_six : (o : Outcome) (a b : ℕ) → a < b → CountsReads o a b → outcome_status o ≡ 6
rose_six (help text) a b rose r = absurd (stays a b rose r)
rose_six (bad_words text) a b rose r = absurd (stays a b rose r)
rose_six no_memory a b rose r = absurd (stays a b rose r)
rose_six (read_fault file) a b rose r = refl
rose_six (answered answer) a b rose r = absurd (stays a b rose r)

-- where a text is to be stored, no read failed
file_reads : (o : Outcome) (file : NamedText) (a b : ℕ) → outcome_file o ≡ Some file → CountsReads o a b → b ≡ a
file_reads (help text) file a b e r = r
file_reads (bad_words text) file a b e r = r
file_reads no_memory file a b e r = r
file_reads (read_fault f) file a b e r = absurd (none_some file e)
file_reads (answered answer) file a b e r = r

-- ---- blame

stores_writes : (call : Call) (file : Option NamedText) → Stores call file → call.store_after.write_faults ≡ call.store.write_faults
stores_writes call None s = s.write_faults
stores_writes call (Some file) s = s.write_faults

pub blames_writes : (call : Call) (o : Outcome) → Shows call o → BlamesWrites call
blames_writes call o shows = (to shows.way, from shows.way)
  where
    to : ShowsWhole call o ⊎ (FailsToStore call o ⊎ FailsToPrint call o) → call.status ≡ 7
        → (call.store.write_faults < call.store_after.write_faults) ⊎ (call.sink.faults < call.sink_after.faults)
    to (inl w) e = absurd (outcome_not_7 o (sym w.status ∙ e))
    to (inr (inl f)) e = inl f.risen
    to (inr (inr f)) e = inr f.risen

    from : ShowsWhole call o ⊎ (FailsToStore call o ⊎ FailsToPrint call o)
        → (call.store.write_faults < call.store_after.write_faults) ⊎ (call.sink.faults < call.sink_after.faults) → call.status ≡ 7
    from (inl w) (inl rose) = absurd (stays _ _ rose (stores_writes call (outcome_file o) w.stored))
    from (inl w) (inr rose) = absurd (stays _ _ rose w.printed.faults)
    from (inr (inl f)) rose = f.status
    from (inr (inr f)) rose = f.status

pub blames_reads : (call : Call) (o : Outcome) → Shows call o → BlamesReads call
blames_reads call o shows = (to shows.way, from shows.way)
  where
    to : ShowsWhole call o ⊎ (FailsToStore call o ⊎ FailsToPrint call o) → call.status ≡ 6
        → (call.store.read_faults < call.store_after.read_faults) × (call.sink_after.faults ≡ call.sink.faults)
    to (inl w) e = (six_reads o _ _ (sym w.status ∙ e) shows.reads, w.printed.faults)
    to (inr (inl f)) e = absurd (on 7 6 (omega arith) (sym f.status ∙ e))
    to (inr (inr f)) e = absurd (on 7 6 (omega arith) (sym f.status ∙ e))

    from : ShowsWhole call o ⊎ (FailsToStore call o ⊎ FailsToPrint call o)
        → (call.store.read_faults < call.store_after.read_faults) × (call.sink_after.faults ≡ call.sink.faults) → call.status ≡ 6
    from (inl w) rose = w.status ∙ rose_six o _ _ rose.0 shows.reads
    from (inr (inl f)) rose = absurd (stays _ _ rose.0 (file_reads o f.file _ _ f.text_is shows.reads))
    from (inr (inr f)) rose = absurd (stays _ _ f.risen rose.1)

-- nothing of the outside is blamed where nothing failed
pub not_7 : (call : Call) (o : Outcome) → Shows call o → NoFault call → call.status ≢ 7
not_7 call o shows fine e = which ((blames_writes call o shows).0 e)
  where
    which : (call.store.write_faults < call.store_after.write_faults) ⊎ (call.sink.faults < call.sink_after.faults) → ⊥
    which (inl rose) = stays _ _ rose fine.writes
    which (inr rose) = stays _ _ rose fine.prints

pub not_6 : (call : Call) (o : Outcome) → Shows call o → NoFault call → call.status ≢ 6
not_6 call o shows fine e = stays _ _ ((blames_reads call o shows).0 e).0 fine.reads

-- a status other than 7 is the outcome's, which is shown whole
pub shown_whole : (call : Call) (o : Outcome) → Shows call o → call.status ≢ 7 → ShowsWhole call o
shown_whole call o shows n7 = which shows.way
  where
    which : ShowsWhole call o ⊎ (FailsToStore call o ⊎ FailsToPrint call o) → ShowsWhole call o
    which (inl w) = w
    which (inr (inl f)) = absurd (n7 f.status)
    which (inr (inr f)) = absurd (n7 f.status)

-- ---- what is stored

-- programs and stocks alone are stored, and `plan` and `stock` alone have them
answer_stores : (contents : List ℕ → Option (List ℕ)) (words : List (List ℕ)) (asked : Request) (a : Answer) → request words ≡ Some asked → AsksNoFileStored words
    → IsAnswer contents asked a → answer_file a ≡ None
answer_stores contents words asked (refused_word coordinate fault) taken nothing h = refl
answer_stores contents words asked (unfit fault) taken nothing h = refl
answer_stores contents words asked (judged job part moves verdict) taken nothing h = refl
answer_stores contents words (verify job part program workers) (planned j p name answer) taken nothing h = absurd h
answer_stores contents words (plan job part out workers) (planned j p name answer) taken nothing h = absurd (nothing.no_plan (record { job = job; part = part; out = out }) (workers, taken))
answer_stores contents words (drop job part x y) (planned j p name answer) taken nothing h = absurd h
answer_stores contents words (level job part z) (planned j p name answer) taken nothing h = absurd h
answer_stores contents words (stock job program out) (planned j p name answer) taken nothing h = absurd h
answer_stores contents words (rest job part list workers) (planned j p name answer) taken nothing h = absurd h
answer_stores contents words (sample n workers) (planned j p name answer) taken nothing h = absurd h
answer_stores contents words asked (dropped unit height) taken nothing h = refl
answer_stores contents words asked (leveled unit answer) taken nothing h = refl
answer_stores contents words (verify job part program workers) (stocked j m name answer) taken nothing h = absurd h
answer_stores contents words (plan job part out workers) (stocked j m name answer) taken nothing h = absurd h
answer_stores contents words (drop job part x y) (stocked j m name answer) taken nothing h = absurd h
answer_stores contents words (level job part z) (stocked j m name answer) taken nothing h = absurd h
answer_stores contents words (stock job program out) (stocked j m name answer) taken nothing h = absurd (nothing.no_stock (record { job = job; program = program; out = out }) taken)
answer_stores contents words (rest job part list workers) (stocked j m name answer) taken nothing h = absurd h
answer_stores contents words (sample n workers) (stocked j m name answer) taken nothing h = absurd h
answer_stores contents words asked (judged_files job part steps files verdict) taken nothing h = refl
answer_stores contents words asked (sampled n answer) taken nothing h = refl

outcome_stores : (contents : List ℕ → Option (List ℕ)) (words : List (List ℕ)) (o : Outcome) → AsksNoFileStored words → IsOutcomeOf words contents o → outcome_file o ≡ None
outcome_stores contents words (help text) nothing h = refl
outcome_stores contents words (bad_words text) nothing h = refl
outcome_stores contents words no_memory nothing h = refl
outcome_stores contents words (read_fault file) nothing h = refl
outcome_stores contents words (answered a) nothing h = answer_stores contents words h.asked a h.taken nothing h.is

pub keeps : (words : List (List ℕ)) (call : Call) → HasOutcome words call → AsksNoFileStored words → ReadsOnly call.store call.store_after
keeps words call has nothing = which has.shows.way
  where
    none : outcome_file has.outcome ≡ None
    none = outcome_stores call.store.contents words has.outcome nothing (has.is call.store.contents has.held)

    which : ShowsWhole call has.outcome ⊎ (FailsToStore call has.outcome ⊎ FailsToPrint call has.outcome) → ReadsOnly call.store call.store_after
    which (inl w) = subst (λ (f : Option NamedText). Stores call f) none w.stored
    which (inr (inl f)) = absurd (none_some f.file (sym none ∙ f.text_is))
    which (inr (inr f)) = subst (λ (t : Option NamedText). Stores call t) none f.stored
