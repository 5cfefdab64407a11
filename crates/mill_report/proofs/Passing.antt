-- A row of the uncut stock goes through all moves, and what the rows so far tell of each move.
use Rattle.std.specs.Prelude.{◌≡◌, ◌≢◌, ◌⊎◌, ℕ, ◌+◌, ◌<◌, ◌≤◌, List, [], ◌∷◌, ◌++◌, All, length, take, drop, Option, None, Some, MatchOption, slice_index_or, refl}
use Rattle.std.proofs.Common.{sym, ◌∙◌, ap, subst, inl, inr, ⊎_elim, arith}
use Rattle.std.proofs.lemmas.Bool.{cases_lt}
use Rattle.std.proofs.lemmas.List.{get_or_append_left, get_or_push, length_push, take-append-le, take_all}
use Rattle.std.proofs.lemmas.List.Elements.{All-nil, All-push}
use Rattle.mill_base.specs.declared.motion.Move.{Move}
use Rattle.mill_job.specs.declared.fields.JobFields.{JobFields}
use Rattle.mill_job.specs.Columns.{row_count}
use Rattle.mill_dexel.specs.Rows.{HolderClearsRow, IsRowOf, RowState, uncut_row}
use Rattle.mill_dexel.specs.Stocks.{IsRow, IsStock}
use Rattle.mill_dexel.specs.Tops.{uncut}
use Rattle.mill_dexel.specs.Turns.{ClearsRow, CutClearsRow, IsLeftBy, StopsAt, StopsRow, move_at, row_before, turned}
use Rattle.mill_dexel.specs.declared.fail.RowFail.{RowFail}
use Rattle.mill_dexel.specs.declared.fail.RowTest.{RowTest}
use Rattle.mill_dexel.specs.declared.fail.RowTest.TheVariants as test
use Rattle.mill_dexel.proofs.Blocks.{row_parts}
use Rattle.mill_dexel.proofs.RunLaws.{left_next}
use Rattle.mill_dexel.proofs.Shows.{met_shows}
use Rattle.mill_verify.specs.Tests.{stock_met}
use Rattle.mill_report.specs.inner.Stops.{AreTold, AreToldBy, IsToldBy, StopsRowBy, earlier, first_of, row_met, stop_in, told_with}
use Rattle.mill_report.specs.declared.pass.Stop.{Stop}
use Rattle.mill_report.proofs.Rowwise.{told_on}

-- what is said of each row before the next one
next_of : (P : ℕ → Type 0) (n : ℕ) → ((j : ℕ) → j < n → P j) → P n → (j : ℕ) → j < n + 1 → P j
next_of P n before last j less = ⊎_elim (λ (lt : j < n). before j lt) (λ (le : n ≤ j). let e : n ≡ j = omega (le, less, arith) in subst P e last) (cases_lt j n)

-- ---- one row more tells of a move
module _ (job : JobFields) (rows : ℕ → RowState) (m : Move) (n : ℕ) where
  more_cut : ((j : ℕ) → j < n → CutClearsRow job (rows j) m) → CutClearsRow job (rows n) m → (j : ℕ) → j < n + 1 → CutClearsRow job (rows j) m
  more_cut before last = next_of (λ j. CutClearsRow job (rows j) m) n before last

  more_held : ((j : ℕ) → j < n → HolderClearsRow job (rows j) m) → HolderClearsRow job (rows n) m → (j : ℕ) → j < n + 1 → HolderClearsRow job (rows j) m
  more_held before last = next_of (λ j. HolderClearsRow job (rows j) m) n before last

  under_next : (k : ℕ) → k < n → k < n + 1
  under_next k h = omega (h, arith)

  last_under : n < n + 1
  last_under = omega arith

  -- it lets the move pass
  pub told_clear : (told : Option Stop) → IsToldBy job rows m n told → ClearsRow job (rows n) m → IsToldBy job rows m (n + 1) told
  told_clear None h clears = record { cut = more_cut h.cut clears.cut; holder = more_held h.holder clears.holder }
  told_clear (Some stop) h clears = by stop.test h
    where
      by : (t : RowTest) → StopsRowBy t job rows m n stop → StopsRowBy t job rows m (n + 1) stop
      by test.Cut h = record { there = under_next stop.row h.there; before = h.before; stops = h.stops }
      by test.Holder h = record { there = under_next stop.row h.there; cut = more_cut h.cut clears.cut; before = h.before; stops = h.stops }

  -- or it stops the move, where none before did
  first_stop : (t : RowTest) (fail : RowFail) → IsToldBy job rows m n None → StopsAt t job (rows n) m fail.col fail.leaf → StopsRowBy t job rows m (n + 1) (stop_in n fail)
  first_stop test.Cut fail h s = record { there = last_under; before = h.cut; stops = s }
  first_stop test.Holder fail h s = record { there = last_under; cut = more_cut h.cut s.cut; before = h.holder; stops = s.holder }

  -- or where one did
  abbrev StopsSo : Stop → Type 0
  StopsSo stop = StopsRowBy stop.test job rows m (n + 1) stop

  second_stop : (t u : RowTest) (stop : Stop) (fail : RowFail) → stop.test ≡ t → fail.test ≡ u → StopsRowBy t job rows m n stop → StopsAt u job (rows n) m fail.col fail.leaf
      → StopsSo (earlier t u stop (stop_in n fail))
  second_stop test.Cut u stop fail e f h s =
      subst (λ (v : RowTest). StopsRowBy v job rows m (n + 1) stop) (sym e)
      (record { there = under_next stop.row h.there; before = h.before; stops = h.stops })
  second_stop test.Holder test.Cut stop fail e f h s =
      subst (λ (v : RowTest). StopsRowBy v job rows m (n + 1) (stop_in n fail)) (sym f)
      (record { there = last_under; before = h.cut; stops = s })
  second_stop test.Holder test.Holder stop fail e f h s =
      subst (λ (v : RowTest). StopsRowBy v job rows m (n + 1) stop) (sym e)
      (record { there = under_next stop.row h.there; cut = more_cut h.cut s.cut; before = h.before; stops = h.stops })

  told_stop : (told : Option Stop) (fail : RowFail) → IsToldBy job rows m n told → StopsRow job (rows n) m fail → StopsSo (first_of told (stop_in n fail))
  told_stop None fail h s = first_stop fail.test fail h s.stops
  told_stop (Some stop) fail h s = second_stop stop.test fail.test stop fail refl refl h s.stops

  pub told_more : (told : Option Stop) (fail : Option RowFail) → IsToldBy job rows m n told → MatchOption fail (ClearsRow job (rows n) m) (StopsRow job (rows n) m) → IsToldBy job rows m (n + 1) (told_with n told fail)
  told_more told None h clears = told_clear told h clears
  told_more told (Some fail) h stops = told_stop told fail h stops

-- ---- the turns of one row
abbrev IsToldAt : JobFields → List Move → ℕ → List (Option Stop) → ℕ → Type 0
IsToldAt job moves n stops k = IsToldBy job (row_met job moves k) (move_at moves k) n (slice_index_or stops k None)

-- row j before its turn of move next: it has told of each move before that, and the rows before it of the others
pub record IsPassing (job : JobFields) (moves : List Move) (j next : ℕ) (row : RowState) (stops : List (Option Stop)) : Type 0 where
  pub is : row ≡ row_met job moves next j
  pub is_row : IsRowOf job row
  pub within : next ≤ length moves
  pub count : length stops ≡ length moves
  pub before : (k : ℕ) → k < next → IsToldAt job moves (j + 1) stops k
  pub behind : (k : ℕ) → next ≤ k → k < length moves → IsToldAt job moves j stops k

module _ (job : JobFields) (moves : List Move) (j : ℕ) where
  pub passing_start : (row : RowState) (stops : List (Option Stop)) → row ≡ uncut_row job j → IsRowOf job row → AreToldBy job moves j stops → IsPassing job moves j 0 row stops
  passing_start row stops fresh is_row told = record {
    is = fresh;
    is_row = is_row;
    within = omega arith;
    count = told.count;
    before = λ k less. absurd (omega (less, arith));
    behind = λ k from there. told.each k there;
  }

  module _ (next : ℕ) (row : RowState) (stops : List (Option Stop)) (passing : IsPassing job moves j next row stops) where
    pub row_next : next ≡ row.done
    row_next = sym (ap (λ (r : RowState). r.done) passing.is)

    pub row_unfailed : row.failed ≡ None
    row_unfailed = ap (λ (r : RowState). r.failed) passing.is

    pub row_left : IsLeftBy job moves next row
    row_left = record { start = uncut_row job j; fresh = refl; is = passing.is }

    -- as a further move meets it
    met_same : (k : ℕ) → next ≤ k → row_before job moves row k ≡ row_met job moves k j
    met_same k from =
        let done = row_next in
        row_parts job moves (uncut_row job j) row k (omega arith) (omega (done, from, arith)) (passing.is ∙ ap (λ (n : ℕ). row_met job moves n j) done)

    -- it goes over the moves before move to
    pub passing_over : (new : RowState) (to : ℕ) → next ≤ to → to ≤ length moves → ((k : ℕ) → next ≤ k → k < to → ClearsRow job (row_before job moves row k) (move_at moves k)) → new ≡ row_before job moves row to
        → IsRowOf job new → IsPassing job moves j to new stops
    passing_over new to onward within clears is is_row = record {
      is = is ∙ met_same to onward;
      is_row = is_row;
      within = within;
      count = passing.count;
      before = λ k less. ⊎_elim (λ (lt : k < next). passing.before k lt)
          (λ (from : next ≤ k).
          told_clear job (row_met job moves k) (move_at moves k) j (slice_index_or stops k None) (passing.behind k from (omega (less, within, arith)))
          (subst (λ (r : RowState). ClearsRow job r (move_at moves k)) (met_same k from) (clears k from less)))
          (cases_lt k next);
      behind = λ k from there. passing.behind k (omega (onward, from, arith)) there;
    }

    -- it has its turn of the next move, which it may stop
    pub passing_turn : (new : RowState) (fail : Option RowFail) (noted : List (Option Stop)) → next < length moves
        → MatchOption fail (ClearsRow job row (move_at moves next)) (StopsRow job row (move_at moves next)) → new ≡ turned job (move_at moves next) row → IsRowOf job new
        → length noted ≡ length stops → slice_index_or noted next None ≡ told_with j (slice_index_or stops next None) fail
        → ((k : ℕ) → k ≢ next → slice_index_or noted k None ≡ slice_index_or stops k None) → IsPassing job moves j (next + 1) new noted
    passing_turn new fail noted there told is is_row count here others = record {
      is = is ∙ ap (λ (r : RowState). turned job (move_at moves next) r) passing.is ∙ sym (left_next job moves (uncut_row job j) next refl there);
      is_row = is_row;
      within = omega (there, arith);
      count = count ∙ passing.count;
      before = next_of (IsToldAt job moves (j + 1) noted) next (λ k less. same (j + 1) k (omega (less, arith)) (passing.before k less)) last;
      behind = λ k from in_moves. same j k (omega (from, arith)) (passing.behind k (omega (from, arith)) in_moves);
    }
      where
        same : (n k : ℕ) → k ≢ next → IsToldAt job moves n stops k → IsToldAt job moves n noted k
        same n k apart h = subst (λ (o : Option Stop). IsToldBy job (row_met job moves k) (move_at moves k) n o) (sym (others k apart)) h

        last : IsToldAt job moves (j + 1) noted next
        last =
            subst (λ (o : Option Stop). IsToldBy job (row_met job moves next) (move_at moves next) (j + 1) o) (sym here)
            (told_more job (row_met job moves next) (move_at moves next) j (slice_index_or stops next None) fail (passing.behind next (omega arith) there)
            (subst (λ (r : RowState). MatchOption fail (ClearsRow job r (move_at moves next)) (StopsRow job r (move_at moves next))) passing.is told))

    -- after its last turn
    pub row_ended : length moves ≤ next → row ≡ row_met job moves (length moves) j
    row_ended over = let within = passing.within in let e : next ≡ length moves = omega (over, within, arith) in subst (λ (n : ℕ). row ≡ row_met job moves n j) e passing.is

    pub told_ended : length moves ≤ next → AreToldBy job moves (j + 1) stops
    told_ended over = record { count = passing.count; each = λ k there. passing.before k (omega (over, there, arith)) }

-- ---- row by row

-- the rows before row n have gone through all moves
pub record ArePassedTo (job : JobFields) (moves : List Move) (n : ℕ) (rows : List RowState) (stops : List (Option Stop)) : Type 0 where
  pub count : length rows ≡ n
  pub are : (j : ℕ) (other : RowState) → j < n → slice_index_or rows j other ≡ row_met job moves (length moves) j
  pub rows_ok : All (IsRowOf job) rows
  pub told : AreToldBy job moves n stops

pub passed_none : (job : JobFields) (moves : List Move) (rows : List RowState) (stops : List (Option Stop)) → rows ≡ [] → AreToldBy job moves 0 stops → ArePassedTo job moves 0 rows stops
passed_none job moves rows stops none told = subst (λ (rs : List RowState). ArePassedTo job moves 0 rs stops) (sym none) start
  where
    start : ArePassedTo job moves 0 [] stops
    start = record { count = refl; are = λ j other less. absurd (omega (less, arith)); rows_ok = All-nil (IsRowOf job); told = told }

pub passed_more : (job : JobFields) (moves : List Move) (n : ℕ) (rows : List RowState) (stops noted : List (Option Stop)) (row : RowState) → ArePassedTo job moves n rows stops → IsRowOf job row
    → row ≡ row_met job moves (length moves) n → AreToldBy job moves (n + 1) noted → ArePassedTo job moves (n + 1) (rows ++ row ∷ []) noted
passed_more job moves n rows stops noted row passed is_row is told = record {
  count = length_push rows row ∙ ap (λ (k : ℕ). k + 1) passed.count;
  are = λ j other less. by j other less (cases_lt j n);
  rows_ok = All-push (IsRowOf job) rows row passed.rows_ok is_row;
  told = told;
}
  where
    by : (j : ℕ) (other : RowState) → j < n + 1 → (j < n) ⊎ (n ≤ j) → slice_index_or (rows ++ row ∷ []) j other ≡ row_met job moves (length moves) j
    by j other less (inl before) = get_or_append_left rows (row ∷ []) other j (let c = passed.count in omega (c, before, arith)) ∙ passed.are j other before
    by j other less (inr here) =
        let c = passed.count in
        let e : n ≡ j = omega (here, less, arith) in
        get_or_push rows row other j (omega (c, e, arith)) ∙ is ∙ ap (row_met job moves (length moves)) e

-- all of them show the stock that the moves leave
pub passed_all : (job : JobFields) (moves : List Move) (n : ℕ) (rows : List RowState) (stops : List (Option Stop)) → n ≡ row_count job → ArePassedTo job moves n rows stops → IsStock job moves rows
passed_all job moves n rows stops all passed = record {
  count = passed.count ∙ all;
  rows_ok = λ j other there. subst (IsRow job moves j) (sym (passed.are j other (omega (all, there, arith)))) (shown j);
}
  where
    shown : (j : ℕ) → IsRow job moves j (row_met job moves (length moves) j)
    shown j = subst (λ (ms : List Move). IsRow job ms j (row_met job moves (length moves) j)) (take_all (length moves) moves (omega arith)) (met_shows job (uncut job) j moves (length moves))

-- and what they tell of each move is told of it on the stock that it meets
pub all_told : (job : JobFields) (moves : List Move) (stops : List (Option Stop)) → AreToldBy job moves (row_count job) stops → AreTold job moves stops
all_told job moves stops told = record {
  count = told.count;
  each = λ k there. told_on job (stock_met job (uncut job) moves k) (row_met job moves k) (λ j. met_shows job (uncut job) j moves k) (move_at moves k) (slice_index_or stops k None) (told.each k there);
}

-- a list that was written as a whole is what was written
pub all_written : {A : Type 0} (n : ℕ) (new old : List A) → n ≡ length new → take n (new ++ drop (length new) old) ≡ new
all_written {A} n new old count = take-append-le n new (drop (length new) old) (omega (count, arith)) ∙ take_all n new (omega (count, arith))
