-- The laws of the findings and the columns left.
use Rattle.std.specs.Prelude.{◌≡◌, ℕ, ◌+◌, ◌*◌, ◌<◌, ◌≤◌, ℤ, List, [], ◌∷◌, length, refl, take}
use Rattle.std.proofs.Common.{sym, ◌∙◌, ap, subst, ⊎_elim, arith}
use Rattle.std.proofs.lemmas.Nat.{row_fits}
use Rattle.mill_base.specs.declared.points.Tri.{Tri}
use Rattle.mill_base.specs.declared.motion.Move.{Move}
use Rattle.mill_job.specs.declared.fields.JobFields.{JobFields}
use Rattle.mill_job.specs.Columns.{IsBefore, IsColumn, column_count, row_count}
use Rattle.mill_dexel.specs.Tops.{Stock, stock_after, uncut}
use Rattle.mill_verify.specs.Tests.{IsCutOn, IsGood}
use Rattle.mill_verify.specs.Verdicts.{OneVerdict}
use Rattle.mill_verify.specs.declared.verdict.Reason.{Reason}
use Rattle.mill_verify.specs.declared.verdict.Verdict.{Verdict}
use Rattle.mill_verify.specs.declared.verdict.Verdict.TheVariants.{Accept, Reject}
use Rattle.mill_report.specs.Columns.{AreLeft, IsCutAt, IsLeftColumn, column_number}
use Rattle.mill_report.specs.Findings.{AreFindings, IsFinding, move_of}
use Rattle.mill_report.specs.Laws.{AcceptedHasNothing, FirstIsVerdict, FirstLeftIsVerdict, NothingIsAccepted, OneLeft, OneList, VerdictIsFirst}
use Rattle.mill_report.specs.declared.left.LeftColumn.{LeftColumn}
use Rattle.mill_report.specs.declared.left.TheConstants.{MAX_LEFT}
use Rattle.mill_verify.proofs.Unique.{moves_fail, not_before}
use Rattle.mill_report.proofs.Alone.{finding_fails, one_finding, rejected_met}
use Rattle.mill_report.proofs.Listed.{all_bare, before_first, first_is, none_listed, one_listing}

pub one_list : OneList
one_list job part moves a b h g = one_listing Reason move_of (IsFinding job part moves) (IsGood job part moves) (finding_fails job part moves) (one_finding job part moves) (length moves) a b h g

pub first_is_verdict : FirstIsVerdict
first_is_verdict job part moves reason rest h =
    let is = first_is Reason move_of (IsFinding job part moves) (IsGood job part moves) (length moves) reason rest h in
    rejected_met job part moves reason is.fails.of_move is.there
    (before_first Reason move_of (IsFinding job part moves) (IsGood job part moves) (length moves) reason rest h) is.fails.rejects

-- without findings every move is good
good_all : (job : JobFields) (part : List Tri) (moves : List Move) → AreFindings job part moves [] → (k : ℕ) → k < length moves → IsGood job part moves k
good_all job part moves h = none_listed Reason move_of (IsFinding job part moves) (IsGood job part moves) (length moves) h

same_reason : {r s : Reason} → Reject r ≡ Reject s → r ≡ s
same_reason {r} {s} e = ap by e
  where
    by : Verdict → Reason
    by (Accept count columns left) = r
    by (Reject reason) = reason

pub verdict_is_first : OneVerdict → VerdictIsFirst
verdict_is_first one job part moves reason [] h of_move v =
    absurd (moves_fail job part (uncut job) moves reason of_move v (good_all job part moves h))
verdict_is_first one job part moves reason (first ∷ rest) h of_move v =
    let e = one job part moves (Reject first) (Reject reason) (first_is_verdict job part moves first rest h) v in
    (rest, ap (λ (r : Reason). r ∷ rest) (same_reason e))

-- ---- columns

-- a place in a row is before what the row's end is no further than
row_before : (start end n i : ℕ) → start + n ≤ end → i < n → start + i < end
row_before start end n i fits within = omega (fits, within, arith)

module _ (job : JobFields) (part : List Tri) (stock : Stock) where
  abbrev number : LeftColumn → ℕ
  number c = column_number job c.row c.col

  -- a column's number is one of theirs
  numbered_under : (j i : ℕ) → IsColumn job j i → column_number job j i < row_count job * column_count job
  numbered_under j i c = row_before (j * column_count job) (row_count job * column_count job) (column_count job) i (row_fits j (column_count job) (row_count job) (column_count job) c.row (omega arith)) c.column

  -- and comes before another's as the column does
  number_before : (a b j i : ℕ) → b < column_count job → IsBefore a b j i → column_number job a b < column_number job j i
  number_before a b j i column before = ⊎_elim (λ row. rows row) (λ same. cols same.0 same.1) before
    where
      rows : a < j → column_number job a b < column_number job j i
      rows h =
          let fits = row_before (a * column_count job) (j * column_count job) (column_count job) b (row_fits a (column_count job) j (column_count job) h (omega arith)) column in
          omega (fits, arith)

      cols : a ≡ j → b < i → column_number job a b < column_number job j i
      cols e h = subst (λ (n : ℕ). column_number job a b < column_number job n i) e (omega (h, arith))

  -- so a number is of one column
  pub same_place : (j i a b : ℕ) → IsColumn job j i → IsColumn job a b → column_number job j i ≡ column_number job a b → (j ≡ a) × (i ≡ b)
  same_place j i a b h g e =
      not_before j i a b
      (λ before. let less = number_before j i a b h.column before in omega (less, e, arith))
      (λ before. let less = number_before a b j i g.column before in omega (less, e, arith))

  -- and a column left too high has one top
  one_column : (c d : LeftColumn) → IsLeftColumn job part stock c → IsLeftColumn job part stock d → number c ≡ number d → c ≡ d
  one_column c d h g e =
      let at = same_place c.row c.col d.row d.col h.column g.column e in
      let top : c.top ≡ d.top = h.shown ∙ ap (λ (j : ℕ). stock j c.col) at.0 ∙ ap (λ (i : ℕ). stock d.row i) at.1 ∙ sym g.shown in
      ap (λ (j : ℕ). made j c.col c.top) at.0 ∙ ap (λ (i : ℕ). made d.row i c.top) at.1 ∙ ap (λ (t : ℤ). made d.row d.col t) top
    where
      made : ℕ → ℕ → ℤ → LeftColumn
      made j i t = record { row = j; col = i; top = t }

  left_fails : (c : LeftColumn) → IsLeftColumn job part stock c → ¬ IsCutAt job part stock (number c)
  left_fails c h cut = h.fails (cut c.row c.col h.column refl)

  cut_all : AreLeft job part stock [] → (j i : ℕ) → IsColumn job j i → IsCutOn job part stock j i
  cut_all h j i c = none_listed LeftColumn number (IsLeftColumn job part stock) (IsCutAt job part stock) (row_count job * column_count job) h (column_number job j i) (numbered_under j i c) j i c refl

  cut_before : (first : LeftColumn) (rest : List LeftColumn) → AreLeft job part stock (first ∷ rest) → (a b : ℕ) → IsColumn job a b → IsBefore a b first.row first.col → IsCutOn job part stock a b
  cut_before first rest h a b c before =
      before_first LeftColumn number (IsLeftColumn job part stock) (IsCutAt job part stock) (row_count job * column_count job) first rest h (column_number job a b) (number_before a b first.row first.col c.column before) a b c refl

  nothing_left : (left : List LeftColumn) → AreLeft job part stock left → ((j i : ℕ) → IsColumn job j i → IsCutOn job part stock j i) → left ≡ []
  nothing_left left h cut = all_bare LeftColumn number (IsLeftColumn job part stock) (IsCutAt job part stock) left_fails (row_count job * column_count job) left h (λ k under j i c at. cut j i c)

pub one_left : OneLeft
one_left job part stock a b n m h g =
    let e = one_listing LeftColumn (number job part stock) (IsLeftColumn job part stock) (IsCutAt job part stock) (left_fails job part stock) (one_column job part stock) (row_count job * column_count job) h.left g.left h.are g.are in
    (h.first ∙ ap (λ (cs : List LeftColumn). take MAX_LEFT cs) e ∙ sym g.first, h.count ∙ ap length e ∙ sym g.count)

pub first_left_is_verdict : FirstLeftIsVerdict
first_left_is_verdict job part moves first rest h g =
    let stock = stock_after job (uncut job) moves in
    let is = first_is LeftColumn (number job part stock) (IsLeftColumn job part stock) (IsCutAt job part stock) (row_count job * column_count job) first rest g in
    record { before = good_all job part moves h; column = is.column; first = cut_before job part stock first rest g; fails = is.fails; shown = is.shown }

pub nothing_is_accepted : NothingIsAccepted
nothing_is_accepted job part moves most h g left =
    record { good = good_all job part moves h; cut = cut_all job part (stock_after job (uncut job) moves) g; all_moves = refl; all_columns = refl; most = left }

pub accepted_has_nothing : AcceptedHasNothing
accepted_has_nothing job part moves count columns most found left h g v = (
  all_bare Reason move_of (IsFinding job part moves) (IsGood job part moves) (finding_fails job part moves) (length moves) found h v.good,
  nothing_left job part (stock_after job (uncut job) moves) left g v.cut,
)
