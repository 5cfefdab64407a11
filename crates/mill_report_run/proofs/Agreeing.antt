-- What the lists of all findings have to do with a rejection.
use Rattle.std.proofs.Common.{◌≡◌, ◌≢◌, ℕ, zero, suc, ◌+◌, ◌*◌, ◌<◌, ◌≤◌, List, [], ◌∷◌, take, refl, subst, ◌∙◌, arith}
use Rattle.std.proofs.lemmas.List.Elements.{All-nil}
use Rattle.std.proofs.lemmas.Nat.{row_fits}
use Rattle.std.specs.Prelude.{ℤ}
use Rattle.mill_base.specs.declared.motion.Move.{Move}
use Rattle.mill_base.specs.declared.points.Tri.{Tri}
use Rattle.mill_dexel.specs.Tops.{stock_after, uncut}
use Rattle.mill_job.specs.Columns.{IsColumn, column_count, row_count}
use Rattle.mill_job.specs.declared.fields.JobFields.{JobFields}
use Rattle.mill_report.specs.Columns.{AreLeft, IsLeftAfter, column_number}
use Rattle.mill_report.specs.Findings.{AreFindings}
use Rattle.mill_report.specs.Laws.{FirstIsVerdict, FirstLeftIsVerdict, VerdictIsFirst}
use Rattle.mill_report.specs.declared.left.LeftColumn.{LeftColumn}
use Rattle.mill_report.specs.declared.left.TheConstants.{MAX_LEFT}
use Rattle.mill_report_run.specs.Reports.{Agree, BeginsWith}
use Rattle.mill_verify.specs.Verdicts.{IsOfMove, IsVerdict, OneVerdict}
use Rattle.mill_verify.specs.declared.verdict.Reason.{Reason}
use Rattle.mill_verify.specs.declared.verdict.Reason.TheVariants.{Floor, Gouge, Holder, Fixture, HolderFixture, Rapid, Cut, HolderStock, Left}
use Rattle.mill_verify.specs.declared.verdict.Verdict.TheVariants.{Reject}

same_reason : (r s : Reason) → Reject r ≡ Reject s → r ≡ s
same_reason r s e = cc

same_row : (j i a b : ℕ) (s t : ℤ) → Left j i s ≡ Left a b t → j ≡ a
same_row j i a b s t e = cc

same_col : (j i a b : ℕ) (s t : ℤ) → Left j i s ≡ Left a b t → i ≡ b
same_col j i a b s t e = cc

same_top : (j i a b : ℕ) (s t : ℤ) → Left j i s ≡ Left a b t → s ≡ t
same_top j i a b s t e = cc

-- a list from which some are taken begins as it did
taken : {A : Type 0} (n : ℕ) (x : A) (xs : List A) → 0 < n → (rest : List A) × (take n (x ∷ xs) ≡ x ∷ rest)
taken zero x xs some = absurd (omega (some, arith))
taken (suc n) x xs some = (take n xs, refl)

-- a place in a row is before what the row's end is no further than
row_before : (start end n i : ℕ) → start + n ≤ end → i < n → start + i < end
row_before start end n i fits within = omega (fits, within, arith)

-- a column's number is one of theirs
column_under : (job : JobFields) (j i : ℕ) → IsColumn job j i → column_number job j i < row_count job * column_count job
column_under job j i c =
    row_before (j * column_count job) (row_count job * column_count job) (column_count job) i (row_fits j (column_count job) (row_count job) (column_count job) c.row (omega arith)) c.column

module _ (one : OneVerdict) (first : FirstIsVerdict) (is_first : VerdictIsFirst) (left_first : FirstLeftIsVerdict) (job : JobFields) (part : List Tri) (moves : List Move) where
  -- a rejection for a column has no finding
  no_finding : (j i : ℕ) (top : ℤ) (found : List Reason) → AreFindings job part moves found → IsVerdict job part moves (Reject (Left j i top)) → found ≡ []
  no_finding j i top [] h v = refl
  no_finding j i top (reason ∷ rest) h v =
      let same : reason ≡ Left j i top = same_reason reason (Left j i top) (one job part moves (Reject reason) (Reject (Left j i top)) (first job part moves reason rest h) v) in
      absurd (subst IsOfMove same (h.each 0 reason (omega arith)).fails.of_move)

  -- and that column first
  begins_by : (j i : ℕ) (top : ℤ) (shown all : List LeftColumn) → AreFindings job part moves [] → IsVerdict job part moves (Reject (Left j i top))
      → AreLeft job part (stock_after job (uncut job) moves) all → shown ≡ take MAX_LEFT all → BeginsWith shown j i top
  begins_by j i top shown [] h v are is =
      absurd (v.fails (are.others (column_number job j i) (column_under job j i v.column) (All-nil (λ (c : LeftColumn). column_number job c.row c.col ≢ column_number job j i)) j i v.column refl))
  begins_by j i top shown (c ∷ cs) h v are is =
      let e : Left c.row c.col c.top ≡ Left j i top =
      same_reason (Left c.row c.col c.top) (Left j i top) (one job part moves (Reject (Left c.row c.col c.top)) (Reject (Left j i top)) (left_first job part moves c cs h are) v) in
      let front = taken MAX_LEFT c cs (omega arith) in
      record {
        first = c;
        others = front.0;
        left_is = is ∙ front.1;
        row_is = same_row c.row c.col j i c.top top e;
        col_is = same_col c.row c.col j i c.top top e;
        top_is = same_top c.row c.col j i c.top top e;
      }

  begins : (j i : ℕ) (top : ℤ) (shown : List LeftColumn) (total : ℕ) → AreFindings job part moves [] → IsVerdict job part moves (Reject (Left j i top)) → IsLeftAfter job part moves shown total → BeginsWith shown j i top
  begins j i top shown total h v l = begins_by j i top shown l.left h v l.are l.first

  pub agrees : (reason : Reason) (found : List Reason) (shown : List LeftColumn) (total : ℕ) → AreFindings job part moves found → IsLeftAfter job part moves shown total → IsVerdict job part moves (Reject reason)
      → Agree (Reject reason) found shown total
  agrees (Floor k) found shown total h l v = is_first job part moves (Floor k) found h tt v
  agrees (Gouge k t leaf) found shown total h l v = is_first job part moves (Gouge k t leaf) found h tt v
  agrees (Holder k t leaf) found shown total h l v = is_first job part moves (Holder k t leaf) found h tt v
  agrees (Fixture k b leaf) found shown total h l v = is_first job part moves (Fixture k b leaf) found h tt v
  agrees (HolderFixture k b leaf) found shown total h l v = is_first job part moves (HolderFixture k b leaf) found h tt v
  agrees (Rapid k j i leaf) found shown total h l v = is_first job part moves (Rapid k j i leaf) found h tt v
  agrees (Cut k j i leaf) found shown total h l v = is_first job part moves (Cut k j i leaf) found h tt v
  agrees (HolderStock k j i leaf) found shown total h l v = is_first job part moves (HolderStock k j i leaf) found h tt v
  agrees (Left j i top) found shown total h l v =
      let none = no_finding j i top found h v in
      (none, begins j i top shown total (subst (AreFindings job part moves) none h) v l)
