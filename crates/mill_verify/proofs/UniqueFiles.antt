-- There is at most one verdict on files in turn, and for one file it is that on its program.
use Rattle.std.specs.Prelude.{◌≡◌, ℕ, zero, suc, ◌+◌, ℤ, List, [], ◌∷◌, length, refl}
use Rattle.std.proofs.Common.{sym, ◌∙◌, ap, subst, arith}
use Rattle.mill_base.specs.declared.points.Tri.{Tri}
use Rattle.mill_job.specs.declared.fields.JobFields.{JobFields}
use Rattle.mill_dexel.specs.Tops.{Stock, stock_after, uncut}
use Rattle.mill_dexel.proofs.RunLaws.{same_number}
use Rattle.mill_verify.specs.Files.{File, after_files, file_at, job_of, stock_before}
use Rattle.mill_verify.specs.Lists.{AcceptsFiles, AloneIsVerdict, GoodFilesBefore, IsGoodFile, IsListVerdict, LeavesUncut, OneListVerdict, RejectsFile, of_reason, of_verdict}
use Rattle.mill_verify.specs.Tests.{GoodBeforeOn}
use Rattle.mill_verify.specs.Verdicts.{AcceptsOn, IsFirstUncut, IsLeftOverOn, IsMostLeftOn, IsOfMove, IsRejection, IsVerdict}
use Rattle.mill_verify.specs.declared.list.ListVerdict.{ListVerdict}
use Rattle.mill_verify.specs.declared.list.ListVerdict.TheVariants as list
use Rattle.mill_verify.specs.declared.verdict.Reason.{Reason}
use Rattle.mill_verify.specs.declared.verdict.Reason.TheVariants.{Floor, Gouge, Holder, Fixture, HolderFixture, Rapid, Cut, HolderStock, Left}
use Rattle.mill_verify.specs.declared.verdict.Verdict.{Verdict}
use Rattle.mill_verify.specs.declared.verdict.Verdict.TheVariants.{Accept, Reject}
use Rattle.mill_verify.proofs.Filed.{column_as, column_back}
use Rattle.mill_verify.proofs.Unique.{most_is_one, moves_fail, not_before, one_reason}

module _ (job : JobFields) (part : List Tri) (files : List File) where
  -- a file that is rejected isn't good
  rejected_is_bad : (f : ℕ) (r : Reason) → RejectsFile job part files f r → ¬ IsGoodFile job part files f
  rejected_is_bad f r h good = moves_fail (job_of job (file_at files f)) part (stock_before job files f) (file_at files f).moves r h.of_move h.rejects good

  -- so one file is rejected, for one reason
  one_file : (f g : ℕ) (r s : Reason) → RejectsFile job part files f r → RejectsFile job part files g s → f ≡ g
  one_file f g r s h k = same_number f g (λ less. rejected_is_bad f r h (k.before f less)) (λ less. rejected_is_bad g s k (h.before g less))

  one_rejection : (f g : ℕ) (r s : Reason) → RejectsFile job part files f r → RejectsFile job part files g s → list.Reject f r ≡ list.Reject g s
  one_rejection f g r s h k =
      let same : f ≡ g = one_file f g r s h k in
      let here : RejectsFile job part files f s = subst (λ (n : ℕ). RejectsFile job part files n s) (sym same) k in
      let e : r ≡ s = one_reason (job_of job (file_at files f)) part (stock_before job files f) (file_at files f).moves r s h.rejects here.rejects in
      ap (λ (x : Reason). list.Reject f x) e ∙ ap (λ (n : ℕ). list.Reject n s) same

  one_left : (j i c d : ℕ) (x y : ℤ) → LeavesUncut job part files j i x → LeavesUncut job part files c d y → list.Left j i x ≡ list.Left c d y
  one_left j i c d x y h k =
      let at = not_before j i c d (λ less. h.first.fails (k.first.first j i h.first.column less)) (λ less. k.first.fails (h.first.first c d k.first.column less)) in
      let row : IsFirstUncut job part (after_files job (uncut job) files) j d y = subst (λ (n : ℕ). IsFirstUncut job part (after_files job (uncut job) files) n d y) (sym at.0) k.first in
      let here : IsFirstUncut job part (after_files job (uncut job) files) j i y = subst (λ (n : ℕ). IsFirstUncut job part (after_files job (uncut job) files) j n y) (sym at.1) row in
      ap (λ (n : ℕ). list.Left n i x) at.0 ∙ ap (λ (n : ℕ). list.Left c n x) at.1 ∙ ap (λ (z : ℤ). list.Left c d z) (h.first.shown ∙ sym here.shown)

  one_acceptance : (n m c : ℕ) (x : ℤ) (a b d : ℕ) (y : ℤ) → AcceptsFiles job part files n m c x → AcceptsFiles job part files a b d y → list.Accept n m c x ≡ list.Accept a b d y
  one_acceptance n m c x a b d y h k =
      ap (λ (z : ℕ). list.Accept z m c x) (h.all_files ∙ sym k.all_files)
      ∙ ap (λ (z : ℕ). list.Accept a z c x) (h.all_moves ∙ sym k.all_moves)
      ∙ ap (λ (z : ℕ). list.Accept a b z x) (h.all_columns ∙ sym k.all_columns)
      ∙ ap (λ (z : ℤ). list.Accept a b d z) (most_is_one job part (after_files job (uncut job) files) x y h.most k.most)

  one_of : (v w : ListVerdict) → IsListVerdict job part files v → IsListVerdict job part files w → v ≡ w
  one_of (list.Accept n m c x) (list.Accept a b d y) h k = one_acceptance n m c x a b d y h k
  one_of (list.Accept n m c x) (list.Reject g s) h k = absurd (rejected_is_bad g s k (h.good g k.there))
  one_of (list.Accept n m c x) (list.Left a b y) h k = absurd (k.first.fails (h.cut a b k.first.column))
  one_of (list.Reject f r) (list.Accept a b d y) h k = absurd (rejected_is_bad f r h (k.good f h.there))
  one_of (list.Reject f r) (list.Reject g s) h k = one_rejection f g r s h k
  one_of (list.Reject f r) (list.Left a b y) h k = absurd (rejected_is_bad f r h (k.good f h.there))
  one_of (list.Left j i x) (list.Accept a b d y) h k = absurd (h.first.fails (k.cut j i h.first.column))
  one_of (list.Left j i x) (list.Reject g s) h k = absurd (rejected_is_bad g s k (h.good g k.there))
  one_of (list.Left j i x) (list.Left a b y) h k = one_left j i a b x y h k

-- two verdicts on the same files are equal
pub one_list_verdict : OneListVerdict
one_list_verdict job part files v w h k = one_of job part files v w h k

-- ---- one file

module _ (job : JobFields) (part : List Tri) (file : File) where
  abbrev its : JobFields
  its = job_of job file

  -- before it there is none
  none_before : GoodFilesBefore job part (file ∷ []) 0
  none_before e under = absurd (omega (under, arith))

  -- it is good where all its moves are
  good_alone : GoodBeforeOn its part (uncut its) file.moves (length file.moves) → GoodFilesBefore job part (file ∷ []) 1
  good_alone good zero under = good
  good_alone good (suc e) under = absurd (omega (under, arith))

  left_as : (stock : Stock) (j i : ℕ) (left : ℤ) → IsLeftOverOn its part stock j i left → IsLeftOverOn job part stock j i left
  left_as stock j i left h = record { height = h.height; highest = h.highest; difference = h.difference }

  left_back : (stock : Stock) (j i : ℕ) (left : ℤ) → IsLeftOverOn job part stock j i left → IsLeftOverOn its part stock j i left
  left_back stock j i left h = record { height = h.height; highest = h.highest; difference = h.difference }

  most_as : (stock : Stock) (left : ℤ) → IsMostLeftOn its part stock left → IsMostLeftOn job part stock left
  most_as stock left h = record {
    row = h.row;
    col = h.col;
    column = column_back job file h.column;
    there = left_as stock h.row h.col left h.there;
    most = λ j i other column over. h.most j i other (column_as job file column) (left_back stock j i other over);
  }

  accepts_alone : (count columns : ℕ) (left : ℤ) → AcceptsOn its part (uncut its) file.moves count columns left → AcceptsFiles job part (file ∷ []) 1 count columns left
  accepts_alone count columns left h = record {
    good = good_alone h.good;
    cut = λ j i column. h.cut j i (column_as job file column);
    all_files = refl;
    all_moves = h.all_moves ∙ (let e : length file.moves ≡ 0 + length file.moves = omega arith in e);
    all_columns = h.all_columns;
    most = most_as (stock_after its (uncut its) file.moves) left h.most;
  }

  rejects_alone : (reason : Reason) → IsOfMove reason → IsRejection its part file.moves reason → RejectsFile job part (file ∷ []) 0 reason
  rejects_alone reason of_move h = record { there = omega arith; before = none_before; of_move = of_move; rejects = h }

  reason_alone : (reason : Reason) → IsRejection its part file.moves reason → IsListVerdict job part (file ∷ []) (of_reason reason)
  reason_alone (Floor k) h = rejects_alone (Floor k) tt h
  reason_alone (Gouge k t leaf) h = rejects_alone (Gouge k t leaf) tt h
  reason_alone (Holder k t leaf) h = rejects_alone (Holder k t leaf) tt h
  reason_alone (Fixture k b leaf) h = rejects_alone (Fixture k b leaf) tt h
  reason_alone (HolderFixture k b leaf) h = rejects_alone (HolderFixture k b leaf) tt h
  reason_alone (Rapid k j i leaf) h = rejects_alone (Rapid k j i leaf) tt h
  reason_alone (Cut k j i leaf) h = rejects_alone (Cut k j i leaf) tt h
  reason_alone (HolderStock k j i leaf) h = rejects_alone (HolderStock k j i leaf) tt h
  reason_alone (Left j i top) h = record {
    good = good_alone h.before;
    first = record {
      column = column_back job file h.column;
      first = λ a b column order. h.first a b (column_as job file column) order;
      fails = h.fails;
      shown = h.shown;
    };
  }

  verdict_alone : (w : Verdict) → IsVerdict its part file.moves w → IsListVerdict job part (file ∷ []) (of_verdict w)
  verdict_alone (Accept count columns left) h = accepts_alone count columns left h
  verdict_alone (Reject reason) h = reason_alone reason h

-- for one file the verdict on the list is that on its program
pub alone_is_verdict : AloneIsVerdict
alone_is_verdict job part file v w h k = one_of job part (file ∷ []) v (of_verdict w) h (verdict_alone job part file w k)
