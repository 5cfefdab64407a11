-- Accepted files cut safely, each from the stock on that those before it left.
use Rattle.std.specs.Prelude.{◌≡◌, ◌⊎◌, ℕ, ◌<◌, ℤ, ◌<ℤ◌, ◌≤ℤ◌, List, [], ◌∷◌, All, Contains, length, take, drop, int_lt, Bool, true, false, refl}
use Rattle.std.proofs.Common.{subst, inl, inr, arith}
use Rattle.std.proofs.lemmas.Int.{ints}
use Rattle.std.proofs.lemmas.List.{take-append-drop}
use Rattle.std.proofs.lemmas.List.Elements.{Contains-append_left, Contains-append_right}
use Rattle.mill_base.specs.declared.points.Tri.{Tri}
use Rattle.mill_job.specs.declared.fields.JobFields.{JobFields}
use Rattle.mill_job.specs.Columns.{column_x, column_y}
use Rattle.mill_job.specs.Jobs.{IsJob}
use Rattle.mill_job.specs.Solids.{inner_of}
use Rattle.mill_job.proofs.WithCutter.{is_job_with}
use Rattle.mill_dexel.specs.Removed.{IsRemovedBy}
use Rattle.mill_dexel.specs.Tops.{Stock, uncut}
use Rattle.mill_dexel.proofs.Removal.{moves_remove, passed_is_left}
use Rattle.mill_shape.proofs.Over.{holds_over}
use Rattle.mill_margin.proofs.Growing.{grown_holds}
use Rattle.mill_part.proofs.Below.{covered_below}
use Rattle.mill_sweep.proofs.Solids.{passing_is_clear, passing_keeps_point}
use Rattle.mill_verify.specs.Claims.{column_point}
use Rattle.mill_verify.specs.Files.{File, IsFileOf, after_file, after_files, file_at, job_of, stock_before}
use Rattle.mill_verify.specs.ListClaims.{FileCutsSafely, FilesCutSafely, IsRemovedByFile, left_by, met_by}
use Rattle.mill_verify.specs.Lists.{AcceptsFiles, IsGoodFile, IsListVerdict}
use Rattle.mill_verify.specs.Tests.{stock_met}
use Rattle.mill_verify.specs.declared.list.ListVerdict.{ListVerdict}
use Rattle.mill_verify.specs.declared.list.ListVerdict.TheVariants as list
use Rattle.mill_verify.proofs.Filed.{before_stays, file_ok, stock_as}
use Rattle.mill_verify.proofs.Safe.{AreUnderTop, are_covered, keeps_clear, keeps_depth, keeps_out, keeps_part, never_gouges, rapids_miss}

-- the job keeps its relations with a file's cutter
pub job_with : (job : JobFields) (file : File) → IsJob job → IsFileOf job file → IsJob (job_of job file)
job_with job file ok its = is_job_with job file.cutter ok its.fits

-- files that bring a top under h remove the point at h, by a move of one of them
files_remove : (job : JobFields) (j i : ℕ) (h : ℤ) (stock : Stock) (files : List File) → ((file : File) → Contains files file → IsJob (job_of job file)) → after_files job stock files j i <ℤ h
    → (stock j i <ℤ h) ⊎ IsRemovedByFile job files (column_point job j i h)
files_remove job j i h stock [] jobs under = inl under
files_remove job j i h stock (file ∷ files) jobs under =
    elim (files_remove job j i h (after_file job stock file) files (λ f member. jobs f (Contains-append_right (file ∷ []) files f member)) under) [
      | inl between ↦ by (moves_remove (job_of job file) (column_x job i) (column_y job j) (stock j i) h file.moves (jobs file here) between)
      | inr later ↦ inr (record { file = later.file; member = Contains-append_right (file ∷ []) files later.file later.member; removed = later.removed })
    ]
  where
    here : Contains (file ∷ files) file
    here = (0, omega arith, refl)

    by : (stock j i <ℤ h) ⊎ IsRemovedBy (inner_of (job_of job file)) file.moves (column_point job j i h) → (stock j i <ℤ h) ⊎ IsRemovedByFile job (file ∷ files) (column_point job j i h)
    by (inl before) = inl before
    by (inr removed) = inr (record { file = file; member = here; removed = removed })

not_over : (a b : ℤ) → ¬ (a <ℤ b) → b ≤ℤ a
not_over a b h = by (int_lt a b) refl
  where
    by : (t : Bool) → int_lt a b ≡ t → b ≤ℤ a
    by true e = absurd (h (omega (e, arith, ints)))
    by false e = omega (e, arith, ints)

not_both : (a b : ℤ) → a <ℤ b → b ≤ℤ a → ⊥
not_both a b h k = omega (h, k, arith, ints)

-- where the points of the uncut stock at and under h aren't removed, the files leave a top at or over h
under_left : (job : JobFields) (j i : ℕ) (h : ℤ) (files : List File) → ((file : File) → Contains files file → IsJob (job_of job file)) → h ≤ℤ job.top → ¬ IsRemovedByFile job files (column_point job j i h)
    → h ≤ℤ after_files job (uncut job) files j i
under_left job j i h files jobs under left = not_over (after_files job (uncut job) files j i) h (λ over. by (files_remove job j i h (uncut job) files jobs over))
  where
    by : (job.top <ℤ h) ⊎ IsRemovedByFile job files (column_point job j i h) → ⊥
    by (inl before) = not_both job.top h before under
    by (inr removed) = left removed

module _ (job : JobFields) (part : List Tri) (files : List File) (ok : IsJob job) (all : All (IsFileOf job) files) where
  -- each file is one of the job's
  member_ok : (file : File) → Contains files file → IsFileOf job file
  member_ok file member = subst (IsFileOf job) member.2 (all member.0 file member.1)

  jobs : (file : File) → Contains files file → IsJob (job_of job file)
  jobs file member = job_with job file ok (member_ok file member)

  first_jobs : (f : ℕ) (file : File) → Contains (take f files) file → IsJob (job_of job file)
  first_jobs f file member = jobs file (subst (λ (fs : List File). Contains fs file) (take-append-drop f files) (Contains-append_left (take f files) (drop f files) file member))

  module _ (f : ℕ) (there : f < length files) where
    abbrev file : File
    file = file_at files f

    abbrev its : JobFields
    its = job_of job file

    its_ok : IsFileOf job file
    its_ok = file_ok job files f all there

    job_ok : IsJob its
    job_ok = job_with job file ok its_ok

    -- the points that are left as its moves meet them lie at or under the tops then
    under : AreUnderTop its (stock_before job files f) file.moves (met_by job files f)
    under k j i h point left = not_over (stock_met its (stock_before job files f) file.moves k j i) h (λ over. by (moves_remove its (column_x job i) (column_y job j) (stock_before job files f j i) h (take k file.moves) job_ok over))
      where
        by : (stock_before job files f j i <ℤ h) ⊎ IsRemovedBy (inner_of (job_of job file)) (take k file.moves) (column_point job j i h) → ⊥
        by (inl before) = not_both (stock_before job files f j i) h before
            (under_left job j i h (take f files) (first_jobs f) point.top
            (λ removed. left (record { file = removed.file; member = Contains-append_left (take f files) (record { cutter = file.cutter; moves = take k file.moves } ∷ []) removed.file removed.member; removed = removed.removed })))
        by (inr removed) = left (record {
          file = record { cutter = file.cutter; moves = take k file.moves };
          member = Contains-append_right (take f files) (record { cutter = file.cutter; moves = take k file.moves } ∷ []) (record { cutter = file.cutter; moves = take k file.moves }) (0, omega arith, refl);
          removed = removed;
        })

    file_safe : IsGoodFile job part files f → FileCutsSafely job part files f
    file_safe good =
        let stays = stock_as job file (stock_before job files f) (before_stays job files f ok) in
        record {
          gouges = never_gouges its part (stock_before job files f) file.moves job_ok stays its_ok.moves_ok grown_holds passing_is_clear good;
          kept = keeps_part its part (stock_before job files f) file.moves job_ok stays its_ok.moves_ok grown_holds passing_is_clear holds_over good;
          rapids = rapids_miss its part (stock_before job files f) file.moves job_ok stays its_ok.moves_ok grown_holds passing_keeps_point (met_by job files f) under good;
          depth = keeps_depth its part (stock_before job files f) file.moves job_ok stays its_ok.moves_ok grown_holds passing_keeps_point passed_is_left good;
          holder = keeps_clear its part (stock_before job files f) file.moves job_ok stays its_ok.moves_ok grown_holds passing_is_clear passing_keeps_point (met_by job files f) under good;
          fixtures = keeps_out its part (stock_before job files f) file.moves job_ok stays its_ok.moves_ok grown_holds passing_is_clear good;
        }

  files_safe : (count moves columns : ℕ) (left : ℤ) → AcceptsFiles job part files count moves columns left → FilesCutSafely job part files
  files_safe count moves columns left a = record {
    each = λ f there. file_safe f there (a.good f there);
    covered = are_covered covered_below job part (after_files job (uncut job) files) (left_by job files) (λ j i h point stays. under_left job j i h files jobs point.top stays) a.cut;
  }

  -- if the verdict is an acceptance, the files cut safely
  pub accepted_are_safe : (v : ListVerdict) → IsListVerdict job part files v → (count moves columns : ℕ) (left : ℤ) → v ≡ list.Accept count moves columns left → FilesCutSafely job part files
  accepted_are_safe (list.Accept n m c x) h count moves columns left e = files_safe n m c x h
  accepted_are_safe (list.Reject f reason) h count moves columns left e = absurd (cc)
  accepted_are_safe (list.Left j i top) h count moves columns left e = absurd (cc)
