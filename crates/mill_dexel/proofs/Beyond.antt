-- A row at least the cutter's radius away from a whole move keeps its tops.
use Rattle.std.proofs.Common.{◌≡◌, inl, inr, ℕ, zero, suc, ◌+◌, ◌^◌, ◌<◌, ◌≤◌, refl, subst, arith}
use Rattle.std.specs.Prelude.{ℤ, pos, ◌+ℤ◌, ◌-ℤ◌, ◌≤ℤ◌, List}
use Rattle.std.proofs.lemmas.Int.{ints}
use Rattle.std.proofs.lemmas.Nat.{pow_pos}
use Rattle.mill_base.proofs.Divisions.{half_low, half_high}
use Rattle.mill_base.specs.Numbers.{round_half_up}
use Rattle.mill_base.specs.Sizes.{IsCutter, radius_of}
use Rattle.mill_base.specs.declared.motion.Move.{Move}
use Rattle.mill_job.specs.Solids.{inner_of}
use Rattle.mill_base.specs.Solids.{raised}
use Rattle.mill_job.specs.declared.fields.JobFields.{JobFields}
use Rattle.mill_job.specs.Columns.{column_y}
use Rattle.mill_sweep.specs.Leaves.{end_of}
use Rattle.mill_dexel.specs.Samples.{placed, raised_sample, sample_centre, solid_sample_at, split_of}
use Rattle.mill_dexel.specs.Tops.{tops_after_move}
use Rattle.mill_dexel.specs.inner.Cuts.{IsCutBy, IsBeyond}
use Rattle.mill_dexel.proofs.InnerCerts.{between_low, between_high}
use Rattle.mill_dexel.proofs.Places.{narrow_sample, sample_cases, inner_is}
use Rattle.mill_dexel.proofs.CutRows.{IsCutByFirst, beyond_keeps, none_keeps, samples_start, samples_go_on, samples_end}

-- the tip's nearest whole place is between the move's ends
module _ (r y f t : ℤ) (d k : ℕ) (within : k ≤ 2 ^ d) where
  natural : (pos 0) ≤ℤ pos k
  natural = omega (arith, ints)

  parts : (n : ℕ) → k ≤ n → pos k ≤ℤ pos n
  parts n h = omega (arith, ints)

  some : (n : ℕ) → 0 < n → (pos 0) ≤ℤ (pos n -ℤ pos 1)
  some n h = omega (arith, ints)

  under : (y +ℤ r) ≤ℤ f → (y +ℤ r) ≤ℤ t → (y +ℤ r) ≤ℤ round_half_up (end_of f t d k) (2 ^ d)
  under h l = between_low (pos (2 ^ d)) (pos k) f t (y +ℤ r) (round_half_up (end_of f t d k) (2 ^ d)) natural (parts (2 ^ d) within) h l (omega (arith, ints, some (2 ^ d) (pow_pos d))) (half_high (end_of f t d k) (2 ^ d) (pow_pos d))

  over : (f +ℤ r) ≤ℤ y → (t +ℤ r) ≤ℤ y → (round_half_up (end_of f t d k) (2 ^ d) +ℤ r) ≤ℤ y
  over h l =
      back (round_half_up (end_of f t d k) (2 ^ d))
      (between_high (pos (2 ^ d)) (pos k) f t (y -ℤ r) (round_half_up (end_of f t d k) (2 ^ d)) natural (parts (2 ^ d) within) (omega (arith, ints)) (omega (arith, ints)) (omega (arith, ints, some (2 ^ d) (pow_pos d))) (half_low (end_of f t d k) (2 ^ d) (pow_pos d)))
    where
      back : (c : ℤ) → c ≤ℤ (y -ℤ r) → (c +ℤ r) ≤ℤ y
      back c h = omega (arith, ints)

  pub beyond_centre : IsBeyond r f t y → IsBeyond r (round_half_up (end_of f t d k) (2 ^ d)) (round_half_up (end_of f t d k) (2 ^ d)) y
  beyond_centre (inl h) = inl (record { first = under h.first h.second; second = under h.first h.second })
  beyond_centre (inr h) = inr (record { first = over h.first h.second; second = over h.first h.second })

-- what is away from a cutter is away from a narrower one
beyond_less : (r s c y : ℤ) → s ≤ℤ r → IsBeyond r c c y → IsBeyond s c c y
beyond_less r s c y less (inl h) = let l = h.first in inl (record { first = omega (arith, ints); second = omega (arith, ints) })
beyond_less r s c y less (inr h) = let l = h.first in inr (record { first = omega (arith, ints); second = omega (arith, ints) })

module _ (job : JobFields) (j : ℕ) (m : Move) (old : List ℤ) (size : IsCutter (inner_of job).cutter) (beyond : IsBeyond (radius_of (inner_of job).cutter) m.from.y m.to.y (column_y job j)) where
  sample_keeps : (d k : ℕ) → k ≤ 2 ^ d → IsCutBy job j (solid_sample_at (inner_of job) m d k) old old
  sample_keeps d k within =
      sample_cases (inner_of job).cutter m d k (λ s. IsCutBy job j (raised_sample (inner_of job).lift s) old old)
      (λ whole. beyond_keeps job j (placed (inner_of job).cutter (raised (inner_of job).lift (pos 1) (sample_centre m d k))) old size centre)
      (none_keeps job j old)
      (λ n e.
      let narrow = inner_is (inner_of job).cutter n size e in
      beyond_keeps job j (placed n (raised (inner_of job).lift (pos 1) (narrow_sample (inner_of job).cutter m d k n).tip)) old narrow.size
      (beyond_less (radius_of (inner_of job).cutter) (radius_of n) (sample_centre m d k).y (column_y job j) (less (radius_of n) (radius_of (inner_of job).cutter) narrow.radius) centre))
    where
      centre : IsBeyond (radius_of (inner_of job).cutter) (sample_centre m d k).y (sample_centre m d k).y (column_y job j)
      centre = beyond_centre (radius_of (inner_of job).cutter) (column_y job j) m.from.y m.to.y d k within beyond

      less : (a b : ℤ) → a +ℤ pos 1 ≡ b → a ≤ℤ b
      less a b h = omega (arith, ints)

  first_keep : (d k : ℕ) → k ≤ 2 ^ d + 1 → IsCutByFirst job j m d k old old
  first_keep d zero within = samples_start job j m d old
  first_keep d (suc k) within = subst (λ n. IsCutByFirst job j m d n old old) (next k) (samples_go_on job j m d k old old old (first_keep d k (omega arith)) (sample_keeps d k (omega arith)))
    where
      next : (k : ℕ) → k + 1 ≡ suc k
      next k = omega arith

  pub move_keeps : old ≡ tops_after_move job j 0 m old
  move_keeps = samples_end job j m (split_of job.sample m) (2 ^ split_of job.sample m + 1) old old refl refl (first_keep (split_of job.sample m) (2 ^ split_of job.sample m + 1) (all (2 ^ split_of job.sample m + 1)))
    where
      all : (n : ℕ) → n ≤ n
      all n = omega arith
