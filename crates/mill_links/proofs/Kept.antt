-- What a job gives is in the range that calls take, in each unit, and it is stored as it is.
use Rattle.std.proofs.Common.{◌≡◌, ℕ, ◌<◌, Bool, true, false, refl, sym, ap, ◌∙◌, FitsSigned, to_z, of_z, w32, arith}
use Rattle.std.specs.Prelude.{◌≢◌, int_lt, nat_abs, ℤ, pos, ◌<ℤ◌, ◌≤ℤ◌}
use Rattle.std.proofs.lemmas.Int.{ints, fits_signed_from_abs}
use Rattle.mill_base.specs.Numbers.{Within}
use Rattle.mill_base.specs.Units.{greatest_of}
use Rattle.mill_base.specs.declared.limits.TheConstants.{MAX_COORDINATE}
use Rattle.mill_base.specs.declared.unit.Unit.{Unit}
use Rattle.mill_base.proofs.Machine.{stored}
use Rattle.mill_base.proofs.Ranges.{within_of_unit, coordinate}
use Rattle.mill_base.specs.declared.motion.Kind.TheVariants.{Feed}
use Rattle.mill_dexel.specs.Tops.{IsTested}
use Rattle.mill_job.specs.Jobs.{IsJob}
use Rattle.mill_job.specs.declared.fields.JobFields.{JobFields}

pub unit_coordinate : (unit : Unit) (z : ℤ) → Within (greatest_of unit) z → stored w32 z ≡ z
unit_coordinate unit z h = coordinate z (within_of_unit unit z h)

-- a number between two that are in a range
pub between : (m : ℕ) (a b z : ℤ) → Within m a → Within m b → a ≤ℤ z → z ≤ℤ b → Within m z
between m a b z a_ok b_ok low high = let p = a_ok.within in let q = b_ok.within in record { within = omega (p, q, low, high, arith, ints) }

-- a number in range fits its type
pub fits_within : (z : ℤ) → Within MAX_COORDINATE z → FitsSigned w32 z
fits_within z h = fits_signed_from_abs w32 z (small z h)
  where
    small : (z : ℤ) → Within MAX_COORDINATE z → nat_abs z < 2147483648
    small z h = let k = h.within in omega (k, arith)

-- the greatest depth of cut, and what its test says
pub limit_within : (job : JobFields) → IsJob job → Within (greatest_of job.unit) job.max_cut
limit_within job ok = within (greatest_of job.unit) job.max_cut ok.max_cut_ok.low ok.max_cut_ok.high
  where
    within : (most : ℕ) (d : ℤ) → (pos 0) ≤ℤ d → d ≤ℤ pos most → Within most d
    within most d low high = record { within = omega (low, high, arith, ints) }

pub limit_stored : (job : JobFields) → IsJob job → stored w32 job.max_cut ≡ job.max_cut
limit_stored job ok = unit_coordinate job.unit job.max_cut (limit_within job ok)

pub no_limit : (job : JobFields) → IsJob job → of_z w32 job.max_cut ≡ 0 → job.max_cut ≡ pos 0
no_limit job ok none = sym (limit_stored job ok) ∙ ap (λ n. to_z w32 n) none

pub some_limit : (job : JobFields) → IsJob job → (of_z w32 job.max_cut ≢ 0) → (pos 0) <ℤ job.max_cut
some_limit job ok some = over job.max_cut ok.max_cut_ok.low (λ none. some (ap (λ d. of_z w32 d) none))
  where
    over : (d : ℤ) → (pos 0) ≤ℤ d → d ≢ pos 0 → (pos 0) <ℤ d
    over d low other = by (int_lt (pos 0) d) refl
      where
        is : (d : ℤ) → (pos 0) ≤ℤ d → int_lt (pos 0) d ≡ false → d ≡ pos 0
        is d low e = omega (low, e, arith, ints)

        more : (d : ℤ) → int_lt (pos 0) d ≡ true → (pos 0) <ℤ d
        more d e = omega (e, arith, ints)

        by : (t : Bool) → int_lt (pos 0) d ≡ t → (pos 0) <ℤ d
        by true e = more d e
        by false e = absurd (other (is d low e))

-- without a limit no feed is tested
pub untested : (job : JobFields) → job.max_cut ≡ pos 0 → ¬ IsTested job Feed
untested job none tested = no job.max_cut none tested
  where
    no : (d : ℤ) → d ≡ pos 0 → (pos 0) <ℤ d → ⊥
    no d e h = absurd (omega (e, h, arith, ints))
