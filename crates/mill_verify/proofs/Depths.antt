-- The height at which a move is tested at a column: from the floor to the top, and at most the greatest depth of cut under that.
use Rattle.std.specs.Prelude.{◌≡◌, ◌≢◌, ℕ, ℤ, pos, ◌-ℤ◌, ◌<ℤ◌, ◌≤ℤ◌, List}
use Rattle.std.proofs.Common.{refl, sym, subst, arith}
use Rattle.std.proofs.lemmas.Int.{ints}
use Rattle.mill_base.specs.Numbers.{Within}
use Rattle.mill_base.proofs.Extremes.{greater_left, greater_right, greater_least}
use Rattle.mill_base.specs.declared.limits.TheConstants.{MAX_COORDINATE}
use Rattle.mill_base.specs.declared.motion.Kind.{Kind}
use Rattle.mill_base.specs.declared.motion.Kind.TheVariants.{Rapid, Feed, Dogleg}
use Rattle.mill_base.specs.declared.motion.Move.{Move}
use Rattle.mill_base.specs.declared.points.Pt3.{Pt3}
use Rattle.mill_sweep.specs.Solids.{SolidPassesPoint}
use Rattle.mill_job.specs.declared.fields.JobFields.{JobFields}
use Rattle.mill_job.specs.Jobs.{IsJob, IsFrom}
use Rattle.mill_job.specs.Columns.{IsColumn}
use Rattle.mill_job.specs.Solids.{stock_solid_of}
use Rattle.mill_dexel.specs.Tops.{IsTested, Stock, tested_as, tested_height, tested_point_on}
use Rattle.mill_dexel.proofs.TestedAs.{is_tested, point_as}
use Rattle.mill_dexel.specs.Turns.{move_at}
use Rattle.mill_verify.proofs.Ranges.{stock_within}
use Rattle.mill_verify.specs.Tests.{ClearsStockOn, PassesColumnOn, stock_met}

-- a move is tested from the floor to the top, and no deeper under the top than the limit, if there is one
tested_low : (job : JobFields) (kind : Kind) (top : ℤ) → job.floor ≤ℤ top → job.floor ≤ℤ tested_height job kind top
tested_low job Rapid top order = order
tested_low job Dogleg top order = order
tested_low job Feed top order = greater_left job.floor (top -ℤ job.max_cut)

pub tested_high : {job : JobFields} (kind : Kind) (top : ℤ) → IsJob job → job.floor ≤ℤ top → tested_height job kind top ≤ℤ top
tested_high {job} Rapid top ok order = omega (arith, ints)
tested_high {job} Dogleg top ok order = omega (arith, ints)
tested_high {job} Feed top ok order = greater_least job.floor (top -ℤ job.max_cut) top order (under top job.max_cut ok.max_cut_ok.low)
  where
    under : (t depth : ℤ) → (pos 0) ≤ℤ depth → (t -ℤ depth) ≤ℤ t
    under t depth least = omega (least, arith, ints)

pub tested_deep : (job : JobFields) (kind : Kind) (top : ℤ) → (pos 0) <ℤ job.max_cut → (top -ℤ job.max_cut) ≤ℤ tested_height job kind top
tested_deep job Rapid top limited = omega (limited, arith, ints)
tested_deep job Dogleg top limited = omega (limited, arith, ints)
tested_deep job Feed top limited = greater_right job.floor (top -ℤ job.max_cut)

pub tested_within : {job : JobFields} (kind : Kind) (top : ℤ) → IsJob job → IsFrom job.floor job.top top → Within MAX_COORDINATE (tested_height job kind top)
tested_within {job} kind top ok stays = stock_within ok (record { low = tested_low job kind top stays.low; high = at_most _ _ _ (tested_high kind top ok stays.low) stays.high })
  where
    at_most : (a b c : ℤ) → a ≤ℤ b → b ≤ℤ c → a ≤ℤ c
    at_most a b c h k = omega (h, k, arith, ints)

-- where the depth of cut is limited, a move of whatever kind is tested
pub tested_each : (job : JobFields) (kind : Kind) → (pos 0) <ℤ job.max_cut → IsTested job kind
tested_each job Rapid limited = tt
tested_each job Feed limited = limited
tested_each job Dogleg limited = tt

-- a move that is no Feed is tested as a Rapid
pub as_rapid : (kind : Kind) → kind ≢ Feed → tested_as kind ≡ Rapid
as_rapid Rapid other = refl
as_rapid Feed other = absurd (other refl)
as_rapid Dogleg other = refl

-- test (iii) of a move of which it is known as what it is tested
module _ (job : JobFields) (start : Stock) (moves : List Move) (kind : Kind) (k : ℕ) (is : tested_as (move_at moves k).kind ≡ kind) where
  pub passes_as : (j i : ℕ) → PassesColumnOn job start moves k j i → SolidPassesPoint (stock_solid_of job) (move_at moves k) (tested_point_on job kind (stock_met job start moves k) j i)
  passes_as j i passes = subst (λ (v : Kind). SolidPassesPoint (stock_solid_of job) (move_at moves k) (tested_point_on job v (stock_met job start moves k) j i)) is
      (subst (λ (p : Pt3). SolidPassesPoint (stock_solid_of job) (move_at moves k) p) (point_as job (move_at moves k).kind (stock_met job start moves k) j i) passes)

  pub clears_as : ClearsStockOn job start moves k → IsTested job kind → (j i : ℕ) → IsColumn job j i → SolidPassesPoint (stock_solid_of job) (move_at moves k) (tested_point_on job kind (stock_met job start moves k) j i)
  clears_as clears tested j i column = passes_as j i (clears (is_tested job (move_at moves k).kind (subst (IsTested job) (sym is) tested)) j i column)
