-- Where the verdict on a plan is that a column's top is left too high, the finishing path can't come to it.
use Rattle.std.specs.Prelude.{◌≡◌, ℕ, Bool, true, false, ℤ, pos, ◌+ℤ◌, ◌-ℤ◌, ◌*ℤ◌, ◌≤ℤ◌, int_lt, List, length, All}
use Rattle.std.proofs.Common.{refl, sym, subst, arith}
use Rattle.std.proofs.lemmas.Int.{ints}
use Rattle.std.proofs.lemmas.List.Elements.{All-weaker}
use Rattle.mill_base.proofs.Integers.{one-mul-ℤ}
use Rattle.mill_base.specs.Contact.{Holds}
use Rattle.mill_base.specs.Covers.{Covered, IsHighestCovered}
use Rattle.mill_base.specs.Points.{point_at}
use Rattle.mill_base.specs.Solids.{SolidHolds, solid_tip}
use Rattle.mill_base.specs.declared.cutter.Cutter.{Cutter}
use Rattle.mill_base.specs.declared.motion.Move.{Move}
use Rattle.mill_base.specs.declared.points.Pt3.{Pt3}
use Rattle.mill_base.specs.declared.points.Tri.{Tri}
use Rattle.mill_dexel.proofs.Cleared.{cut_at_end}
use Rattle.mill_dexel.specs.Tops.{top_after}
use Rattle.mill_job.specs.Columns.{column_x, column_y}
use Rattle.mill_job.specs.Jobs.{IsJob}
use Rattle.mill_job.specs.Solids.{inner_of}
use Rattle.mill_job.specs.declared.fields.JobFields.{JobFields}
use Rattle.mill_part.proofs.Below.{covered_below}
use Rattle.mill_links.specs.Safety.{IsEndOf}
use Rattle.mill_links.specs.declared.visit.Visit.{Visit}
use Rattle.mill_obstacles.specs.Faces.{obstacles_of}
use Rattle.mill_paths.proofs.Uniqueness.{one_finish}
use Rattle.mill_shape.proofs.Over.{holds_over}
use Rattle.mill_verify.specs.Tests.{GoodBefore}
use Rattle.mill_verify.specs.Verdicts.{FailsCut}
use Rattle.mill_plan.specs.Plans.{HasPlan, IsOutOfReach}
use Rattle.mill_plan.proofs.Ends.{finish_ends}
use Rattle.mill_plan.proofs.Good.{floor_at_end}

-- a top that isn't covered less the allowance is over the greatest covered height and the allowance
over_covered : (part : List Tri) (floor band x y top height allowance : ℤ) → IsHighestCovered part floor band x y top height
    → ¬ Covered part floor band x y (top -ℤ allowance) → (height +ℤ allowance +ℤ pos 1) ≤ℤ top
over_covered part floor band x y top height allowance highest fails = by (int_lt top (height +ℤ allowance +ℤ pos 1)) refl
  where
    low : (t h a : ℤ) → int_lt t (h +ℤ a +ℤ pos 1) ≡ true → (t -ℤ a) ≤ℤ h
    low t h a e = omega (e, arith, ints)

    high : (t h a : ℤ) → int_lt t (h +ℤ a +ℤ pos 1) ≡ false → (h +ℤ a +ℤ pos 1) ≤ℤ t
    high t h a e = omega (e, arith, ints)

    by : (t : Bool) → int_lt top (height +ℤ allowance +ℤ pos 1) ≡ t → (height +ℤ allowance +ℤ pos 1) ≤ℤ top
    by true e = absurd (fails (covered_below part floor band x y height (top -ℤ allowance) (low top height allowance e) highest.covered))
    by false e = high top height allowance e

-- a cutter that doesn't hold a point doesn't hold one straight under it
free_under : (cutter : Cutter) (t : Pt3) (x y low high : ℤ) → low ≤ℤ high → ¬ Holds cutter (pos 1) t (pos 1) (point_at x y high)
    → ¬ Holds cutter (pos 1) t (pos 1) (point_at x y low)
free_under cutter t x y low high order free held =
    free (holds_over cutter (pos 1) t (pos 1) (point_at x y high) x y low (omega (arith, ints)) (omega (arith, ints)) held (sym (one-mul-ℤ x)) (sym (one-mul-ℤ y)) (up low high order))
  where
    up : (a b : ℤ) → a ≤ℤ b → (pos 1 *ℤ a) ≤ℤ b
    up a b h = omega (h, arith, ints)

-- at the end of a good move what the cutter removes for sure holds no column's top
free_at_end : (job : JobFields) (part : List Tri) (moves : List Move) (p : Pt3) (x y : ℤ) → IsJob job → GoodBefore job part moves (length moves) → IsEndOf moves p
    → ¬ SolidHolds (inner_of job) (pos 1) p (pos 1) (point_at x y (top_after job x y moves))
free_at_end job part moves p x y ok good end =
    subst (λ (q : Pt3). ¬ SolidHolds (inner_of job) (pos 1) q (pos 1) (point_at x y (top_after job x y moves))) end.here
    (cut_at_end job moves end.move x y ok end.member (floor_at_end job part moves end.move good end.member))

pub out_of_reach : (job : JobFields) (part : List Tri) (moves : List Move) (row col : ℕ) (top : ℤ) → IsJob job → HasPlan job (obstacles_of job part) moves → FailsCut job part moves row col top
    → IsOutOfReach job part row col top
out_of_reach job part moves row col top ok plan left visits height are highest =
    let x : ℤ = column_x job col in
    let y : ℤ = column_y job row in
    let uncut : ¬ Covered part job.floor job.band x y (top -ℤ job.allowance) =
    subst (λ (z : ℤ). ¬ Covered part job.floor job.band x y (z -ℤ job.allowance)) (sym left.shown) left.fails in
    let order : (height +ℤ job.allowance +ℤ pos 1) ≤ℤ top = over_covered part job.floor job.band x y top height job.allowance highest uncut in
    let ends : All (λ (v : Visit). IsEndOf moves v.at) visits =
    subst (λ (vs : List Visit). All (λ (v : Visit). IsEndOf moves v.at) vs) (one_finish job (obstacles_of job part) plan.is.are.finish visits plan.is.are.are_finish are)
    (finish_ends job (obstacles_of job part) moves plan.is ok) in
    All-weaker (λ (v : Visit). IsEndOf moves v.at) (λ (v : Visit). ¬ SolidHolds (inner_of job) (pos 1) v.at (pos 1) (point_at x y (height +ℤ job.allowance +ℤ pos 1)))
    (λ v end. free_under (inner_of job).cutter (solid_tip (inner_of job) (pos 1) v.at) x y (height +ℤ job.allowance +ℤ pos 1) top order
    (subst (λ (z : ℤ). ¬ SolidHolds (inner_of job) (pos 1) v.at (pos 1) (point_at x y z)) (sym left.shown) (free_at_end job part moves v.at x y ok left.before end)))
    visits ends
