use Rattle.std.proofs.Common.{◌≡◌, ℕ, zero, suc, ◌+◌, ◌*◌, ◌<◌, ◌≤◌, List, [], ◌∷◌, length, w16, sym, subst, ap, ◌∙◌, arith}
use Rattle.std.specs.Prelude.{◌^◌}
use Rattle.std.proofs.lemmas.Grind.{pow_more}
use Rattle.std.proofs.lemmas.Int.{ints, to_z-of_z}
use lib.IntN.{ℤ, pos, ◌-ℤ◌}
use lib.Signed.{◌<ℤ◌, ◌≤ℤ◌}
use Rattle.mill_base.specs.Points.{point_at, point_tri}
use Rattle.mill_base.specs.Solids.{at_tip}
use Rattle.mill_base.specs.Tools.{bare}
use Rattle.mill_base.specs.declared.cutter.Cutter.TheVariants.{Flat}
use Rattle.mill_base.specs.declared.points.Tri.{Tri}
use Rattle.mill_base.specs.declared.tool.Tool.{Tool}
use Rattle.mill_geom.specs.declared.touch.Axis.{Axis}
use Rattle.mill_geom.specs.declared.touch.Axis.TheVariants.{X}
use Rattle.mill_cells.specs.Boxes.{Meet, box_of}
use Rattle.mill_push.specs.declared.fiber.Fiber.{Fiber}
use Rattle.mill_push.specs.Touches.{IsNearFiber, IsTried, ToolTouchesFew, TouchesFew, position_count, strip_along}
use Rattle.mill_push.proofs.Collecting.{few_below}
use Rattle.mill_levels_tests.proofs.push.steps.over_point.Goals as goal

abbrev the_point : Tri
the_point = point_tri (point_at (pos 500) (pos 0) (pos 300))

-- it is near no fiber along X that is more than a radius beside it, nor one that isn't under it
beside : (fiber : Fiber) (from to : ℤ) → fiber.axis ≡ X → (pos 100) <ℤ fiber.at → ¬ IsNearFiber (Flat (pos 100)) fiber from to the_point
beside fiber from to along a near =
    let m = subst (λ (x : Axis). Meet (box_of the_point) (strip_along x fiber.at (pos 100) from to)) along near.meets in
    let under : m.y ≤ℤ pos 0 = m.in_first.under in
    let over : (fiber.at -ℤ pos 100) ≤ℤ m.y = m.in_second.over in
    omega (arith, ints)

over : (fiber : Fiber) (from to : ℤ) → (pos 300) ≤ℤ fiber.z → ¬ IsNearFiber (Flat (pos 100)) fiber from to the_point
over fiber from to a near = let under : fiber.z <ℤ pos 300 = near.over in omega (arith, ints)

under_power : (n : ℕ) → n < 2 ^ n
under_power zero = let one : 0 < 1 = omega arith in one
under_power (suc k) = subst (λ m. suc k < 2 ^ m) (omega arith) (next (under_power k))
  where
    next : k < 2 ^ k → suc k < 2 ^ (k + 1)
    next h = let more = pow_more 2 k in omega arith

-- a push past it takes no touch
past_point : (fiber : Fiber) (part : List Tri) (from to : ℤ) (old new : ℕ) → part ≡ the_point ∷ [] → ¬ IsNearFiber (Flat (pos 100)) fiber from to the_point
    → TouchesFew (Flat (pos 100)) part fiber from to old new → new ≤ old
past_point fiber part from to old new e far t =
    none (position_count from to) (length t.numbers) (few_below t.numbers 0 t.once (λ i c. absurd (far (alone i (subst (λ (xs : List Tri). IsTried (Flat (pos 100)) xs fiber from to i) e (t.tried i c))))))
    (t.bound (position_count from to) (under_power (position_count from to)))
  where
    alone : (i : ℕ) → IsTried (Flat (pos 100)) (the_point ∷ []) fiber from to i → IsNearFiber (Flat (pos 100)) fiber from to the_point
    alone zero h = h.near
    alone (suc i) h = absurd (omega (arith, h.within))

    none : (n m : ℕ) → m ≤ 0 → new ≤ old + 2 * n * m → new ≤ old
    none n zero a b = omega arith
    none n (suc m) a b = absurd (omega (arith, a))

-- nor does one of the cutter without a holder
past_tool : (tool : Tool) (fiber : Fiber) (part : List Tri) (from to : ℤ) (old new : ℕ) → tool ≡ bare (at_tip (Flat (pos 100))) → part ≡ the_point ∷ [] → ¬ IsNearFiber (Flat (pos 100)) fiber from to the_point
    → ToolTouchesFew tool part fiber from to old new → new ≤ old
past_tool tool fiber part from to old new is e far t =
    let few : ToolTouchesFew (bare (at_tip (Flat (pos 100)))) part fiber from to old new = subst (λ (k : Tool). ToolTouchesFew k part fiber from to old new) is t in
    subst (λ (m : ℕ). m ≤ old) (sym few.holder) (past_point fiber part from to old few.middle e far few.cutter)

pub returns-in_err-runs-clause-beside : goal.returns-in_err-runs-clause-beside
returns-in_err-runs-clause-beside g c far =
    let across = to_z-of_z w16 c.args.across c.ranges.across in
    past_tool c.bare-tool.result c.fiber.result c.in_ok-part.part _ _ c.args.steps.now c.push.new.steps (c.bare-tool.ensures ∙ ap bare c.at_tip.ensures) (cc (c.in_ok-part.ensures, c.point.ensures.value))
    (beside c.fiber.result _ _ c.fiber.ensures.axis (rw (c.fiber.ensures.at, across) far)) c.push.ensures.near

pub returns-in_err-runs-clause-over : goal.returns-in_err-runs-clause-over
returns-in_err-runs-clause-over g c far =
    let z = to_z-of_z w16 c.args.z c.ranges.z in
    past_tool c.bare-tool.result c.fiber.result c.in_ok-part.part _ _ c.args.steps.now c.push.new.steps (c.bare-tool.ensures ∙ ap bare c.at_tip.ensures) (cc (c.in_ok-part.ensures, c.point.ensures.value))
    (over c.fiber.result _ _ (rw (c.fiber.ensures.z, z) far)) c.push.ensures.near

pub returns-clause-beside : goal.returns-clause-beside
returns-clause-beside g c far =
    let across = to_z-of_z w16 c.args.across c.ranges.across in
    past_tool c.bare-tool.result c.fiber.result c.in_ok-part.part _ _ c.args.steps.now c.push.new.steps (c.bare-tool.ensures ∙ ap bare c.at_tip.ensures) (cc (c.in_ok-part.ensures, c.point.ensures.value))
    (beside c.fiber.result _ _ c.fiber.ensures.axis (rw (c.fiber.ensures.at, across) far)) c.push.ensures.near

pub returns-clause-over : goal.returns-clause-over
returns-clause-over g c far =
    let z = to_z-of_z w16 c.args.z c.ranges.z in
    past_tool c.bare-tool.result c.fiber.result c.in_ok-part.part _ _ c.args.steps.now c.push.new.steps (c.bare-tool.ensures ∙ ap bare c.at_tip.ensures) (cc (c.in_ok-part.ensures, c.point.ensures.value))
    (over c.fiber.result _ _ (rw (c.fiber.ensures.z, z) far)) c.push.ensures.near
