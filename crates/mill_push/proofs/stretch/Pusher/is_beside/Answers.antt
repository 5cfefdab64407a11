use Rattle.std.proofs.Common.{arith}
use Rattle.std.proofs.lemmas.Int.{ints}
use Rattle.mill_push.proofs.Pushing.{about_by, height_stored}
use Rattle.mill_push.proofs.Stored.{stored, stored_reach}
use Rattle.mill_push.proofs.Windows.{beside_after, beside_before, fits_about, most_for_tri}
use Rattle.mill_push.proofs.stretch.Pusher.is_beside.Goals as goal

pub overflow_sub-across : goal.overflow_sub-across
overflow_sub-across c =
    let r = c.args.reach in
    let reach = c.requires.reach_ok in
    let most = most_for_tri c.args.self.cutter c.args.self.fiber.z r c.args.tri.now c.requires.self_ok.cutter_ok reach in
    let first = c.extent_over-across.ensures.in_range.first_ok in
    rw (stored c.extent_over-across.result.first first, stored_reach r reach.holds.least most) (fits_about r c.extent_over-across.result.first reach.holds.least most first).0

pub overflow_add-result : goal.overflow_add-result
overflow_add-result c =
    let r = c.args.reach in
    let reach = c.requires.reach_ok in
    let most = most_for_tri c.args.self.cutter c.args.self.fiber.z r c.args.tri.now c.requires.self_ok.cutter_ok reach in
    let last = c.extent_over-across.ensures.in_range.last_ok in
    rw (stored c.extent_over-across.result.last last, stored_reach r reach.holds.least most) (fits_about r c.extent_over-across.result.last reach.holds.least most last).1

pub returns-then-across-reach : goal.returns-then-across-reach
returns-then-across-reach c =
    let p = c.args.self in
    let r = c.args.reach in
    let reach = c.requires.reach_ok in
    let most = most_for_tri p.cutter p.fiber.z r c.args.tri.now c.requires.self_ok.cutter_ok reach in
    let low = about_by r c.extent_over-across.result.first reach.holds.least most c.extent_over-across.ensures.in_range.first_ok in
    let holds = rw (c.other.ensures, height_stored p.fiber c.requires.self_ok.fiber_ok) at c.extent_over-across.ensures.extent in
    rw (stored p.fiber.at c.requires.self_ok.fiber_ok.at_ok, low.0)
    (λ test v t. beside_before p.cutter c.args.tri.now p.fiber r c.requires.self_ok.cutter_ok reach c.extent_over-across.result v holds (omega (test, arith, ints)) t)

pub returns-else-across-reach : goal.returns-else-across-reach
returns-else-across-reach c =
    let p = c.args.self in
    let r = c.args.reach in
    let reach = c.requires.reach_ok in
    let most = most_for_tri p.cutter p.fiber.z r c.args.tri.now c.requires.self_ok.cutter_ok reach in
    let high = about_by r c.extent_over-across.result.last reach.holds.least most c.extent_over-across.ensures.in_range.last_ok in
    let holds = rw (c.other.ensures, height_stored p.fiber c.requires.self_ok.fiber_ok) at c.extent_over-across.ensures.extent in
    rw (stored p.fiber.at c.requires.self_ok.fiber_ok.at_ok, high.1)
    (λ test v t. beside_after p.cutter c.args.tri.now p.fiber r c.requires.self_ok.cutter_ok reach c.extent_over-across.result v holds (omega (test, arith, ints)) t)
