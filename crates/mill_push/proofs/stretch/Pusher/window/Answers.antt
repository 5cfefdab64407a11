use Rattle.std.proofs.Common.{rules, w32}
use Rattle.std.proofs.lemmas.Int.{to_z-of_z}
use Rattle.mill_push.proofs.Pushing.{about_by, height_stored}
use Rattle.mill_push.proofs.Stored.{stored, stored_reach}
use Rattle.mill_push.proofs.Windows.{fits_about, most_for_tri, window_is, window_ok}
use Rattle.mill_push.proofs.stretch.Pusher.window.Goals as goal

pub overflow_sub-extent : goal.overflow_sub-extent
overflow_sub-extent c =
    let r = c.reach_for-reach.result in
    let reach = c.reach_for-reach.ensures in
    let most = most_for_tri c.args.self.cutter c.args.self.fiber.z r c.args.tri.now c.requires.self_ok.cutter_ok reach in
    let first = c.extent_over-extent.ensures.in_range.first_ok in
    rw (stored c.extent_over-extent.result.first first, stored_reach r reach.holds.least most) (fits_about r c.extent_over-extent.result.first reach.holds.least most first).0

pub overflow_add-extent : goal.overflow_add-extent
overflow_add-extent c =
    let r = c.reach_for-reach.result in
    let reach = c.reach_for-reach.ensures in
    let most = most_for_tri c.args.self.cutter c.args.self.fiber.z r c.args.tri.now c.requires.self_ok.cutter_ok reach in
    let last = c.extent_over-extent.ensures.in_range.last_ok in
    rw (stored c.extent_over-extent.result.last last, stored_reach r reach.holds.least most) (fits_about r c.extent_over-extent.result.last reach.holds.least most last).1

pub returns-clause-in_range : goal.returns-clause-in_range
returns-clause-in_range c =
    let r = c.reach_for-reach.result in
    let reach = c.reach_for-reach.ensures in
    let most = most_for_tri c.args.self.cutter c.args.self.fiber.z r c.args.tri.now c.requires.self_ok.cutter_ok reach in
    let extent = c.extent_over-extent.ensures.in_range in
    let low = about_by r c.extent_over-extent.result.first reach.holds.least most extent.first_ok in
    let high = about_by r c.extent_over-extent.result.last reach.holds.least most extent.last_ok in
    let first = rw (stored c.args.from c.requires.from_ok, low.0) at c.max.ensures.value in
    let last = rw (stored c.args.to c.requires.to_ok, high.1) at c.min.ensures.value in
    rw (to_z-of_z w32 c.max.result (search rules), to_z-of_z w32 c.min.result (search rules), first, last)
    (window_ok r c.args.from c.args.to c.extent_over-extent.result.first c.extent_over-extent.result.last reach.holds.least c.requires.from_ok c.requires.to_ok extent.first_ok extent.last_ok)

pub returns-clause-window : goal.returns-clause-window
returns-clause-window c =
    let p = c.args.self in
    let r = c.reach_for-reach.result in
    let reach = c.reach_for-reach.ensures in
    let most = most_for_tri p.cutter p.fiber.z r c.args.tri.now c.requires.self_ok.cutter_ok reach in
    let extent = c.extent_over-extent.ensures.in_range in
    let low = about_by r c.extent_over-extent.result.first reach.holds.least most extent.first_ok in
    let high = about_by r c.extent_over-extent.result.last reach.holds.least most extent.last_ok in
    let first = rw (stored c.args.from c.requires.from_ok, low.0) at c.max.ensures.value in
    let last = rw (stored c.args.to c.requires.to_ok, high.1) at c.min.ensures.value in
    let holds = rw (height_stored p.fiber c.requires.self_ok.fiber_ok) at c.extent_over-extent.ensures.extent in
    rw (to_z-of_z w32 c.max.result (search rules), to_z-of_z w32 c.min.result (search rules), first, last)
    (window_is p.cutter c.args.tri.now p.fiber r c.requires.self_ok.cutter_ok reach c.args.from c.args.to c.extent_over-extent.result holds)
