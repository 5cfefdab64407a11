use Rattle.std.proofs.Common.{◌≡◌, ℕ, ◌+◌, ◌-◌, ◌<◌, ◌<ℤ◌, length, slice_index_or, pos, ap, ◌∙◌, arith, rules, w32, FitsSigned}
use Rattle.std.proofs.lemmas.Int.{to_z-of_z}
use Rattle.mill_push.proofs.Stored.{stored}
use Rattle.mill_push.specs.Runs.{StandsIn}
use Rattle.mill_level.specs.inner.Fibers.{Places}
use Rattle.mill_level.proofs.Adding.{none_added, place_added, last_added}
use Rattle.mill_level.proofs.Ascending.{later_too}
use Rattle.mill_level.proofs.fiber.add_places.Goals as goal

pub loop-at-init : goal.loop-at-init
loop-at-init c = record {
  added = none_added (Places (StandsIn c.args.runs.now) c.args.positions.now) c.args.places.now.items;
  position = c.spot_at-low.ensures.position ∙ stored (slice_index_or c.args.positions.now 0 (pos 0)) (c.requires.positions_ok.within 0 (pos 0) c.requires.positions_ok.some);
  spot = c.spot_at-low.ensures.spot;
}

pub spot_at-high-requires-clause-known : goal.spot_at-high-requires-clause-known
spot_at-high-requires-clause-known c =
    let at = c.loop-at.at in
    let before : at - 1 < at = omega arith in
    let rises : c.loop-at.low.position <ℤ slice_index_or c.args.positions.now at (pos 0) = rw c.loop-at.invariant.position (c.requires.positions_ok.rising (at - 1) at (pos 0) before c.loop-at-test.true) in
    rw (stored (slice_index_or c.args.positions.now at (pos 0)) (c.requires.positions_ok.within at (pos 0) c.loop-at-test.true))
    (later_too c.args.runs.now c.loop-at.low.position _ c.loop-at.low.before rises c.loop-at.invariant.spot.before)

pub place_between-requires-clause-order : goal.place_between-requires-clause-order
place_between-requires-clause-order c =
    let at = c.loop-at.at in
    let before : at - 1 < at = omega arith in
    let high = c.spot_at-high.ensures.position ∙ stored (slice_index_or c.args.positions.now at (pos 0)) (c.requires.positions_ok.within at (pos 0) c.loop-at-test.true) in
    rw (c.loop-at.invariant.position, high) (c.requires.positions_ok.rising (at - 1) at (pos 0) before c.loop-at-test.true)

pub loop-at-preserved : goal.loop-at-preserved
loop-at-preserved c =
    let positions = c.args.positions.now in
    let at = c.loop-at.at in
    let some : 0 < at = omega arith in
    let same : at ≡ at + 1 - 1 = omega arith in
    let high = c.spot_at-high.ensures.position ∙ stored (slice_index_or positions at (pos 0)) (c.requires.positions_ok.within at (pos 0) c.loop-at-test.true) in
    let between = rw (c.loop-at.invariant.position, high) at c.place_between.ensures in
    let fits : FitsSigned w32 c.place_between.result = search rules in
    let items = rw (to_z-of_z w32 c.place_between.result fits) at c.in_ok-push.ensures.items in
    record {
      added = place_added (StandsIn c.args.runs.now) positions at some c.loop-at-test.true _ _ _ c.place_between.result between c.loop-at.invariant.added items;
      position = high ∙ ap (λ (n : ℕ). slice_index_or positions n (pos 0)) same;
      spot = c.spot_at-high.ensures.spot;
    }

pub returns : goal.returns
returns c =
    let at = c.loop-at.at in
    let some : 0 < at = omega arith in
    let all : at ≡ length c.args.positions.now = omega (arith, c.requires.positions_ok.some) in
    last_added (StandsIn c.args.runs.now) c.args.positions.now at some all _ _ _ (pos 0) c.loop-at.invariant.added c.in_ok-push-2.ensures.items
