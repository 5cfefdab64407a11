use Rattle.std.proofs.Common.{◌≡◌, ◌+◌, ℕ, length, slice_index_or, pos, subst, ◌∙◌, arith}
use Rattle.std.proofs.lemmas.List.{get_or_default}
use Rattle.std.specs.Prelude.{ℤ, MatchBool}
use Rattle.mill_push.proofs.Stored.{stored}
use Rattle.mill_push.specs.Runs.{StandsIn}
use Rattle.mill_level.specs.inner.Fibers.{AreAdded, Tells}
use Rattle.mill_level.proofs.Adding.{none_added, one_added}
use Rattle.mill_level.proofs.Ascending.{later_too, none_before}
use Rattle.mill_level.proofs.fiber.add_blocked.Goals as goal

pub loop-position-init : goal.loop-position-init
loop-position-init c = record { added = none_added (Tells (StandsIn c.args.runs.now) c.args.positions.now) c.args.blocked.now.items; known = λ inside. none_before c.args.runs.now _ }

pub spot_at-spot-requires-clause-known : goal.spot_at-spot-requires-clause-known
spot_at-spot-requires-clause-known c =
    let k = c.loop-position.position-index in
    rw (stored (slice_index_or c.args.positions.now k (pos 0)) (c.requires.positions_ok.within k (pos 0) c.loop-position-test.true)) (c.loop-position.invariant.known c.loop-position-test.true)

pub loop-position-preserved : goal.loop-position-preserved
loop-position-preserved c =
    let runs = c.args.runs.now in
    let positions = c.args.positions.now in
    let k = c.loop-position.position-index in
    let b = c.is_held.result in
    let here = c.spot_at-spot.ensures.position ∙ stored (slice_index_or positions k (pos 0)) (c.requires.positions_ok.within k (pos 0) c.loop-position-test.true) in
    let told = rw here at c.is_held.ensures in
    record {
      added = one_added (Tells (StandsIn runs) positions) k _ _ _ b c.loop-position.invariant.added
          (λ v. subst (λ (p : ℤ). MatchBool b (StandsIn runs p) (¬ StandsIn runs p)) (get_or_default positions k (pos 0) v c.loop-position-test.true) told)
          c.in_ok-push.ensures.items;
      known = λ inside. later_too runs _ _ _ (rw here (c.requires.positions_ok.rising k (k + 1) (pos 0) (omega arith) inside)) c.spot_at-spot.ensures.spot.before;
    }

pub returns : goal.returns
returns c =
    let all : c.loop-position.position-index ≡ length c.args.positions.now = omega arith in
    subst (λ (n : ℕ). AreAdded (Tells (StandsIn c.args.runs.now) c.args.positions.now) n c.args.blocked.now.items c.loop-position.blocked.items) all c.loop-position.invariant.added
