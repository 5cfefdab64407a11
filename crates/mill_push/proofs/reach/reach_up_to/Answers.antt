use Rattle.std.proofs.Common.{rules, subst, w32, arith}
use Rattle.std.proofs.lemmas.Int.{ints, to_z-of_z}
use Rattle.mill_push.specs.inner.Reaches.{IsReach}
use Rattle.mill_push.proofs.Reaching.{no_reach, not_over, over_by}
use Rattle.mill_push.proofs.reach.reach_up_to.Goals as goal

pub returns-then-top-z : goal.returns-then-top-z
returns-then-top-z c =
    let test = rw (to_z-of_z w32 c.args.z c.ranges.z, to_z-of_z w32 c.args.top c.ranges.top) at c.if-top-z.true in
    no_reach c.args.cutter _ c.requires (not_over c.args.top c.args.z (omega (test, arith, ints)))

pub returns : goal.returns
returns c =
    let z = to_z-of_z w32 c.args.z c.ranges.z in
    let top = to_z-of_z w32 c.args.top c.ranges.top in
    let test = rw (z, top) at c.if-top-z.false in
    let height = rw (z, top) at c.abs_diff.ensures in
    rw (to_z-of_z w32 c.reach_under.result (search rules))
    (subst (λ h. IsReach c.args.cutter h c.reach_under.result) (over_by c.args.top c.args.z c.abs_diff.result (omega (test, arith, ints)) height) c.reach_under.ensures)
