use Rattle.std.specs.Prelude.{◌+◌}
use Rattle.std.proofs.Common.{◌∙◌, arith, rules, w32}
use Rattle.mill_base.specs.declared.motion.Kind.TheVariants.{Feed}
use Rattle.mill_control.specs.Holes.{depth_at, over_hole}
use Rattle.mill_control.specs.inner.Bounds.{height_behind}
use Rattle.mill_control.proofs.Depths.{count_most}
use Rattle.mill_control.proofs.Joining.{ok_gives, on_more, on_on, on_same}
use Rattle.mill_control.proofs.Sinking.{way-is}
use Rattle.mill_control.proofs.Stages.{one-bite}
use Rattle.std.proofs.lemmas.Int.{to_z-of_z}
use Rattle.mill_control.proofs.hole.bite.Goals as goal

pub overflow_add-done : goal.overflow_add-done
overflow_add-done c = omega (arith, count_most c.args.hole c.requires.hole)

pub returns-in_err-add-clause-on : goal.returns-in_err-add-clause-on
returns-in_err-add-clause-on c = on_same _ _ c.in_err-add.ensures.err

pub returns-clause-ok : goal.returns-clause-ok
returns-clause-ok c =
    let h = c.args.hole in
    let n = c.args.done in
    let start = to_z-of_z w32 c.height_behind-start.result (search rules) ∙ c.height_behind-start.ensures in
    let low = to_z-of_z w32 c.depth-depth.result (search rules) ∙ c.depth-depth.ensures.value in
    let high = to_z-of_z w32 c.args.top c.ranges.top ∙ c.requires.top in
    let feed = way-is _ _ Feed (over_hole h) c.over.result _ (height_behind h n) _ (depth_at h (n + 1)) c.in_ok-add.ensures.ok c.over.ensures start low in
    ok_gives c.go_out.result (λ added. one-bite h _ _ c.args.out.now.items _ _ n (n + 1) high low feed added) c.go_out.ensures.ok

pub returns-clause-on : goal.returns-clause-on
returns-clause-on c = on_on _ _ _ (on_more _ _ _ c.in_ok-add.ensures.ok) c.go_out.ensures.on
