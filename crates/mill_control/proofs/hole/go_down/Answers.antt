use Rattle.std.specs.Prelude.{◌≡◌, ◌+◌}
use Rattle.std.proofs.Common.{sym, ◌∙◌, arith, rules, w32}
use Rattle.std.proofs.lemmas.List.{append-nil}
use Rattle.mill_base.specs.declared.motion.Kind.TheVariants.{Rapid, Feed}
use Rattle.mill_control.specs.Holes.{bottom_of, over_hole}
use Rattle.mill_control.specs.inner.Bounds.{height_behind}
use Rattle.mill_control.proofs.Joining.{ok_gives, on_either, on_more, on_on, on_same}
use Rattle.mill_control.proofs.Sinking.{way-is}
use Rattle.mill_control.proofs.Stages.{down, more-bites}
use Rattle.std.proofs.lemmas.Int.{to_z-of_z}
use Rattle.mill_base.proofs.Ranges.{coordinate, within_of_unit}
use Rattle.mill_control.proofs.hole.go_down.Goals as goal

pub loop-done-init : goal.loop-done-init
loop-done-init c = sym (append-nil c.args.out.now.items)

pub loop-done-preserved : goal.loop-done-preserved
loop-done-preserved c = more-bites c.args.hole c.args.out.now.items _ _ c.loop-done.done (c.loop-done.done + 1) (omega arith) c.loop-done.invariant c.in_ok-bite.ensures.ok

pub returns-in_err-bite-clause-on : goal.returns-in_err-bite-clause-on
returns-in_err-bite-clause-on c = on_on _ _ _ (on_more _ _ _ c.loop-done.invariant) c.bite.ensures.on

pub returns-in_err-add-clause-on : goal.returns-in_err-add-clause-on
returns-in_err-add-clause-on c = on_on _ _ _ (on_more _ _ _ c.loop-done.invariant) (on_same _ _ c.in_err-add.ensures.err)

pub returns-clause-ok : goal.returns-clause-ok
returns-clause-ok c =
    let h = c.args.hole in
    let n = c.count_bites-bites.result in
    let all : c.loop-done.done ≡ n = omega arith in
    let start = to_z-of_z w32 c.height_behind-start.result (search rules) ∙ c.height_behind-start.ensures in
    let low = to_z-of_z w32 c.bottom-bottom.result (search rules) ∙ c.bottom-bottom.ensures in
    let end = coordinate h.end (within_of_unit h.unit h.end c.requires.hole.end) in
    let feed = way-is _ _ Feed (over_hole h) c.over.result _ (height_behind h n) _ (bottom_of h) c.in_ok-add.ensures.ok c.over.ensures start low in
    ok_gives c.add-2.result (λ added. down h c.args.top c.args.out.now.items _ _ _ c.loop-done.done n c.requires.top all c.count_bites-bites.ensures.value c.loop-done.invariant feed
    (way-is _ _ Rapid (over_hole h) c.over-2.result _ (bottom_of h) _ h.end added c.over-2.ensures low end)) c.add-2.ensures.ok

pub returns-clause-on : goal.returns-clause-on
returns-clause-on c =
    on_on _ _ _ (on_more _ _ _ c.loop-done.invariant) (on_on _ _ _ (on_more _ _ _ c.in_ok-add.ensures.ok) (on_either c.add-2.result _ _ _ c.add-2.ensures.ok c.add-2.ensures.err))
