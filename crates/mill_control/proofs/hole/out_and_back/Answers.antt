use Rattle.std.specs.Prelude.{◌≡◌, ◌+ℤ◌, [], ◌∷◌}
use Rattle.std.proofs.Common.{◌∙◌, rules, w32}
use Rattle.mill_base.specs.Numbers.{lesser}
use Rattle.mill_base.specs.declared.motion.Kind.TheVariants.{Rapid}
use Rattle.mill_control.specs.Holes.{at_height, over_hole, sunk}
use Rattle.mill_control.proofs.Joining.{ok_gives, on_either, on_more, on_on, on_same, two_added}
use Rattle.mill_control.proofs.Sinking.{way-is}
use Rattle.std.proofs.lemmas.Int.{to_z-of_z}
use Rattle.mill_control.proofs.hole.out_and_back.Goals as goal

pub returns-in_err-add-clause-on : goal.returns-in_err-add-clause-on
returns-in_err-add-clause-on c = on_same _ _ c.in_err-add.ensures.err

pub returns-clause-ok : goal.returns-clause-ok
returns-clause-ok c =
    let h = c.args.hole in
    let back = lesser c.args.top (c.args.depth +ℤ h.peck_clearance) in
    let top = to_z-of_z w32 c.args.top c.ranges.top in
    let depth = to_z-of_z w32 c.args.depth c.ranges.depth in
    let over : c.shortly_over-back.result ≡ back = rw (top, depth) at c.shortly_over-back.ensures in
    let kept = to_z-of_z w32 c.shortly_over-back.result (search rules) in
    let up = way-is _ _ Rapid (over_hole h) c.over.result _ c.args.depth _ c.args.top c.in_ok-add.ensures.ok c.over.ensures depth top in
    ok_gives c.add-2.result (λ added. two_added c.args.out.now.items (sunk (at_height (over_hole h) c.args.depth) ((Rapid, c.args.top) ∷ [])) (sunk (at_height (over_hole h) c.args.top) ((Rapid, back) ∷ [])) _ _ up
    (way-is _ _ Rapid (over_hole h) c.over-2.result _ c.args.top _ back added c.over-2.ensures top (kept ∙ over))) c.add-2.ensures.ok

pub returns-clause-on : goal.returns-clause-on
returns-clause-on c = on_on _ _ _ (on_more _ _ _ c.in_ok-add.ensures.ok) (on_either c.add-2.result _ _ _ c.add-2.ensures.ok c.add-2.ensures.err)
