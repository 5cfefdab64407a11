use Rattle.std.proofs.Common.{rules, subst}
use Rattle.std.specs.Prelude.{ℤ}
use Rattle.std.proofs.lemmas.Int.{to_z-of_z}
use mir.Syntax.{w32}
use mir.Val.{SFits}
use Rattle.mill_ffi.specs.Asked.{IsHeightAt}
use Rattle.mill_ffi.proofs.Written.{AreWrittenTo, written_end, written_more}
use Rattle.mill_ffi.proofs.drop.drop_all.Goals as goal

pub loop-i-preserved : goal.loop-i-preserved
loop-i-preserved c =
    let fits : SFits w32 c.height_at.result = search rules in
    written_more (IsHeightAt c.args.tool.now c.args.part.now _) c.args.places.now c.loop-i.heights c.loop-i.i _ c.height_at.result _ (to_z-of_z w32 c.height_at.result fits) c.loop-i-test.true c.loop-i.invariant c.height_at.ensures

pub returns : goal.returns
returns c =
    let so_far = subst (λ (floor : ℤ). AreWrittenTo (IsHeightAt c.args.tool.now c.args.part.now floor) c.args.places.now c.loop-i.heights c.loop-i.i) (to_z-of_z w32 c.args.floor c.ranges.floor) c.loop-i.invariant in
    written_end (IsHeightAt c.args.tool.now c.args.part.now c.args.floor) c.args.places.now c.loop-i.heights c.loop-i.i c.loop-i-test.false so_far
