use Rattle.std.proofs.Common.{rules, ◌∙◌, w32, to_z, of_z}
use Rattle.std.proofs.lemmas.Int.{to_z-of_z}
use Rattle.mill_gouge.proofs.Looking.{over_clears, is_over, outside_move}
use Rattle.mill_gouge.proofs.reach.reach_of.Goals as goal

pub returns-then-low-lid : goal.returns-then-low-lid
returns-then-low-lid c =
    over_clears c.args.solid c.args.step.now c.args.part.now c.lid.result c.lid.ensures
    (is_over c.lid.result c.reach_box-low.result.1 _ _ _ (to_z-of_z w32 c.lid.result (search rules)) (to_z-of_z w32 c.reach_box-low.result.1 (search rules)) c.reach_box-low.ensures.low c.if-low-lid.true)

pub returns : goal.returns
returns c = record {
  sweep = c.new.ensures;
  outside = outside_move _ c.args.solid c.args.step.now c.reach_box-low.result.0 (to_z w32 (of_z w32 c.reach_box-low.result.1)) c.new.ensures c.reach_box-low.ensures.area
      (to_z-of_z w32 c.reach_box-low.result.1 (search rules) ∙ c.reach_box-low.ensures.low) c.reach_box-low.ensures.solid_ok c.requires;
}
