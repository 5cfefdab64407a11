use Rattle.std.proofs.Common.{◌∙◌}
use Rattle.mill_control.specs.Holes.{hole_moves}
use Rattle.mill_control.proofs.Joining.{all_stands, none_stands}
use Rattle.mill_control.proofs.hole.drill.Goals as goal

pub returns-clause-made : goal.returns-clause-made
returns-clause-made c = all_stands c.go_all-added.result c.all_or_none.result c.args.out.now.items _ _ (hole_moves c.args.hole) c.all_or_none.ensures.same c.go_all-added.ensures.ok c.all_or_none.ensures.ok

pub returns-clause-kept : goal.returns-clause-kept
returns-clause-kept c =
    none_stands c.all_or_none.result c.args.out.now.items _ _ c.len-first.result (c.len-first.ensures ∙ c.args.out.now.ok.0) c.go_all-added.ensures.on c.all_or_none.ensures.err
