use Rattle.mill_plan.specs.Plans.{too_many_nodes, held}
use Rattle.mill_run.specs.Plan.{plan_line}
use Rattle.mill_run.proofs.Serving.{text_prints}
use Rattle.mill_run.proofs.plan.tell_plan_fault.Goals as goal

pub returns-in-TooManyNodes : goal.returns-in-TooManyNodes
returns-in-TooManyNodes g c =
    rw c.in-TooManyNodes.is (text_prints c.line_of_nodes.result (plan_line c.args.unit (too_many_nodes c.in-TooManyNodes.nodes)) 9 _ _ _ c.line_of_nodes.ensures c.tell_made.ensures)

pub returns-in-Held : goal.returns-in-Held
returns-in-Held g c =
    rw c.in-Held.is
    (text_prints c.line_of_held.result (plan_line c.args.unit (held c.in-Held.at c.in-Held.row c.in-Held.col)) 8 _ _ _ c.line_of_held.ensures c.tell_made-in-Held.ensures)
