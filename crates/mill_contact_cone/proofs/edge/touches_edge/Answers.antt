use Rattle.mill_contact_cone.proofs.Zones.{edge_turned}
use Rattle.mill_contact_cone.proofs.edge.touches_edge.Goals as goal

pub returns-clause-yes : goal.returns-clause-yes
returns-clause-yes c = λ h. edge_turned c.args.cone c.args.q c.args.p (c.touches_rising-2.ensures.yes h)

pub returns-clause-no : goal.returns-clause-no
returns-clause-no c = λ h t. c.touches_rising-2.ensures.no h (edge_turned c.args.cone c.args.p c.args.q t)
