use Rattle.mill_contact_cone.proofs.Whole.{cone_edge, cone_turned}
use Rattle.mill_contact_cone.proofs.cone.touches_some_edge.Goals as goal

pub returns-then-touches_edge-clause-yes : goal.returns-then-touches_edge-clause-yes
returns-then-touches_edge-clause-yes c = λ h. cone_edge c.args.cone c.args.a c.args.b c.args.c (c.touches_edge.ensures.yes c.if-touches_edge.true)

pub returns-then-touches_edge-2-clause-yes : goal.returns-then-touches_edge-2-clause-yes
returns-then-touches_edge-2-clause-yes c = λ h.
    cone_turned c.args.cone c.args.a c.args.b c.args.c (cone_edge c.args.cone c.args.b c.args.c c.args.a (c.touches_edge-2.ensures.yes c.if-touches_edge-2.true))

pub returns-clause-yes : goal.returns-clause-yes
returns-clause-yes c = λ h.
    cone_turned c.args.cone c.args.a c.args.b c.args.c (cone_turned c.args.cone c.args.b c.args.c c.args.a (cone_edge c.args.cone c.args.c c.args.a c.args.b (c.touches_edge-3.ensures.yes h)))

pub returns-clause-no : goal.returns-clause-no
returns-clause-no c = λ h. record {
  ab = c.touches_edge.ensures.no c.if-touches_edge.false;
  bc = c.touches_edge-2.ensures.no c.if-touches_edge-2.false;
  ca = c.touches_edge-3.ensures.no h;
}
