use Rattle.mill_contact_cone.proofs.Whole.{cone_edge, cone_turned}
use Rattle.mill_contact_cone.proofs.Lifts.{seen_never}
use Rattle.mill_contact_cone.proofs.Bearings.{edge_side, side_turned}
use Rattle.mill_contact_cone.proofs.side.side_of_edges.Goals as goal

pub edge_side-requires-clause-apart : goal.edge_side-requires-clause-apart
edge_side-requires-clause-apart c = λ t. c.requires.apart (cone_edge c.args.cone c.args.a c.args.b c.args.c t)

pub edge_side-requires-then-is_seen-2-clause-apart : goal.edge_side-requires-then-is_seen-2-clause-apart
edge_side-requires-then-is_seen-2-clause-apart c = λ t. c.requires.apart (cone_turned c.args.cone c.args.a c.args.b c.args.c (cone_edge c.args.cone c.args.b c.args.c c.args.a t))

pub edge_side-requires-then-is_seen-3-clause-apart : goal.edge_side-requires-then-is_seen-3-clause-apart
edge_side-requires-then-is_seen-3-clause-apart c = λ t.
    c.requires.apart (cone_turned c.args.cone c.args.a c.args.b c.args.c (cone_turned c.args.cone c.args.b c.args.c c.args.a (cone_edge c.args.cone c.args.c c.args.a c.args.b t)))

pub returns-then-is_seen : goal.returns-then-is_seen
returns-then-is_seen c = edge_side c.edge_side.result c.args.cone c.args.a c.args.b c.args.c c.requires.cone_ok c.edge_side.ensures c.requires.apart

pub returns-then-is_seen-2 : goal.returns-then-is_seen-2
returns-then-is_seen-2 c =
    side_turned c.edge_side-then-is_seen-2.result c.args.cone c.args.a c.args.b c.args.c
    (edge_side c.edge_side-then-is_seen-2.result c.args.cone c.args.b c.args.c c.args.a c.requires.cone_ok c.edge_side-then-is_seen-2.ensures (λ t. c.requires.apart (cone_turned c.args.cone c.args.a c.args.b c.args.c t)))

pub returns-then-is_seen-3 : goal.returns-then-is_seen-3
returns-then-is_seen-3 c =
    side_turned c.edge_side-then-is_seen-3.result c.args.cone c.args.a c.args.b c.args.c
    (side_turned c.edge_side-then-is_seen-3.result c.args.cone c.args.b c.args.c c.args.a
    (edge_side c.edge_side-then-is_seen-3.result c.args.cone c.args.c c.args.a c.args.b c.requires.cone_ok c.edge_side-then-is_seen-3.ensures
    (λ t. c.requires.apart (cone_turned c.args.cone c.args.a c.args.b c.args.c (cone_turned c.args.cone c.args.b c.args.c c.args.a t)))))

pub returns : goal.returns
returns c = seen_never c.args.cone c.args.a c.args.b c.args.c (record {
  ab = c.is_seen.ensures.no c.if-is_seen.false;
  bc = c.is_seen-2.ensures.no c.if-is_seen-2.false;
  ca = c.is_seen-3.ensures.no c.if-is_seen-3.false;
})
