use Rattle.mill_contact_cone.proofs.Whole.{cone_edge, cone_turned}
use Rattle.mill_contact_cone.proofs.Bearings.{edge_side, side_turned}
use Rattle.mill_contact_cone.proofs.Clears.{corner_edge}
use Rattle.mill_contact_cone.specs.inner.Positions.{flattened}
use Rattle.mill_contact_cone.proofs.side.side.Goals as goal

pub edge_side-requires-clause-seen : goal.edge_side-requires-clause-seen
edge_side-requires-clause-seen c = corner_edge c.args.cone (flattened c.args.a) (flattened c.args.b) (c.is_corner_seen.ensures.yes c.if-is_corner_seen.true)

pub edge_side-requires-clause-apart : goal.edge_side-requires-clause-apart
edge_side-requires-clause-apart c = λ t. c.requires.apart (cone_edge c.args.cone c.args.a c.args.b c.args.c t)

pub edge_side-requires-then-is_corner_seen-2-clause-seen : goal.edge_side-requires-then-is_corner_seen-2-clause-seen
edge_side-requires-then-is_corner_seen-2-clause-seen c = corner_edge c.args.cone (flattened c.args.b) (flattened c.args.c) (c.is_corner_seen-2.ensures.yes c.if-is_corner_seen-2.true)

pub edge_side-requires-then-is_corner_seen-2-clause-apart : goal.edge_side-requires-then-is_corner_seen-2-clause-apart
edge_side-requires-then-is_corner_seen-2-clause-apart c = λ t. c.requires.apart (cone_turned c.args.cone c.args.a c.args.b c.args.c (cone_edge c.args.cone c.args.b c.args.c c.args.a t))

pub edge_side-requires-then-is_corner_seen-3-clause-seen : goal.edge_side-requires-then-is_corner_seen-3-clause-seen
edge_side-requires-then-is_corner_seen-3-clause-seen c = corner_edge c.args.cone (flattened c.args.c) (flattened c.args.a) (c.is_corner_seen-3.ensures.yes c.if-is_corner_seen-3.true)

pub edge_side-requires-then-is_corner_seen-3-clause-apart : goal.edge_side-requires-then-is_corner_seen-3-clause-apart
edge_side-requires-then-is_corner_seen-3-clause-apart c = λ t.
    c.requires.apart (cone_turned c.args.cone c.args.a c.args.b c.args.c (cone_turned c.args.cone c.args.b c.args.c c.args.a (cone_edge c.args.cone c.args.c c.args.a c.args.b t)))

pub returns-then-is_corner_seen : goal.returns-then-is_corner_seen
returns-then-is_corner_seen c = edge_side c.edge_side.result c.args.cone c.args.a c.args.b c.args.c c.requires.cone_ok c.edge_side.ensures c.requires.apart

pub returns-then-is_corner_seen-2 : goal.returns-then-is_corner_seen-2
returns-then-is_corner_seen-2 c =
    side_turned c.edge_side-then-is_corner_seen-2.result c.args.cone c.args.a c.args.b c.args.c
    (edge_side c.edge_side-then-is_corner_seen-2.result c.args.cone c.args.b c.args.c c.args.a c.requires.cone_ok c.edge_side-then-is_corner_seen-2.ensures (λ t. c.requires.apart (cone_turned c.args.cone c.args.a c.args.b c.args.c t)))

pub returns-then-is_corner_seen-3 : goal.returns-then-is_corner_seen-3
returns-then-is_corner_seen-3 c =
    side_turned c.edge_side-then-is_corner_seen-3.result c.args.cone c.args.a c.args.b c.args.c
    (side_turned c.edge_side-then-is_corner_seen-3.result c.args.cone c.args.b c.args.c c.args.a
    (edge_side c.edge_side-then-is_corner_seen-3.result c.args.cone c.args.c c.args.a c.args.b c.requires.cone_ok c.edge_side-then-is_corner_seen-3.ensures
    (λ t. c.requires.apart (cone_turned c.args.cone c.args.a c.args.b c.args.c (cone_turned c.args.cone c.args.b c.args.c c.args.a t)))))

pub side_of_edges-requires-clause-out : goal.side_of_edges-requires-clause-out
side_of_edges-requires-clause-out c = record {
  a_out = c.is_corner_seen.ensures.no c.if-is_corner_seen.false;
  b_out = c.is_corner_seen-2.ensures.no c.if-is_corner_seen-2.false;
  c_out = c.is_corner_seen-3.ensures.no c.if-is_corner_seen-3.false;
}
