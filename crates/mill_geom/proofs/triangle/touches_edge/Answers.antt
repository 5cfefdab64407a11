use Rattle.std.proofs.Common.{◌∙◌, sym}
use Rattle.std.proofs.lemmas.Bool.{false≢true}
use Rattle.mill_geom.proofs.Corners.{edge_touch, turn_touch}
use Rattle.mill_geom.proofs.Kept.{radius_kept}
use Rattle.mill_geom.proofs.triangle.touches_edge.Goals as goal

pub returns-then-touches_segment-clause-yes : goal.returns-then-touches_segment-clause-yes
returns-then-touches_segment-clause-yes c =
    let r = radius_kept c.args.radius c.requires.r_ok in
    let ab = rw r at c.touches_segment.ensures in
    λ h. edge_touch c.args.radius c.args.a c.args.b c.args.c (ab.0 c.if-touches_segment.true)

pub returns-then-touches_segment-2-clause-yes : goal.returns-then-touches_segment-2-clause-yes
returns-then-touches_segment-2-clause-yes c =
    let r = radius_kept c.args.radius c.requires.r_ok in
    let bc = rw r at c.touches_segment-2.ensures in
    λ h. turn_touch c.args.radius c.args.a c.args.b c.args.c (edge_touch c.args.radius c.args.b c.args.c c.args.a (bc.0 c.if-touches_segment-2.true))

pub returns-clause-yes : goal.returns-clause-yes
returns-clause-yes c =
    let r = radius_kept c.args.radius c.requires.r_ok in
    let ca = rw r at c.touches_segment-3.ensures in
    λ h. turn_touch c.args.radius c.args.a c.args.b c.args.c (turn_touch c.args.radius c.args.b c.args.c c.args.a (edge_touch c.args.radius c.args.c c.args.a c.args.b (ca.0 h)))

pub returns-clause-no : goal.returns-clause-no
returns-clause-no c =
    let r = radius_kept c.args.radius c.requires.r_ok in
    let ab = rw r at c.touches_segment.ensures in
    let bc = rw r at c.touches_segment-2.ensures in
    let ca = rw r at c.touches_segment-3.ensures in
    λ h. record {
      ab = λ t. false≢true (sym c.if-touches_segment.false ∙ ab.1 t);
      bc = λ t. false≢true (sym c.if-touches_segment-2.false ∙ bc.1 t);
      ca = λ t. false≢true (sym h ∙ ca.1 t);
    }
