use Rattle.mill_geom.specs.Sides.{slid_by}
use Rattle.mill_geom.proofs.Touching.{under_misses}
use Rattle.mill_geom.proofs.Besides.{high_y_never, low_y_never, high_x_more, low_x_less}
use Rattle.mill_geom.proofs.Kept.{radius_kept, place_kept}
use Rattle.mill_geom.proofs.cylinder.box_side.Goals as goal

pub returns-then-not-is_over-clause-apart : goal.returns-then-not-is_over-clause-apart
returns-then-not-is_over-clause-apart c = λ t v. under_misses c.args.radius (slid_by t c.args.a) (slid_by t c.args.b) (slid_by t c.args.c) (c.is_over.ensures.no c.if-not-is_over.true) v

pub returns-then-all_from-clause-apart : goal.returns-then-all_from-clause-apart
returns-then-all_from-clause-apart c =
    let r = radius_kept c.args.radius c.requires.r_ok in
    let a = place_kept c.args.a.y c.requires.a_ok.y_ok in
    let b = place_kept c.args.b.y c.requires.b_ok.y_ok in
    let d = place_kept c.args.c.y c.requires.c_ok.y_ok in
    high_y_never c.args.radius c.args.a c.args.b c.args.c c.requires.r_least (rw (r, a, b, d) at (c.all_from.ensures.yes c.if-all_from.true))

pub returns-then-all_to-clause-apart : goal.returns-then-all_to-clause-apart
returns-then-all_to-clause-apart c =
    let r = radius_kept c.args.radius c.requires.r_ok in
    let a = place_kept c.args.a.y c.requires.a_ok.y_ok in
    let b = place_kept c.args.b.y c.requires.b_ok.y_ok in
    let d = place_kept c.args.c.y c.requires.c_ok.y_ok in
    low_y_never c.args.radius c.args.a c.args.b c.args.c c.requires.r_least (rw (r, a, b, d) at (c.all_to.ensures.yes c.if-all_to.true))

pub returns-then-all_from-2-clause-apart : goal.returns-then-all_from-2-clause-apart
returns-then-all_from-2-clause-apart c =
    let r = radius_kept c.args.radius c.requires.r_ok in
    let a = place_kept c.args.a.x c.requires.a_ok.x_ok in
    let b = place_kept c.args.b.x c.requires.b_ok.x_ok in
    let d = place_kept c.args.c.x c.requires.c_ok.x_ok in
    high_x_more c.args.radius c.args.a c.args.b c.args.c c.requires.r_least (rw (r, a, b, d) at (c.all_from-2.ensures.yes c.if-all_from-2.true))

pub returns-then-all_to-2-clause-apart : goal.returns-then-all_to-2-clause-apart
returns-then-all_to-2-clause-apart c =
    let r = radius_kept c.args.radius c.requires.r_ok in
    let a = place_kept c.args.a.x c.requires.a_ok.x_ok in
    let b = place_kept c.args.b.x c.requires.b_ok.x_ok in
    let d = place_kept c.args.c.x c.requires.c_ok.x_ok in
    low_x_less c.args.radius c.args.a c.args.b c.args.c c.requires.r_least (rw (r, a, b, d) at (c.all_to-2.ensures.yes c.if-all_to-2.true))

pub returns-clause-near : goal.returns-clause-near
returns-clause-near c = λ h.
    let r = radius_kept c.args.radius c.requires.r_ok in
    let a_x = place_kept c.args.a.x c.requires.a_ok.x_ok in
    let b_x = place_kept c.args.b.x c.requires.b_ok.x_ok in
    let c_x = place_kept c.args.c.x c.requires.c_ok.x_ok in
    let a_y = place_kept c.args.a.y c.requires.a_ok.y_ok in
    let b_y = place_kept c.args.b.y c.requires.b_ok.y_ok in
    let c_y = place_kept c.args.c.y c.requires.c_ok.y_ok in
    record {
      over = c.is_over.ensures.yes c.if-not-is_over.false;
      x_from = rw (r, a_x, b_x, c_x) at (c.all_from-2.ensures.no c.if-all_from-2.false);
      x_to = rw (r, a_x, b_x, c_x) at (c.all_to-2.ensures.no c.if-all_to-2.false);
      y_from = rw (r, a_y, b_y, c_y) at (c.all_from.ensures.no c.if-all_from.false);
      y_to = rw (r, a_y, b_y, c_y) at (c.all_to.ensures.no c.if-all_to.false);
    }
