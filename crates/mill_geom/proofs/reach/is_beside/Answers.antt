use Rattle.mill_geom.proofs.Places.{misses_high_x, misses_low_x, misses_high_y, misses_low_y}
use Rattle.mill_geom.proofs.Kept.{radius_kept, place_kept}
use Rattle.mill_geom.proofs.reach.is_beside.Goals as goal

pub returns-then-all_from : goal.returns-then-all_from
returns-then-all_from c = λ h.
    let r = radius_kept c.args.radius c.requires.r_ok in
    let a = place_kept c.args.a.x c.requires.a_ok.x_ok in
    let b = place_kept c.args.b.x c.requires.b_ok.x_ok in
    let d = place_kept c.args.c.x c.requires.c_ok.x_ok in
    let far = rw (r, a, b, d) at (c.all_from.ensures.yes c.if-all_from.true) in
    misses_high_x c.args.radius c.args.a c.args.b c.args.c c.requires.r_least far.first far.second far.third

pub returns-then-all_to : goal.returns-then-all_to
returns-then-all_to c = λ h.
    let r = radius_kept c.args.radius c.requires.r_ok in
    let a = place_kept c.args.a.x c.requires.a_ok.x_ok in
    let b = place_kept c.args.b.x c.requires.b_ok.x_ok in
    let d = place_kept c.args.c.x c.requires.c_ok.x_ok in
    let far = rw (r, a, b, d) at (c.all_to.ensures.yes c.if-all_to.true) in
    misses_low_x c.args.radius c.args.a c.args.b c.args.c c.requires.r_least far.first far.second far.third

pub returns-then-all_from-2 : goal.returns-then-all_from-2
returns-then-all_from-2 c = λ h.
    let r = radius_kept c.args.radius c.requires.r_ok in
    let a = place_kept c.args.a.y c.requires.a_ok.y_ok in
    let b = place_kept c.args.b.y c.requires.b_ok.y_ok in
    let d = place_kept c.args.c.y c.requires.c_ok.y_ok in
    let far = rw (r, a, b, d) at (c.all_from-2.ensures.yes c.if-all_from-2.true) in
    misses_high_y c.args.radius c.args.a c.args.b c.args.c c.requires.r_least far.first far.second far.third

pub returns : goal.returns
returns c = λ h.
    let r = radius_kept c.args.radius c.requires.r_ok in
    let a = place_kept c.args.a.y c.requires.a_ok.y_ok in
    let b = place_kept c.args.b.y c.requires.b_ok.y_ok in
    let d = place_kept c.args.c.y c.requires.c_ok.y_ok in
    let far = rw (r, a, b, d) at (c.all_to-2.ensures.yes h) in
    misses_low_y c.args.radius c.args.a c.args.b c.args.c c.requires.r_least far.first far.second far.third
