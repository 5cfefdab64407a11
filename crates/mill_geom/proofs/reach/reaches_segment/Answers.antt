use Rattle.std.proofs.Common.{arith}
use Rattle.std.proofs.lemmas.Int.{ints}
use Rattle.mill_geom.proofs.Reaching.{without_end, with_end, swap_reach, raised_segment, lowered_segment, on_level}
use Rattle.mill_geom.proofs.Kept.{radius_kept, place_kept}
use Rattle.mill_geom.proofs.reach.reaches_segment.Goals as goal

pub returns-then-p-lt0-clause-yes : goal.returns-then-p-lt0-clause-yes
returns-then-p-lt0-clause-yes c = λ h.
    let r = radius_kept c.args.radius c.requires.r_ok in
    with_end c.args.radius c.args.p c.args.q (rw r at (c.reaches_corner.ensures.yes h))

pub returns-then-p-lt0-clause-no : goal.returns-then-p-lt0-clause-no
returns-then-p-lt0-clause-no c = λ h t.
    let r = radius_kept c.args.radius c.requires.r_ok in
    let p = place_kept c.args.p.z c.requires.p_ok.z_ok in
    let down = rw p at c.if-p-lt0.true in
    (rw r at (c.reaches_corner.ensures.no h)) (without_end c.args.radius c.args.p c.args.q (omega (arith, ints)) c.requires.q_under t)

pub returns-then-q-lt0-clause-yes : goal.returns-then-q-lt0-clause-yes
returns-then-q-lt0-clause-yes c = λ h.
    let r = radius_kept c.args.radius c.requires.r_ok in
    swap_reach c.args.radius c.args.q c.args.p (with_end c.args.radius c.args.q c.args.p (rw r at (c.reaches_corner-then-q-lt0.ensures.yes h)))

pub returns-then-q-lt0-clause-no : goal.returns-then-q-lt0-clause-no
returns-then-q-lt0-clause-no c = λ h t.
    let r = radius_kept c.args.radius c.requires.r_ok in
    let q = place_kept c.args.q.z c.requires.q_ok.z_ok in
    let down = rw q at c.if-q-lt0.true in
    (rw r at (c.reaches_corner-then-q-lt0.ensures.no h))
    (without_end c.args.radius c.args.q c.args.p (omega (arith, ints)) c.requires.p_under (swap_reach c.args.radius c.args.p c.args.q t))

pub returns-clause-yes : goal.returns-clause-yes
returns-clause-yes c = λ h.
    let r = radius_kept c.args.radius c.requires.r_ok in
    let p = place_kept c.args.p.z c.requires.p_ok.z_ok in
    let q = place_kept c.args.q.z c.requires.q_ok.z_ok in
    let p_up = rw p at c.if-p-lt0.false in
    let q_up = rw q at c.if-q-lt0.false in
    lowered_segment c.args.radius c.args.p c.args.q (on_level c.args.p.z c.requires.p_under (omega (arith, ints))) (on_level c.args.q.z c.requires.q_under (omega (arith, ints)))
    (rw (r, c.raised.ensures.place, c.raised-2.ensures.place) at (c.touches_segment.ensures.0 h))

pub returns-clause-no : goal.returns-clause-no
returns-clause-no c = λ h t.
    let r = radius_kept c.args.radius c.requires.r_ok in
    let test = rw (r, c.raised.ensures.place, c.raised-2.ensures.place) at c.touches_segment.ensures in
    let yes = test.1 (raised_segment c.args.radius c.args.p c.args.q t) in
    cc
