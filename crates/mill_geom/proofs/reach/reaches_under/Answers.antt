use Rattle.std.proofs.Common.{arith}
use Rattle.std.proofs.lemmas.Int.{ints}
use Rattle.mill_geom.proofs.Reaching.{without_first, with_first, turn_reach, back_reach, raised_triangle, lowered_triangle, on_level}
use Rattle.mill_geom.proofs.Kept.{radius_kept, place_kept}
use Rattle.mill_geom.proofs.reach.reaches_under.Goals as goal

pub returns-then-a-lt0-clause-yes : goal.returns-then-a-lt0-clause-yes
returns-then-a-lt0-clause-yes c = λ h.
    let r = radius_kept c.args.radius c.requires.r_ok in
    with_first c.args.radius c.args.a c.args.b c.args.c (rw r at (c.reaches_segment.ensures.yes h))

pub returns-then-a-lt0-clause-no : goal.returns-then-a-lt0-clause-no
returns-then-a-lt0-clause-no c = λ h t.
    let r = radius_kept c.args.radius c.requires.r_ok in
    let a = place_kept c.args.a.z c.requires.a_ok.z_ok in
    let down = rw a at c.if-a-lt0.true in
    (rw r at (c.reaches_segment.ensures.no h))
    (without_first c.args.radius c.args.a c.args.b c.args.c (omega (arith, ints)) c.requires.under.second c.requires.under.third t)

pub returns-then-b-lt0-clause-yes : goal.returns-then-b-lt0-clause-yes
returns-then-b-lt0-clause-yes c = λ h.
    let r = radius_kept c.args.radius c.requires.r_ok in
    turn_reach c.args.radius c.args.a c.args.b c.args.c (with_first c.args.radius c.args.b c.args.c c.args.a (rw r at (c.reaches_segment-then-b-lt0.ensures.yes h)))

pub returns-then-b-lt0-clause-no : goal.returns-then-b-lt0-clause-no
returns-then-b-lt0-clause-no c = λ h t.
    let r = radius_kept c.args.radius c.requires.r_ok in
    let b = place_kept c.args.b.z c.requires.b_ok.z_ok in
    let down = rw b at c.if-b-lt0.true in
    (rw r at (c.reaches_segment-then-b-lt0.ensures.no h))
    (without_first c.args.radius c.args.b c.args.c c.args.a (omega (arith, ints)) c.requires.under.third c.requires.under.first (back_reach c.args.radius c.args.a c.args.b c.args.c t))

pub returns-then-c-lt0-clause-yes : goal.returns-then-c-lt0-clause-yes
returns-then-c-lt0-clause-yes c = λ h.
    let r = radius_kept c.args.radius c.requires.r_ok in
    back_reach c.args.radius c.args.c c.args.a c.args.b (with_first c.args.radius c.args.c c.args.a c.args.b (rw r at (c.reaches_segment-then-c-lt0.ensures.yes h)))

pub returns-then-c-lt0-clause-no : goal.returns-then-c-lt0-clause-no
returns-then-c-lt0-clause-no c = λ h t.
    let r = radius_kept c.args.radius c.requires.r_ok in
    let d = place_kept c.args.c.z c.requires.c_ok.z_ok in
    let down = rw d at c.if-c-lt0.true in
    (rw r at (c.reaches_segment-then-c-lt0.ensures.no h))
    (without_first c.args.radius c.args.c c.args.a c.args.b (omega (arith, ints)) c.requires.under.first c.requires.under.second (turn_reach c.args.radius c.args.c c.args.a c.args.b t))

pub returns-clause-yes : goal.returns-clause-yes
returns-clause-yes c = λ h.
    let r = radius_kept c.args.radius c.requires.r_ok in
    let a = place_kept c.args.a.z c.requires.a_ok.z_ok in
    let b = place_kept c.args.b.z c.requires.b_ok.z_ok in
    let d = place_kept c.args.c.z c.requires.c_ok.z_ok in
    let a_up = rw a at c.if-a-lt0.false in
    let b_up = rw b at c.if-b-lt0.false in
    let c_up = rw d at c.if-c-lt0.false in
    lowered_triangle c.args.radius c.args.a c.args.b c.args.c
    (on_level c.args.a.z c.requires.under.first (omega (arith, ints))) (on_level c.args.b.z c.requires.under.second (omega (arith, ints))) (on_level c.args.c.z c.requires.under.third (omega (arith, ints)))
    (rw (r, c.raised.ensures.place, c.raised-2.ensures.place, c.raised-3.ensures.place) at (c.touches_triangle.ensures.yes h))

pub returns-clause-no : goal.returns-clause-no
returns-clause-no c = λ h t.
    let r = radius_kept c.args.radius c.requires.r_ok in
    (rw (r, c.raised.ensures.place, c.raised-2.ensures.place, c.raised-3.ensures.place) at (c.touches_triangle.ensures.no h))
    (raised_triangle c.args.radius c.args.a c.args.b c.args.c t)
