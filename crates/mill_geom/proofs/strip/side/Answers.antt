use Rattle.std.proofs.Common.{refl, arith}
use mir.Syntax.{w128}
use Rattle.std.proofs.lemmas.Int.{ints}
use Rattle.mill_base.proofs.Machine.{kept}
use Rattle.mill_geom.specs.Widths.{most_mixed_place}
use Rattle.mill_geom.specs.Sides.{slid_by}
use Rattle.mill_geom.proofs.Touching.{under_misses}
use Rattle.mill_geom.proofs.Strips.{beyond_never, mirror_never, between_strip, strip_more, strip_less}
use Rattle.mill_geom.proofs.Kept.{radius_kept}
use Rattle.mill_geom.proofs.strip.side.Goals as goal

pub returns-then-not-is_over : goal.returns-then-not-is_over
returns-then-not-is_over c = λ t v. under_misses c.args.radius (slid_by t c.args.a) (slid_by t c.args.b) (slid_by t c.args.c) (c.is_over.ensures.no c.if-not-is_over.true) v

pub returns-in_default : goal.returns-in_default
returns-in_default c =
    let r = radius_kept c.args.radius c.requires.r_ok in
    beyond_never c.args.radius c.args.a c.args.b c.args.c c.requires.r_least (rw r at (c.in_default.ensures.none refl))

pub returns-in_default-spot_below : goal.returns-in_default-spot_below
returns-in_default-spot_below c =
    let r = radius_kept c.args.radius c.requires.r_ok in
    mirror_never c.args.radius c.args.a c.args.b c.args.c c.requires.r_least
    (rw (r, c.mirrored.ensures.value, c.mirrored-2.ensures.value, c.mirrored-3.ensures.value) at (c.in_default-spot_below.ensures.none refl))

pub returns-then-between_x-gt0 : goal.returns-then-between_x-gt0
returns-then-between_x-gt0 c =
    let r = radius_kept c.args.radius c.requires.r_ok in
    let x = kept w128 c.between_x.result most_mixed_place c.between_x.ensures.bound.within refl in
    let low = rw r at c.in-Some.ensures.found in
    let high = rw (r, c.mirrored.ensures.value, c.mirrored-2.ensures.value, c.mirrored-3.ensures.value) at c.in-Some-spot_below.ensures.found in
    let ahead = rw x at c.if-between_x-gt0.true in
    strip_more c.args.radius c.args.a c.args.b c.args.c c.between_x.result c.requires.r_least c.requires.apart
    (between_strip c.args.radius c.args.a c.args.b c.args.c c.in-Some.low c.in-Some-spot_below.high c.between_x.result low.spot high.spot (rw r at c.between_x.ensures.between))
    (omega (arith, ints))

pub returns : goal.returns
returns c =
    let r = radius_kept c.args.radius c.requires.r_ok in
    let x = kept w128 c.between_x.result most_mixed_place c.between_x.ensures.bound.within refl in
    let low = rw r at c.in-Some.ensures.found in
    let high = rw (r, c.mirrored.ensures.value, c.mirrored-2.ensures.value, c.mirrored-3.ensures.value) at c.in-Some-spot_below.ensures.found in
    let behind = rw x at c.if-between_x-gt0.false in
    strip_less c.args.radius c.args.a c.args.b c.args.c c.between_x.result c.requires.r_least (c.is_over.ensures.yes c.if-not-is_over.false) c.requires.apart
    (between_strip c.args.radius c.args.a c.args.b c.args.c c.in-Some.low c.in-Some-spot_below.high c.between_x.result low.spot high.spot (rw r at c.between_x.ensures.between))
    (omega (arith, ints))
