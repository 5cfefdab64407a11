use Rattle.std.proofs.Common.{refl, w64}
use Rattle.mill_contact_cone.proofs.Clears.{low_shown, far_shown, wall_shown}
use Rattle.mill_contact_cone.proofs.Stored.{kept_in}
use Rattle.mill_contact_cone.proofs.clear.is_clear.Goals as goal

pub returns-then-top-le0 : goal.returns-then-top-le0
returns-then-top-le0 c = λ h.
    let top = kept_in w64 _ _ c.highest-top.ensures.bound refl in
    low_shown c.args.cone c.offset_of-a.result c.offset_of-b.result c.offset_of-c.result c.args.a c.args.b c.args.c c.highest-top.result
    (record { a_is = c.offset_of-a.ensures.value; b_is = c.offset_of-b.ensures.value; c_is = c.offset_of-c.ensures.value }) c.highest-top.ensures.under (rw top at c.if-top-le0.true)

pub returns-then-gap-radius_square : goal.returns-then-gap-radius_square
returns-then-gap-radius_square c = λ h.
    let gap = kept_in w64 _ _ c.box_gap-gap.ensures.bound refl in
    let radius = kept_in w64 _ _ c.radius_square.ensures.bound refl in
    far_shown c.args.cone c.offset_of-a.result c.offset_of-b.result c.offset_of-c.result c.args.a c.args.b c.args.c c.box_gap-gap.result c.radius_square.result
    (record { a_is = c.offset_of-a.ensures.value; b_is = c.offset_of-b.ensures.value; c_is = c.offset_of-c.ensures.value }) c.box_gap-gap.ensures.apart c.radius_square.ensures.value
    (rw (gap, radius) at c.if-gap-radius_square.true)

pub returns : goal.returns
returns c = λ h.
    let top = kept_in w64 _ _ c.highest-top.ensures.bound refl in
    let gap = kept_in w64 _ _ c.box_gap-gap.ensures.bound refl in
    let across = kept_in w64 _ _ c.across.ensures.bound refl in
    let upward = kept_in w64 _ _ c.upward.ensures.bound refl in
    wall_shown c.args.cone c.offset_of-a.result c.offset_of-b.result c.offset_of-c.result c.args.a c.args.b c.args.c c.highest-top.result c.box_gap-gap.result c.upward.result c.across.result
    (record { a_is = c.offset_of-a.ensures.value; b_is = c.offset_of-b.ensures.value; c_is = c.offset_of-c.ensures.value }) c.highest-top.ensures.under c.box_gap-gap.ensures.apart
    (rw top at c.upward.ensures.value) (rw gap at c.across.ensures.value) (rw (upward, across) at h)
