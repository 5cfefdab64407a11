use Rattle.std.proofs.Common.{refl, w64}
use Rattle.mill_contact_cone.proofs.Clears.{corner_shown, corner_low, corner_far, corner_flat}
use Rattle.mill_contact_cone.proofs.Stored.{kept_in, z_kept}
use Rattle.mill_contact_cone.proofs.clear.holds.Goals as goal

pub returns-then-p-le0-clause-no : goal.returns-then-p-le0-clause-no
returns-then-p-le0-clause-no c = λ h.
    let z = z_kept c.args.p c.requires.p_ok in
    corner_low c.args.cone c.args.p (rw z at c.if-p-le0.true)

pub returns-then-apart-radius_square-clause-no : goal.returns-then-apart-radius_square-clause-no
returns-then-apart-radius_square-clause-no c = λ h.
    let apart = kept_in w64 _ _ c.apart-apart.ensures.bound refl in
    let radius = kept_in w64 _ _ c.radius_square.ensures.bound refl in
    corner_far c.args.cone c.args.p c.apart-apart.result c.radius_square.result c.apart-apart.ensures.value c.radius_square.ensures.value (rw (apart, radius) at c.if-apart-radius_square.true)

pub returns-clause-yes : goal.returns-clause-yes
returns-clause-yes c = λ h.
    let z = z_kept c.args.p c.requires.p_ok in
    let apart = kept_in w64 _ _ c.apart-apart.ensures.bound refl in
    let radius = kept_in w64 _ _ c.radius_square.ensures.bound refl in
    let across = kept_in w64 _ _ c.across.ensures.bound refl in
    let upward = kept_in w64 _ _ c.upward.ensures.bound refl in
    corner_shown c.args.cone c.args.p c.apart-apart.result c.radius_square.result c.across.result c.upward.result c.apart-apart.ensures.value c.radius_square.ensures.value
    (rw apart at c.across.ensures.value) (rw z at c.upward.ensures.value) (rw z at c.if-p-le0.false) (rw (apart, radius) at c.if-apart-radius_square.false) (rw (across, upward) at h)

pub returns-clause-no : goal.returns-clause-no
returns-clause-no c = λ h.
    let z = z_kept c.args.p c.requires.p_ok in
    let apart = kept_in w64 _ _ c.apart-apart.ensures.bound refl in
    let across = kept_in w64 _ _ c.across.ensures.bound refl in
    let upward = kept_in w64 _ _ c.upward.ensures.bound refl in
    corner_flat c.args.cone c.args.p c.apart-apart.result c.across.result c.upward.result c.apart-apart.ensures.value (rw apart at c.across.ensures.value) (rw z at c.upward.ensures.value) (rw (across, upward) at h)
