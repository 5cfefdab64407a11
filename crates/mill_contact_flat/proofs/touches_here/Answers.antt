use Rattle.std.proofs.Common.{◌∙◌, sym, arith}
use Rattle.std.proofs.lemmas.Int.{ints}
use Rattle.std.proofs.lemmas.Bool.{false≢true}
use Rattle.mill_geom.proofs.Kept.{place_kept, radius_kept, area_kept}
use Rattle.mill_contact_flat.proofs.Touched.{under_none, apart_none}
use Rattle.mill_contact_flat.proofs.touches_here.Goals as goal

pub returns-then-highest-le0-clause-no : goal.returns-then-highest-le0-clause-no
returns-then-highest-le0-clause-no c = λ h.
    let k = place_kept c.highest.result c.highest.ensures.bound in
    let low = rw k at c.if-highest-le0.true in
    under_none c.args.radius c.args.a c.args.b c.args.c c.highest.result c.highest.ensures.under (omega (arith, ints))

pub returns-then-not-is_less-clause-no : goal.returns-then-not-is_less-clause-no
returns-then-not-is_less-clause-no c = λ h.
    let r = radius_kept c.args.radius c.requires.r_ok in
    let k = area_kept c.box_gap.result c.box_gap.ensures.bound in
    let less = rw (r, k) at c.is_less.ensures in
    apart_none c.args.radius c.args.a c.args.b c.args.c c.box_gap.result c.box_gap.ensures.apart (λ t. false≢true (sym c.if-not-is_less.true ∙ less.1 t))

pub returns-clause-yes : goal.returns-clause-yes
returns-clause-yes c =
    let r = radius_kept c.args.radius c.requires.r_ok in
    λ h. rw r at (c.touches_near.ensures.yes h)

pub returns-clause-no : goal.returns-clause-no
returns-clause-no c =
    let r = radius_kept c.args.radius c.requires.r_ok in
    λ h. rw r at (c.touches_near.ensures.no h)
