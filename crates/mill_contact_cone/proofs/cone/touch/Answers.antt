use Rattle.std.proofs.Common.{sym, ◌∙◌, subst}
use lib.IntN.{pos}
use Rattle.mill_base.specs.Contact.{Touches}
use Rattle.mill_base.specs.Sizes.{IsWideCutter}
use Rattle.mill_geom.specs.Sides.{IsTouch, along}
use Rattle.mill_contact_cone.proofs.Sizes.{same_cutter}
use Rattle.mill_contact_cone.proofs.cone.touch.Goals as goal

pub returns : goal.returns
returns c =
    let ok = subst IsWideCutter c.in-Cone.is c.requires.cutter_ok in
    let same = same_cutter c.cone_of.result c.in-Cone.radius c.in-Cone.rise c.in-Cone.run' ok.0 ok.1 c.cone_of.ensures.radius c.cone_of.ensures.rise c.cone_of.ensures.run in
    subst (λ k. IsTouch c.touch_cone.result (λ t. Touches k (pos 1) (along c.args.axis c.args.tip t) c.args.tri.now)) (same ∙ sym c.in-Cone.is) c.touch_cone.ensures
