use Rattle.std.proofs.Common.{subst, sym}
use lib.IntN.{pos}
use Rattle.mill_base.specs.Contact.{Touches}
use Rattle.mill_base.specs.Sizes.{IsWideCutter}
use Rattle.mill_base.specs.declared.cutter.Cutter.{Cutter}
use Rattle.mill_base.specs.declared.cutter.Cutter.TheVariants.{Flat}
use Rattle.mill_geom.specs.Sides.{IsTouch, along}
use Rattle.mill_geom.proofs.Kept.{given_kept}
use Rattle.mill_contact_flat.proofs.touch.Goals as goal

pub returns : goal.returns
returns c =
    let lies : Cutter → Type 0 = λ k. IsTouch c.touch_flat.result (λ t. Touches k (pos 1) (along c.args.axis c.args.tip t) c.args.tri.now) in
    let r = given_kept c.in-Flat.radius (subst IsWideCutter c.in-Flat.is c.requires.cutter_ok) in
    subst lies (sym c.in-Flat.is) (subst (λ z. lies (Flat z)) r c.touch_flat.ensures)
