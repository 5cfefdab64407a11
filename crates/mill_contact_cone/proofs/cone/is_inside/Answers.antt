use Rattle.std.proofs.Common.{◌≡◌, false, IsTrue, sym, ◌∙◌, subst}
use lib.IntN.{pos}
use Rattle.mill_base.specs.Contact.{Touches}
use Rattle.mill_base.specs.Sizes.{IsWideCutter}
use Rattle.mill_contact_cone.proofs.Sizes.{same_cutter}
use Rattle.mill_contact_cone.proofs.cone.is_inside.Goals as goal

pub returns-clause-yes : goal.returns-clause-yes
returns-clause-yes c =
    let ok = subst IsWideCutter c.in-Cone.is c.requires.cutter_ok in
    let same = same_cutter c.cone_of.result c.in-Cone.radius c.in-Cone.rise c.in-Cone.run' ok.0 ok.1 c.cone_of.ensures.radius c.cone_of.ensures.rise c.cone_of.ensures.run in
    subst (λ k. IsTrue c.is_inside_cone.result → Touches k (pos 1) c.args.tip c.args.tri.now) (same ∙ sym c.in-Cone.is) c.is_inside_cone.ensures.yes

pub returns-clause-no : goal.returns-clause-no
returns-clause-no c =
    let ok = subst IsWideCutter c.in-Cone.is c.requires.cutter_ok in
    let same = same_cutter c.cone_of.result c.in-Cone.radius c.in-Cone.rise c.in-Cone.run' ok.0 ok.1 c.cone_of.ensures.radius c.cone_of.ensures.rise c.cone_of.ensures.run in
    subst (λ k. c.is_inside_cone.result ≡ false → Touches k (pos 1) c.args.tip c.args.tri.now → ⊥) (same ∙ sym c.in-Cone.is) c.is_inside_cone.ensures.no
