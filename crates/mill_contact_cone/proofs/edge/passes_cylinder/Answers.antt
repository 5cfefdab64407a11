use Rattle.std.proofs.Common.{refl, sym, ◌∙◌, w64}
use Rattle.std.proofs.lemmas.Bool.{false≢true}
use Rattle.mill_contact_cone.proofs.Passes.{upper_form_of, is_upper, high_yes, high_no, is_least, is_less, not_less}
use Rattle.mill_contact_cone.proofs.Stored.{kept_in}
use Rattle.mill_contact_cone.proofs.edge.passes_cylinder.Goals as goal

pub returns-then-upper_product-ge0-clause-no : goal.returns-then-upper_product-ge0-clause-no
returns-then-upper_product-ge0-clause-no c = λ h.
    let product = kept_in w64 _ _ c.upper_product.ensures.bound refl in
    let least = is_least _ _ c.upper_product.ensures.value (rw product at c.if-upper_product-ge0.true) in
    high_no c.args.cone c.args.p c.args.q (upper_form_of c.args.cone c.args.p c.args.q) c.requires.cone_ok c.requires.edge.p_is c.requires.edge.q_is (is_upper c.args.cone c.args.p c.args.q) c.requires.edge.p_over c.requires.edge.q_over c.requires.p_out c.requires.q_out (λ x y. not_less _ least x)

pub returns-clause-yes : goal.returns-clause-yes
returns-clause-yes c = λ h.
    let product = kept_in w64 _ _ c.upper_product.ensures.bound refl in
    let less = is_less _ _ c.upper_product.ensures.value (rw product at c.if-upper_product-ge0.false) in
    high_yes c.args.cone c.args.p c.args.q c.upper_form.result c.upper_form.ensures.value c.requires.edge.p_over c.requires.edge.q_over less (c.has_both_signs.ensures.0 h)

pub returns-clause-no : goal.returns-clause-no
returns-clause-no c = λ h.
    high_no c.args.cone c.args.p c.args.q c.upper_form.result c.requires.cone_ok c.requires.edge.p_is c.requires.edge.q_is c.upper_form.ensures.value c.requires.edge.p_over c.requires.edge.q_over c.requires.p_out c.requires.q_out
    (λ x y. false≢true (sym h ∙ c.has_both_signs.ensures.1 y))
