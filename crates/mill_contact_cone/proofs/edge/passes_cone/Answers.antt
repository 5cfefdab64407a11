use Rattle.std.proofs.Common.{inl, refl, sym, ◌∙◌, w64}
use Rattle.std.proofs.lemmas.Bool.{false≢true}
use Rattle.mill_contact_cone.proofs.Passes.{lower_form_of, is_lower, passes_yes, passes_no, is_least, is_less, not_less}
use Rattle.mill_contact_cone.proofs.Stored.{kept_in}
use Rattle.mill_contact_cone.proofs.Zones.{lower_under}
use Rattle.mill_contact_cone.proofs.edge.passes_cone.Goals as goal

pub returns-then-lower_product-ge0-clause-no : goal.returns-then-lower_product-ge0-clause-no
returns-then-lower_product-ge0-clause-no c = λ h.
    let product = kept_in w64 _ _ c.lower_product.ensures.bound refl in
    let least = is_least _ _ c.lower_product.ensures.value (rw product at c.if-lower_product-ge0.true) in
    let under = lower_under c.args.cone c.args.p c.args.q c.requires.cone_ok c.requires.edge.p_is c.requires.edge.q_is c.requires.edge.rising (inl c.requires.edge.under) in
    passes_no c.args.cone c.args.p c.args.q (lower_form_of c.args.cone c.args.p c.args.q) c.requires.cone_ok c.requires.edge.p_is c.requires.edge.q_is (is_lower c.args.cone c.args.p c.args.q) c.requires.p_up c.requires.edge.q_up under c.requires.edge.under c.requires.p_out c.requires.q_out (λ x y. not_less _ least x)

pub returns-clause-yes : goal.returns-clause-yes
returns-clause-yes c = λ h.
    let product = kept_in w64 _ _ c.lower_product.ensures.bound refl in
    let less = is_less _ _ c.lower_product.ensures.value (rw product at c.if-lower_product-ge0.false) in
    let under = lower_under c.args.cone c.args.p c.args.q c.requires.cone_ok c.requires.edge.p_is c.requires.edge.q_is c.requires.edge.rising (inl c.requires.edge.under) in
    passes_yes c.args.cone c.args.p c.args.q c.lower_form.result c.requires.cone_ok c.requires.edge.p_is c.requires.edge.q_is c.lower_form.ensures.value c.requires.p_up c.requires.edge.q_up under c.requires.edge.under less (c.has_both_signs.ensures.0 h)

pub returns-clause-no : goal.returns-clause-no
returns-clause-no c = λ h.
    let under = lower_under c.args.cone c.args.p c.args.q c.requires.cone_ok c.requires.edge.p_is c.requires.edge.q_is c.requires.edge.rising (inl c.requires.edge.under) in
    passes_no c.args.cone c.args.p c.args.q c.lower_form.result c.requires.cone_ok c.requires.edge.p_is c.requires.edge.q_is c.lower_form.ensures.value c.requires.p_up c.requires.edge.q_up under c.requires.edge.under c.requires.p_out c.requires.q_out
    (λ x y. false≢true (sym h ∙ c.has_both_signs.ensures.1 y))
