use Rattle.std.proofs.Common.{ℕ, List, [], ◌∷◌, refl, w64}
use mir.Syntax.{w128}
use Rattle.mill_base.proofs.Machine.{Read, Cast, Prod, less, prod_fits}
use Rattle.mill_contact_cone.specs.inner.Widths.{most_cone_form}
use Rattle.mill_contact_cone.proofs.quadratic.has_both_signs.Goals as goal

-- how far each number is from 0
bounds : List ℕ
bounds = most_cone_form ∷ most_cone_form ∷ most_cone_form ∷ []

pub overflow_mul-result : goal.overflow_mul-result
unfolding bounds
overflow_mul-result c = prod_fits w128 (c.args.form.a ∷ c.args.form.h ∷ c.args.form.b ∷ []) bounds (Cast w128 (Read w64 0)) (Cast w128 (Read w64 2)) (c.requires.form_ok.a_ok.within, (c.requires.form_ok.h_ok.within, (c.requires.form_ok.b_ok.within, tt))) refl

pub overflow_mul-result-2 : goal.overflow_mul-result-2
unfolding bounds
overflow_mul-result-2 c = prod_fits w128 (c.args.form.a ∷ c.args.form.h ∷ c.args.form.b ∷ []) bounds (Cast w128 (Read w64 1)) (Cast w128 (Read w64 1)) (c.requires.form_ok.a_ok.within, (c.requires.form_ok.h_ok.within, (c.requires.form_ok.b_ok.within, tt))) refl

pub returns : goal.returns
unfolding bounds
returns c = less (c.args.form.a ∷ c.args.form.h ∷ c.args.form.b ∷ []) bounds (Prod w128 (Cast w128 (Read w64 0)) (Cast w128 (Read w64 2))) (Prod w128 (Cast w128 (Read w64 1)) (Cast w128 (Read w64 1))) (c.requires.form_ok.a_ok.within, (c.requires.form_ok.h_ok.within, (c.requires.form_ok.b_ok.within, tt))) refl
