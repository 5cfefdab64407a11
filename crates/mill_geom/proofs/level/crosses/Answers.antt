use Rattle.std.proofs.Common.{◌≡◌, ◌∙◌, sym, subst, refl, arith}
use mir.Syntax.{w128}
use lib.IntN.{ℤ, pos}
use lib.Signed.{◌<ℤ◌, ◌≤ℤ◌}
use Rattle.std.proofs.lemmas.Int.{ints}
use Rattle.std.proofs.lemmas.Bool.{false≢true}
use Rattle.mill_base.proofs.Machine.{kept}
use Rattle.mill_geom.specs.Widths.{most_mixed_form}
use Rattle.mill_geom.proofs.LevelLine.{level_touch, level_clear}
use Rattle.mill_geom.proofs.Kept.{radius_kept}
use Rattle.mill_geom.proofs.level.crosses.Goals as goal

not_both : (x y : ℤ) → x ≡ y → (pos 0) ≤ℤ x → y <ℤ pos 0 → ⊥
not_both x y e h k = omega (arith, ints)

pub returns-then-level_form-ge0-clause-no : goal.returns-then-level_form-ge0-clause-no
returns-then-level_form-ge0-clause-no c = λ h edges t.
    let r = radius_kept c.args.radius c.requires.r_ok in
    let f = kept w128 c.level_form.result most_mixed_form c.level_form.ensures.bound.within refl in
    let positive = rw f at c.if-level_form-ge0.true in
    level_clear c.args.radius c.args.p c.args.q c.args.s c.requires.r_least c.requires.alone
    (λ form near. not_both c.level_form.result _ (rw r at c.level_form.ensures.value) (omega (arith, ints)) form) edges t

pub returns-clause-yes : goal.returns-clause-yes
returns-clause-yes c = λ h.
    let r = radius_kept c.args.radius c.requires.r_ok in
    let f = kept w128 c.level_form.result most_mixed_form c.level_form.ensures.bound.within refl in
    let negative = rw f at c.if-level_form-ge0.false in
    let near = rw r at c.is_line_near.ensures in
    level_touch c.args.radius c.args.p c.args.q c.args.s c.requires.r_least c.requires.alone
    (subst (λ t. t <ℤ pos 0) (rw r at c.level_form.ensures.value) (omega (arith, ints))) (near.0 h)

pub returns-clause-no : goal.returns-clause-no
returns-clause-no c = λ h edges t.
    let r = radius_kept c.args.radius c.requires.r_ok in
    let near = rw r at c.is_line_near.ensures in
    level_clear c.args.radius c.args.p c.args.q c.args.s c.requires.r_least c.requires.alone
    (λ form close. false≢true (sym h ∙ near.1 close)) edges t
