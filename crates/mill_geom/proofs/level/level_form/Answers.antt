use Rattle.std.proofs.Common.{◌∙◌, refl}
use mir.Syntax.{w128}
use Rattle.mill_base.proofs.Machine.{kept}
use Rattle.mill_geom.specs.Widths.{most_mixed_form}
use Rattle.mill_geom.proofs.Signs.{level_as}
use Rattle.mill_geom.proofs.Kept.{radius_kept, form_kept, lift_kept}
use Rattle.mill_geom.proofs.level.level_form.Goals as goal

pub returns-clause-value : goal.returns-clause-value
returns-clause-value c =
    let r = radius_kept c.args.radius c.requires.r_ok in
    let pp_kept = form_kept c.form-pp.result c.form-pp.ensures.bound in
    let pq_kept = form_kept c.form-pq.result c.form-pq.ensures.bound in
    let ps_kept = form_kept c.form-ps.result c.form-ps.ensures.bound in
    let qs_kept = form_kept c.form-qs.result c.form-qs.ensures.bound in
    let p_kept = lift_kept c.args.p.z c.requires.p_ok.z_ok in
    let q_kept = lift_kept c.args.q.z c.requires.q_ok.z_ok in
    let s_kept = lift_kept c.args.s.z c.requires.s_ok.z_ok in
    kept w128 c.mixed_form.result most_mixed_form c.mixed_form.ensures.bound.within refl ∙ level_as c.args.radius c.mixed_form.result c.form-pp.result c.form-pq.result c.form-ps.result c.form-qs.result c.args.p c.args.q c.args.s
    (rw (pp_kept, pq_kept, ps_kept, qs_kept, p_kept, q_kept, s_kept) at c.mixed_form.ensures.value)
    (rw r at c.form-pp.ensures.value) (rw r at c.form-pq.ensures.value) (rw r at c.form-ps.ensures.value) (rw r at c.form-qs.ensures.value)
