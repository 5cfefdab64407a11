use Rattle.std.proofs.Common.{◌≡◌, ◌∙◌, ◌<◌, ◌≤◌, ◌++◌, List, [], ◌∷◌, length, refl, sym, ap, subst, take_all, append-nil, arith}
use Rattle.std.specs.Prelude.{pos, All, slice_get, option_copied, Some}
use Rattle.std.proofs.lemmas.List.Elements.{All-head}
use Rattle.std.proofs.lemmas.Result.{err_from_is_err_and}
use Rattle.mill_base.specs.Points.{point_at}
use Rattle.mill_base.specs.declared.points.Pt3.{Pt3}
use Rattle.mill_links.specs.declared.visit.Visit.{Visit}
use Rattle.mill_paths.specs.Limits.{IsListFault}
use Rattle.mill_paths.specs.Visits.{visits_after}
use Rattle.mill_paths.specs.inner.Rows.{IsInArea}
use Rattle.mill_paths.proofs.RowVisits.{from_first, last_is, point_fault, point_more}
use Rattle.mill_paths.proofs.row_visits.add_path.Goals as goal

at_first : (P : Pt3 → Type 0) (points : List Pt3) (first : Pt3) → slice_get points 0 ≡ Some first → All P points → P first
at_first P [] first is each = absurd (cc)
at_first P (p ∷ points) first is each = let same : p ≡ first = cc in subst P same (All-head P p points each)

pub add_point-requires-clause-before_ok : goal.add_point-requires-clause-before_ok
add_point-requires-clause-before_ok c = c.loop-point.invariant.inside

pub loop-point-init : goal.loop-point-init
loop-point-init c =
    let is : slice_get c.args.points.now 0 ≡ Some c.in-Some.first.now = sym c.first.ensures.value ∙ ap option_copied c.in-Some.is in
    record { come = refl; inside = at_first (IsInArea c.args.job.now.fields) c.args.points.now c.in-Some.first.now is c.requires; visits = sym (append-nil c.args.list.now.visits.items) }

pub loop-point-preserved : goal.loop-point-preserved
loop-point-preserved c =
    let inside : c.loop-point.point-index < length c.args.points.now = omega arith in
    let so_far = c.loop-point.invariant in
    record {
      come = last_is c.args.job.now.fields c.in-Some.first.now c.args.points.now (point_at (pos 0) (pos 0) (pos 0)) c.loop-point.point-index inside;
      inside = c.requires c.loop-point.point-index (point_at (pos 0) (pos 0) (pos 0)) inside;
      visits = point_more c.args.job.now.fields c.in-Some.first.now c.loop-point.before c.args.points.now (point_at (pos 0) (pos 0) (pos 0)) c.loop-point.point-index
          c.args.list.now.visits.items c.loop-point.list.visits.items c.add_point.new.list.visits.items inside so_far.come so_far.visits c.in_ok-add_point.ensures.ok;
    }

pub returns-in_err-add_point-clause-fault : goal.returns-in_err-add_point-clause-fault
returns-in_err-add_point-clause-fault c =
    let p = err_from_is_err_and c.from_residual.result c.from_residual.ensures.1 in
    let inside : c.loop-point.point-index < length c.args.points.now = omega arith in
    let is : slice_get c.args.points.now 0 ≡ Some c.in-Some.first.now = sym c.first.ensures.value ∙ ap option_copied c.in-Some.is in
    let so_far = c.loop-point.invariant in
    rw (p.1, p.2)
    (subst (λ (vs : List Visit). IsListFault (c.args.list.now.visits.items ++ vs) c.in_err-add_point.field-0.0) (sym (from_first c.args.job.now.fields c.args.points.now c.in-Some.first.now is))
    (point_fault c.args.job.now.fields c.in-Some.first.now c.loop-point.before c.args.points.now (point_at (pos 0) (pos 0) (pos 0)) c.loop-point.point-index
    c.args.list.now.visits.items c.loop-point.list.visits.items c.in_err-add_point.field-0.0 inside so_far.come so_far.visits c.in_err-add_point.ensures.fault))

pub returns-clause-ok : goal.returns-clause-ok
returns-clause-ok c =
    let past : length c.args.points.now ≤ c.loop-point.point-index = omega arith in
    let is : slice_get c.args.points.now 0 ≡ Some c.in-Some.first.now = sym c.first.ensures.value ∙ ap option_copied c.in-Some.is in
    c.loop-point.invariant.visits
    ∙ ap (λ (points : List Pt3). c.args.list.now.visits.items ++ visits_after c.args.job.now.fields c.in-Some.first.now points) (take_all c.loop-point.point-index c.args.points.now past)
    ∙ ap (λ (vs : List Visit). c.args.list.now.visits.items ++ vs) (sym (from_first c.args.job.now.fields c.args.points.now c.in-Some.first.now is))
