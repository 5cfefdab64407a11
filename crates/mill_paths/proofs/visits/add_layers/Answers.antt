use Rattle.std.proofs.Common.{◌≡◌, ◌++◌, ◌<◌, ◌≤◌, ◌∙◌, length, subst, FitsSigned, rules, w32}
use Rattle.std.specs.Prelude.{pos, ℤ}
use Rattle.std.proofs.lemmas.Int.{to_z-of_z}
use Rattle.std.proofs.lemmas.Result.{err_from_is_err_and}
use Rattle.mill_paths.specs.Visits.{layer_heights, rough_visits_on}
use Rattle.mill_paths.specs.Limits.{IsListFault}
use Rattle.mill_paths.proofs.Adding.{adds_all, adds_fault, adds_more}
use Rattle.mill_paths.proofs.visits.add_layers.Goals as goal

pub returns-in_err-add_path-clause-fault : goal.returns-in_err-add_path-clause-fault
returns-in_err-add_path-clause-fault c =
    let p = err_from_is_err_and c.from_residual.result c.from_residual.ensures.1 in
    let fits : FitsSigned w32 c.layer_height-z.result = search rules in
    let is = to_z-of_z w32 c.layer_height-z.result fits ∙ c.layer_height-z.ensures in
    let inside : c.loop-number.number < length (layer_heights c.args.job.now.fields) = subst (λ n. c.loop-number.number < n) c.layer_count-number-end.ensures c.loop-number-test.true in
    rw (p.1, p.2)
    (adds_fault (rough_visits_on c.args.job.now.fields c.args.heights.now) (layer_heights c.args.job.now.fields) (pos 0) c.loop-number.number c.args.list.now.visits.items c.loop-number.list.visits.items c.in_err-add_path.field-0.0
    inside c.loop-number.invariant
    (subst (λ (z : ℤ). IsListFault (c.loop-number.list.visits.items ++ rough_visits_on c.args.job.now.fields c.args.heights.now z) c.in_err-add_path.field-0.0) is c.in_err-add_path.ensures.fault))

pub loop-number-preserved : goal.loop-number-preserved
loop-number-preserved c =
    let fits : FitsSigned w32 c.layer_height-z.result = search rules in
    let is = to_z-of_z w32 c.layer_height-z.result fits ∙ c.layer_height-z.ensures in
    let inside : c.loop-number.number < length (layer_heights c.args.job.now.fields) = subst (λ n. c.loop-number.number < n) c.layer_count-number-end.ensures c.loop-number-test.true in
    adds_more (rough_visits_on c.args.job.now.fields c.args.heights.now) (layer_heights c.args.job.now.fields) (pos 0) c.loop-number.number c.args.list.now.visits.items c.loop-number.list.visits.items c.add_path.new.list.visits.items
    inside c.loop-number.invariant
    (subst (λ (z : ℤ). c.add_path.new.list.visits.items ≡ c.loop-number.list.visits.items ++ rough_visits_on c.args.job.now.fields c.args.heights.now z) is c.in_ok-add_path.ensures.ok)

pub returns-clause-ok : goal.returns-clause-ok
returns-clause-ok c =
    let past : length (layer_heights c.args.job.now.fields) ≤ c.loop-number.number = subst (λ n. n ≤ c.loop-number.number) c.layer_count-number-end.ensures c.loop-number-test.false in
    adds_all (rough_visits_on c.args.job.now.fields c.args.heights.now) (layer_heights c.args.job.now.fields) c.loop-number.number c.args.list.now.visits.items c.loop-number.list.visits.items past c.loop-number.invariant
