use Rattle.std.specs.Prelude.{◌≡◌, ℤ, ◌-ℤ◌, ◌≤ℤ◌}
use Rattle.std.proofs.Common.{sym, ap, ◌∙◌, subst, w32}
use Rattle.mill_base.proofs.Machine.{stored}
use Rattle.mill_base.specs.Solids.{Solid}
use Rattle.mill_job.specs.Solids.{outer_of}
use Rattle.mill_links.specs.Links.{over_stock}
use Rattle.mill_links.proofs.Overs.{clear_most, over_fits, over_stored, top_least}
use Rattle.mill_links.proofs.links.over_stock.Goals as goal

module _ (c : goal.After-lift) where
  lift_is : c.lift.result ≡ (outer_of c.args.job.now.fields).lift
  lift_is = c.lift.ensures.value ∙ ap (λ (s : Solid). s.lift) c.outer.ensures

  is : stored w32 (stored w32 c.args.job.now.fields.top -ℤ stored w32 c.lift.result) ≡ over_stock c.args.job.now.fields
  is = over_stored c.args.job.now.fields c.args.job.now.is_job c.lift.result c.lift.ensures.in_range lift_is

pub overflow_sub-result : goal.overflow_sub-result
overflow_sub-result c = over_fits c.args.job.now.fields c.args.job.now.is_job c.lift.result c.lift.ensures.in_range (lift_is c)

pub returns-clause-value : goal.returns-clause-value
returns-clause-value c = is c

pub returns-clause-least : goal.returns-clause-least
returns-clause-least c = subst (λ (z : ℤ). c.args.job.now.fields.top ≤ℤ z) (sym (is c)) (top_least c.args.job.now.fields c.args.job.now.is_job)

pub returns-clause-most : goal.returns-clause-most
returns-clause-most c = subst (λ (z : ℤ). z ≤ℤ c.args.job.now.fields.clear) (sym (is c)) (clear_most c.args.job.now.fields c.args.job.now.is_job)
