use Rattle.std.proofs.Common.{rules, refl, inr}
use Rattle.mill_plan.specs.declared.fault.PlanFault.TheVariants.{WantOfMemory}
use Rattle.mill_ffi.proofs.plan.planned_for.Goals as goal

-- Want of memory for sorting is the planner's.
pub returns-in-Err-clause-cause : goal.returns-in-Err-clause-cause
returns-in-Err-clause-cause c = inr (record {
  job = c.in_ok-setup.setup.job.fields;
  part = c.in_ok-setup.setup.part;
  setup_is = c.in_ok-setup.ensures.reads;
  still = c.in_ok-setup.ensures.still;
  first = WantOfMemory;
  is = search rules;
  kind_ok = rw c.without_plan.ensures refl;
  told_ok = rw c.without_plan.ensures refl;
})
