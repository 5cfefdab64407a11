use Rattle.std.proofs.Common.{◌≡◌, rules, inr, refl, ◌∙◌}
use Rattle.mill_ffi.proofs.Accepted.{planned_is}
use Rattle.mill_ffi.proofs.plan.plan_into.Goals as goal

pub returns-then-program-len-clause-cause : goal.returns-then-program-len-clause-cause
returns-then-program-len-clause-cause c = inr (record {
  text = c.in_ok-planned.planned.program.items;
  is = planned_is c.args.job.now c.args.part.now c.in_ok-planned.planned c.numbers_of-told.result c.in_ok-planned.ensures.is c.numbers_of-told.ensures;
  other = search rules;
  kind_ok = refl;
})

pub returns-clause-done : goal.returns-clause-done
returns-clause-done c =
    let written : c.copy_from_slice.new.self ≡ c.in_ok-planned.planned.program.items = c.copy_from_slice.ensures.after ∙ c.deref.ensures.value in
    rw written (planned_is c.args.job.now c.args.part.now c.in_ok-planned.planned c.numbers_of-told.result c.in_ok-planned.ensures.is c.numbers_of-told.ensures)
