use Rattle.std.proofs.Common.{refl, rules}
use Rattle.mill_job.proofs.relations.cut_fault.Goals as goal

pub returns-clause-none : goal.returns-clause-none
returns-clause-none c = λ none. record {
  narrow = search rules;
  layers = c.if-has_many_layers.ensures.no refl;
  levels = c.if-not-has_levels_in_stock.ensures.yes refl;
  wider = c.if-has_narrow_holder.ensures.no refl;
}
