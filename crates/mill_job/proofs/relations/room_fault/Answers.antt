use Rattle.std.proofs.Common.{refl, sym, ◌∙◌}
use Rattle.mill_job.specs.Documents.{slack_faults}
use Rattle.mill_job.proofs.Faults.{first-found}
use Rattle.mill_job.proofs.Room.{has_room}
use Rattle.mill_job.proofs.relations.room_fault.Goals as goal

-- A relation of the cutter that fails is the first.
pub returns-in-Some-clause-value : goal.returns-in-Some-clause-value
returns-in-Some-clause-value c = sym (first-found (slack_faults c.args.job.now c.args.job.now.cutter) _ c.in-Some.fault (sym c.in-Some.ensures.value))

pub returns-clause-none : goal.returns-clause-none
returns-clause-none c = λ none. record {
  room = has_room c.args.job.now c.args.job.now.cutter (c.in_default.ensures.none refl) (c.if-has_low_clear.ensures.no refl) (c.if-not-clears_fixtures.ensures.yes refl);
  holder_room = c.if-has_close_holder.ensures.no refl;
  away = sym c.starts_at_home.ensures ∙ c.if-starts_at_home.false;
  arc_room = c.if-has_tight_arcs.ensures.no refl;
}
