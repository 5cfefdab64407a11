use Rattle.std.proofs.Common.{rules}
use Rattle.std.specs.Prelude.{pos}
use mir.Syntax.{w32}
use mir.Val.{to_z, of_z}
use Rattle.mill_job.proofs.Blanks.{one_more}
use Rattle.mill_job.proofs.levels.Levels.push.Goals as goal

-- The height takes the place of the first zero.
pub invariant_of-self : goal.invariant_of-self
invariant_of-self c = record {
  few = search rules;
  all_places = search rules;
  behind = one_more 64 (pos 0) c.self.inside.count c.self.inside.heights (to_z w32 (of_z w32 c.args.height)) c.self.invariant.behind;
}
