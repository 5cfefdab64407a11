use Rattle.std.proofs.Common.{◌∙◌, sym}
use Rattle.mill_base.specs.Solids.{Solid}
use Rattle.mill_job.specs.Solids.{holder_solid_of}
use Rattle.mill_verify.specs.Fixtures.{PassesFixtures}
use Rattle.mill_verify.proofs.Mounted.{for_some}
use Rattle.mill_verify.proofs.clash.first_clash.Goals as goal

pub returns-in_err-holder : goal.returns-in_err-holder
returns-in_err-holder c =
    rw c.from_residual.ensures
    (record {
      passes_part = c.in_default.ensures;
      passes_fixtures = record {
        cutter = rw (c.outer.ensures, c.fixtures-fixtures.ensures.list) at c.in_default-first_hit.ensures;
        holder = rw (sym c.holder_solid.ensures ∙ c.in_err-holder.was) tt;
      };
    })

pub returns-in_err-hit : goal.returns-in_err-hit
returns-in_err-hit c =
    rw c.from_residual-in_err-hit.ensures
    (record {
      passes_part = c.in_default.ensures;
      passes_fixtures = record {
        cutter = rw (c.outer.ensures, c.fixtures-fixtures.ensures.list) at c.in_default-first_hit.ensures;
        holder = for_some (λ (holder : Solid). PassesFixtures holder c.args.step.now c.args.job.now.fields.keep_out) (holder_solid_of c.args.job.now.fields) c.in_ok-holder.holder
            (sym c.holder_solid.ensures ∙ c.in_ok-holder.was) (rw c.fixtures-fixtures.ensures.list at c.in_err-hit.ensures);
      };
    })

pub returns : goal.returns
returns c = record {
  passes_part = c.in_default.ensures;
  clears = rw (c.outer.ensures, c.fixtures-fixtures.ensures.list) at c.in_default-first_hit.ensures;
  holder = c.in_ok-holder.holder;
  mounted = sym c.holder_solid.ensures ∙ c.in_ok-holder.was;
  first = rw c.fixtures-fixtures.ensures.list at c.in_ok-hit.ensures;
}
