use Rattle.std.proofs.Common.{◌∙◌, sym}
use Rattle.mill_job.specs.Solids.{holder_solid_of}
use Rattle.mill_base.specs.Solids.{Solid}
use Rattle.mill_gouge.specs.Gouges.{PassesPart}
use Rattle.mill_verify.proofs.Mounted.{for_some}
use Rattle.mill_verify.proofs.clash.part_clash.Goals as goal

pub returns-in_err-holder : goal.returns-in_err-holder
returns-in_err-holder c = rw c.from_residual.ensures (record { cutter = rw c.part_solid.ensures at c.in_default.ensures; holder = rw (sym c.holder_solid.ensures ∙ c.in_err-holder.was) tt })

pub returns-in_err-gouge : goal.returns-in_err-gouge
returns-in_err-gouge c =
    rw c.from_residual-in_err-gouge.ensures
    (record {
      cutter = rw c.part_solid.ensures at c.in_default.ensures;
      holder = for_some (λ (holder : Solid). PassesPart holder c.args.step.now c.args.part.now) (holder_solid_of c.args.job.now.fields) c.in_ok-holder.holder (sym c.holder_solid.ensures ∙ c.in_ok-holder.was) c.in_err-gouge.ensures;
    })

pub returns : goal.returns
returns c = record {
  clears = rw c.part_solid.ensures at c.in_default.ensures;
  holder = c.in_ok-holder.holder;
  mounted = (sym c.holder_solid.ensures ∙ c.in_ok-holder.was);
  first = c.in_ok-gouge.ensures;
}
