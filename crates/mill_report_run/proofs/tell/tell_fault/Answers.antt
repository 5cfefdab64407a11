use Rattle.std.proofs.Common.{inl, subst}
use Rattle.mill_load.specs.declared.load.LoadFault.{LoadFault}
use Rattle.mill_report_run.specs.inner.Loads.{IsOfThree}
use Rattle.mill_report_run.proofs.Telling.{has_text}
use Rattle.mill_report_run.proofs.tell.tell_fault.Goals as goal

pub unreachable-requires : goal.unreachable-requires
unreachable-requires g c =
    has_text c.in-ReadFault.file c.read_fault_report.result c.read_fault_report.ensures.files
    (subst (λ (fault : LoadFault). IsOfThree fault) c.in-ReadFault.is c.requires.of_three) c.in-None.is

pub returns-in-Some : goal.returns-in-Some
returns-in-Some g c = rw c.in-ReadFault.is (record { text = c.in-Some.text.now; is = c.in-Some.ensures.told; printed = c.tell.ensures })

pub returns-in-Ok : goal.returns-in-Ok
returns-in-Ok g c =
    rw c.in-Unfit.is (inl (record { text = c.in-Ok.text.items; is = rw c.in-Unfit.is at c.in-Ok.ensures; printed = rw c.deref.ensures.value at c.tell-in-Ok.ensures }))
