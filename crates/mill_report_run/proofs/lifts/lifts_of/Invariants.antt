use Rattle.std.specs.List.{AllZip}
use Rattle.std.specs.Prelude.{take}
use Rattle.mill_report_run.specs.Reports.{IsLift}
use Rattle.mill_report_run.proofs.lifts.lifts_of.Given as goal

abbrev pub invariant-loop-index : goal.invariant-loop-index
invariant-loop-index l = AllZip (IsLift l.job.fields l.part l.moves) (take l.index l.found) l.lifts.items
