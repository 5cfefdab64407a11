use Rattle.std.proofs.Common.{codes, refl}
use Rattle.mill_report_run.proofs.FaultTexts.{memory_written}
use Rattle.mill_report_run.proofs.fault.memory_report.Goals as goal

pub returns : goal.returns
returns c = record { line = codes "out of memory"; line_is = refl; text_is = memory_written }
