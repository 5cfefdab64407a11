-- The texts of the sources that a report is made of.
use Rattle.mill_report_run.specs.Reports.{Texts}
use Rattle.mill_report_run.specs.declared.sources.Sources.{Sources}

abbrev pub texts_of_sources : Sources → Texts
texts_of_sources sources = record { job = sources.job; part = sources.part; program = sources.program }
