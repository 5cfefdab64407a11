-- What stands in the places behind a job's last fixture.
use Rattle.std.specs.Prelude.{pos}
use Rattle.mill_job.specs.declared.fixtures.Fixture.{Fixture}

abbrev pub blank : Fixture
blank = record { area = record { x0 = pos 0; y0 = pos 0; x1 = pos 0; y1 = pos 0 }; height = pos 0 }
