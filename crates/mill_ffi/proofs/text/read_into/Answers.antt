use Rattle.std.proofs.Common.{rules}
use Rattle.mill_ffi.proofs.text.read_into.Goals as goal

pub returns-then-triangles-len-clause-cause : goal.returns-then-triangles-len-clause-cause
returns-then-triangles-len-clause-cause c = record {
  part = record { tris = c.in-Ok.read.tris.items; rounded = c.in-Ok.read.rounded };
  means = record { read_unit = c.in-Some.unit; read_snap = c.in-Some-snap_from.snap; unit_ok = search rules; snap_ok = search rules; is = c.in-Ok.ensures.gives };
  other = search rules;
  told_ok = search rules;
}

pub returns-clause-done : goal.returns-clause-done
returns-clause-done c = record {
  part = record { tris = c.in-Ok.read.tris.items; rounded = c.in-Ok.read.rounded };
  means = record { read_unit = c.in-Some.unit; read_snap = c.in-Some-snap_from.snap; unit_ok = search rules; snap_ok = search rules; is = c.in-Ok.ensures.gives };
  written = search rules;
  told_ok = search rules;
}
