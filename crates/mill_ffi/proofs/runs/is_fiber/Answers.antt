use Rattle.std.proofs.Common.{rules}
use Rattle.mill_ffi.specs.Fibers.{IsAxis, IsLine, IsStretch}
use Rattle.mill_ffi.proofs.runs.is_fiber.Goals as goal

pub returns-clause-yes : goal.returns-clause-yes
returns-clause-yes c = λ fine.
    let axis_ok : IsAxis c.args.raw.now.axis = search rules in
    let line_ok : IsLine c.args.raw.now.at c.args.raw.now.z = search rules in
    let stretch_ok : IsStretch c.args.raw.now.first c.args.raw.now.last = search rules in
    record { axis_ok = axis_ok; line_ok = line_ok; stretch_ok = stretch_ok }
