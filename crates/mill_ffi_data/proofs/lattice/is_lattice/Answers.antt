use Rattle.std.proofs.Common.{rules}
use Rattle.mill_ffi_data.specs.inner.Testing.{IsCorners, IsInOrder}
use Rattle.mill_ffi_data.proofs.lattice.is_lattice.Goals as goal

pub returns-clause-yes : goal.returns-clause-yes
returns-clause-yes c = λ fine.
    let corners : IsCorners c.args.raw.now = search rules in
    let order : IsInOrder c.args.raw.now = search rules in
    record {
      x0_ok = corners.x0_ok;
      x1_ok = corners.x1_ok;
      y0_ok = corners.y0_ok;
      y1_ok = corners.y1_ok;
      x_order = order.x_order;
      y_order = order.y_order;
      step_ok = order.step_ok;
    }
