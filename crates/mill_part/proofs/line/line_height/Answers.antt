use Rattle.std.proofs.Common.{◌≡◌, Bool, false, IsTrue}
use Rattle.mill_base.proofs.Ranges.{coordinate}
use Rattle.mill_part.proofs.AxisLemmas.{upright_greatest, aslant_greatest}
use Rattle.mill_part.proofs.line.line_height.Goals as goal

failed : (t : Bool) → t ≡ false → IsTrue t → ⊥
failed t e f = cc

pub returns-then-is_upright : goal.returns-then-is_upright
returns-then-is_upright c =
    let x = coordinate c.args.x c.requires.x_ok in
    let y = coordinate c.args.y c.requires.y_ok in
    upright_greatest c.args.tri.now c.args.x c.args.y c.along_y.result c.along_y-then-is_upright.result c.along_y-then-is_upright-2.result c.edges_height.result
    (rw x at (c.is_upright.ensures.0 c.if-is_upright.true))
    (record {
      a_at = rw y at c.along_y.ensures.at;
      b_at = rw y at c.along_y-then-is_upright.ensures.at;
      c_at = rw y at c.along_y-then-is_upright-2.ensures.at;
      a_z = c.along_y.ensures.z;
      b_z = c.along_y-then-is_upright.ensures.z;
      c_z = c.along_y-then-is_upright-2.ensures.z;
    })
    c.edges_height.ensures

pub returns : goal.returns
returns c =
    let x = coordinate c.args.x c.requires.x_ok in
    aslant_greatest c.args.tri.now c.args.x c.args.y c.along_x.result c.along_x-2.result c.along_x-3.result c.edges_height-2.result
    (λ upright. failed c.is_upright.result c.if-is_upright.false ((rw x at c.is_upright.ensures).1 upright))
    c.requires.bc c.requires.ca c.requires.ab
    (record {
      a_at = rw x at c.along_x.ensures.at;
      b_at = rw x at c.along_x-2.ensures.at;
      c_at = rw x at c.along_x-3.ensures.at;
      a_z = c.along_x.ensures.z;
      b_z = c.along_x-2.ensures.z;
      c_z = c.along_x-3.ensures.z;
    })
    c.edges_height-2.ensures
