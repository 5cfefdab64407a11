use Rattle.mill_part.specs.inner.Columns.{AreApart}
use Rattle.mill_base.proofs.Ranges.{coordinate}
use Rattle.mill_part.proofs.FaceLemmas.{none_over_x, none_over_y}
use Rattle.mill_part.proofs.column.height_over.Goals as goal

pub returns-then-are_apart : goal.returns-then-are_apart
returns-then-are_apart c =
    let a = coordinate c.args.tri.now.a.x c.requires.tri_ok.a_ok.x_ok in
    let b = coordinate c.args.tri.now.b.x c.requires.tri_ok.b_ok.x_ok in
    let d = coordinate c.args.tri.now.c.x c.requires.tri_ok.c_ok.x_ok in
    let x = coordinate c.args.x c.requires.x_ok in
    let apart : AreApart c.args.tri.now.a.x c.args.tri.now.b.x c.args.tri.now.c.x c.args.x = rw (a, b, d, x) at (c.are_apart.ensures.0 c.if-are_apart.true) in
    λ h. none_over_x c.args.tri.now c.args.x c.args.y h apart

pub returns-then-are_apart-2 : goal.returns-then-are_apart-2
returns-then-are_apart-2 c =
    let a = coordinate c.args.tri.now.a.y c.requires.tri_ok.a_ok.y_ok in
    let b = coordinate c.args.tri.now.b.y c.requires.tri_ok.b_ok.y_ok in
    let d = coordinate c.args.tri.now.c.y c.requires.tri_ok.c_ok.y_ok in
    let y = coordinate c.args.y c.requires.y_ok in
    let apart : AreApart c.args.tri.now.a.y c.args.tri.now.b.y c.args.tri.now.c.y c.args.y = rw (a, b, d, y) at (c.are_apart-2.ensures.0 c.if-are_apart-2.true) in
    λ h. none_over_y c.args.tri.now c.args.x c.args.y h apart

pub returns : goal.returns
returns c =
    let x = coordinate c.args.x c.requires.x_ok in
    let y = coordinate c.args.y c.requires.y_ok in
    rw (x, y) at c.near_height.ensures
