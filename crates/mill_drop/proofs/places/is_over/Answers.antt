use Rattle.std.proofs.Common.{◌<◌, arith, w32, w64, length}
use Rattle.std.proofs.lemmas.Int.{to_z-of_z}
use lib.IntN.{◌+ℤ◌}
use Rattle.mill_drop.specs.Paths.{height_at}
use Rattle.mill_drop.proofs.Straightness.{height_in, height_stored, tolerance_stored, raised_fits, raised_small, product_fits, line_fits, second_decides}
use Rattle.mill_drop.proofs.places.is_over.Goals as goal

pub overflow_add-height : goal.overflow_add-height
overflow_add-height c =
    let heights = c.args.heights.now in
    let k = c.args.k in
    let inside : k < length heights = let b = c.requires.before in let i = c.requires.inside in omega arith in
    rw (height_stored heights k c.requires.heights_ok inside, tolerance_stored c.args.tol c.requires.tol_ok)
    (raised_fits (height_at heights k) c.args.tol (height_in heights k c.requires.heights_ok inside) c.requires.tol_ok)

pub scaled-requires-then-scaled-line-clause-height_ok : goal.scaled-requires-then-scaled-line-clause-height_ok
scaled-requires-then-scaled-line-clause-height_ok c =
    let heights = c.args.heights.now in
    let k = c.args.k in
    let inside : k < length heights = let b = c.requires.before in let i = c.requires.inside in omega arith in
    let within = height_in heights k c.requires.heights_ok inside in
    rw (
      height_stored heights k c.requires.heights_ok inside,
      tolerance_stored c.args.tol c.requires.tol_ok,
      to_z-of_z w32 (height_at heights k +ℤ c.args.tol) (raised_fits (height_at heights k) c.args.tol within c.requires.tol_ok),
    ) (raised_small (height_at heights k) c.args.tol within c.requires.tol_ok)

pub returns-then-scaled-line : goal.returns-then-scaled-line
returns-then-scaled-line c =
    let heights = c.args.heights.now in
    let k = c.args.k in
    let inside : k < length heights = let b = c.requires.before in let i = c.requires.inside in omega arith in
    let within = height_in heights k c.requires.heights_ok inside in
    let at = height_stored heights k c.requires.heights_ok inside in
    let tol = tolerance_stored c.args.tol c.requires.tol_ok in
    let line = to_z-of_z w64 c.line_over-line.result (line_fits c.line_over-line.result c.line_over-line.ensures.bound) in
    let low = to_z-of_z w64 c.scaled.result (product_fits c.scaled.result c.scaled.ensures.bound) in
    let high = to_z-of_z w64 c.scaled-then-scaled-line.result (product_fits c.scaled-then-scaled-line.result c.scaled-then-scaled-line.ensures.bound) in
    let raised = to_z-of_z w32 (height_at heights k +ℤ c.args.tol) (raised_fits (height_at heights k) c.args.tol within c.requires.tol_ok) in
    rw (line, high)
    (second_decides c.scaled.result c.line_over-line.result c.scaled-then-scaled-line.result heights c.args.tol c.args.p c.args.q k
    (rw at at c.scaled.ensures.value) c.line_over-line.ensures.value (rw (at, tol, raised) at c.scaled-then-scaled-line.ensures.value) (rw (low, line) at c.if-scaled-line.true))
