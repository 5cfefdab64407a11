use Rattle.std.proofs.Common.{◌<◌, refl, arith, w64, length}
use Rattle.std.proofs.lemmas.Int.{to_z-of_z}
use lib.IntN.{◌+ℤ◌}
use Rattle.mill_drop.proofs.Straightness.{height_stored, product_fits, line_fits, sum_small}
use Rattle.mill_drop.proofs.places.line_over.Goals as goal

pub returns-clause-value : goal.returns-clause-value
returns-clause-value c =
    let heights = c.args.heights.now in
    let before = c.requires.before in
    let first_inside : c.args.p < length heights = omega arith in
    let first = height_stored heights c.args.p c.requires.heights_ok first_inside in
    let last = height_stored heights c.args.q c.requires.heights_ok c.requires.inside in
    rw (
      to_z-of_z w64 c.scaled.result (product_fits c.scaled.result c.scaled.ensures.bound),
      to_z-of_z w64 c.scaled-2.result (product_fits c.scaled-2.result c.scaled-2.ensures.bound),
      to_z-of_z w64 (c.scaled.result +ℤ c.scaled-2.result) (line_fits (c.scaled.result +ℤ c.scaled-2.result) (sum_small c.scaled.result c.scaled-2.result c.scaled.ensures.bound c.scaled-2.ensures.bound)),
      c.scaled.ensures.value,
      c.scaled-2.ensures.value,
      first,
      last,
    ) refl
