use Rattle.std.proofs.Common.{◌≡◌, ◌^◌, ◌≤◌, ◌*ℤ◌, pos, refl, w32, arith}
use Rattle.mill_base.proofs.Machine.{kept}
use Rattle.mill_sweep.proofs.Computed.{farther_is, farther_small}
use Rattle.mill_sweep.proofs.Spans.{parts_small, farther_most}
use Rattle.mill_sweep.specs.Widths.{longest}
use Rattle.mill_base.specs.declared.limits.TheConstants.{MAX_COORDINATE}
use Rattle.mill_sweep.proofs.leaf_span.farther_from.Goals as goal

pub weighed-place-requires-clause-weight_ok : goal.weighed-place-requires-clause-weight_ok
weighed-place-requires-clause-weight_ok c = let parts = c.power_of_two.ensures in let small = parts_small c.args.d c.requires.d_ok in omega arith

pub parts_up-requires-clause-length_ok : goal.parts_up-requires-clause-length_ok
parts_up-requires-clause-length_ok c =
    let middle = kept w32 c.args.middle MAX_COORDINATE c.requires.middle_ok.within refl in
    let place : c.weighed-place.result ≡ pos (2 ^ c.args.d) *ℤ c.args.middle = rw (middle, c.power_of_two.ensures) at c.weighed-place.ensures.value in
    let farther = farther_is c.args.ends.first c.args.ends.last c.args.middle c.weighed-place.result c.args.d c.abs_diff.result c.abs_diff-2.result c.max-farther.result c.requires.first_ok c.requires.last_ok c.requires.d_ok
    c.weighed-place.ensures.bound.within place c.abs_diff.ensures c.abs_diff-2.ensures c.max-farther.ensures in
    rw farther (farther_small c.args.ends.first c.args.ends.last c.args.middle c.args.d c.requires.first_ok c.requires.last_ok c.requires.middle_ok.within c.requires.d_ok)

-- the farther of the two, over 2^d and rounded up
pub returns-clause-bound : goal.returns-clause-bound
returns-clause-bound c =
    let middle = kept w32 c.args.middle MAX_COORDINATE c.requires.middle_ok.within refl in
    let place : c.weighed-place.result ≡ pos (2 ^ c.args.d) *ℤ c.args.middle = rw (middle, c.power_of_two.ensures) at c.weighed-place.ensures.value in
    let farther = farther_is c.args.ends.first c.args.ends.last c.args.middle c.weighed-place.result c.args.d c.abs_diff.result c.abs_diff-2.result c.max-farther.result c.requires.first_ok c.requires.last_ok c.requires.d_ok
    c.weighed-place.ensures.bound.within place c.abs_diff.ensures c.abs_diff-2.ensures c.max-farther.ensures in
    let under : c.parts_up.result ≤ longest = rw (c.parts_up.ensures, farther) (farther_most c.args.ends.first c.args.ends.last c.args.middle c.args.d c.requires.first_ok c.requires.last_ok c.requires.middle_ok.within) in
    omega arith

pub overflow_cast-result : goal.overflow_cast-result
overflow_cast-result c =
    let middle = kept w32 c.args.middle MAX_COORDINATE c.requires.middle_ok.within refl in
    let place : c.weighed-place.result ≡ pos (2 ^ c.args.d) *ℤ c.args.middle = rw (middle, c.power_of_two.ensures) at c.weighed-place.ensures.value in
    let farther = farther_is c.args.ends.first c.args.ends.last c.args.middle c.weighed-place.result c.args.d c.abs_diff.result c.abs_diff-2.result c.max-farther.result c.requires.first_ok c.requires.last_ok c.requires.d_ok
    c.weighed-place.ensures.bound.within place c.abs_diff.ensures c.abs_diff-2.ensures c.max-farther.ensures in
    let under : c.parts_up.result ≤ longest = rw (c.parts_up.ensures, farther) (farther_most c.args.ends.first c.args.ends.last c.args.middle c.args.d c.requires.first_ok c.requires.last_ok c.requires.middle_ok.within) in
    record { fits = omega arith }
