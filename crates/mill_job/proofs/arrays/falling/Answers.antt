use Rattle.std.proofs.Common.{◌≡◌, ◌∙◌, sym, refl, rules, arith, ◌+◌, ◌++◌, ◌∷◌, [], drop, length, false, true, Some, None, ◌&&◌}
use Rattle.std.proofs.lemmas.Int.{ints, to_z-of_z}
use Rattle.std.proofs.lemmas.List.{length-append}
use Rattle.std.proofs.lemmas.Result.{err_from_is_err_and}
use Rattle.std.specs.Prelude.{int_lt, pos, ◌+ℤ◌, ◌≤ℤ◌, ◌<ℤ◌}
use mir.Syntax.{w32, w64}
use mir.Val.{SFits, to_z, of_z}
use Rattle.toml.specs.View.{items_view}
use Rattle.mill_base.proofs.Ranges.{greatest_of-le}
use Rattle.mill_job.specs.Tables.{integers, is_coordinate}
use Rattle.mill_job.proofs.Falling.{beyond, IsRead, none_read, at_next, one_read, out_of_range, no_number, all_read, too_high, is_under}
use Rattle.mill_job.proofs.Numbers.{no_more_numbers}
use Rattle.mill_job.proofs.Stored.{stored_coordinate}
use Rattle.mill_job.proofs.arrays.falling.Goals as goal

pub loop-value-init : goal.loop-value-init
loop-value-init c =
    let first : to_z w32 (of_z w32 (to_z w32 (of_z w32 c.greatest-bound.result) +ℤ pos 1)) ≡ beyond c.args.unit = omega (arith, ints, greatest_of-le c.args.unit, c.greatest-bound.ensures) in
    (refl, rw first (none_read c.args.unit (integers (items_view c.args.values.now))))

pub returns-in_default : goal.returns-in_default
returns-in_default c =
    let all = integers (items_view c.args.values.now) in
    let rest = integers (items_view (drop (c.loop-value.value-index + 1) c.args.values.now)) in
    let bound = to_z w32 c.loop-value.bound-bits in
    let read = at_next c.args.unit all c.args.values.now c.loop-value.value-index c.value-item.result None c.loop-value.levels bound c.loop-value-test.true c.value-item.is (sym c.in_default.is ∙ c.as_integer.ensures) c.loop-value.invariant.1 in
    no_number c.args.unit all rest c.loop-value.levels bound read

-- A number that is no coordinate is out of range.
pub returns-in_err-height : goal.returns-in_err-height
returns-in_err-height c =
    let all = integers (items_view c.args.values.now) in
    let rest = integers (items_view (drop (c.loop-value.value-index + 1) c.args.values.now)) in
    let bound = to_z w32 c.loop-value.bound-bits in
    let read = at_next c.args.unit all c.args.values.now c.loop-value.value-index c.value-item.result (Some c.in-Some.number) c.loop-value.levels bound c.loop-value-test.true c.value-item.is (sym c.in-Some.is ∙ c.as_integer.ensures) c.loop-value.invariant.1 in
    let fits : SFits w64 c.in-Some.number = search rules in
    let failed : is_coordinate c.args.unit c.in-Some.number ≡ false = simp to_z-of_z at c.in_err-height.ensures.err.0 in
    let other : (is_coordinate c.args.unit c.in-Some.number && int_lt c.in-Some.number bound) ≡ false = rw failed refl in
    let answer = err_from_is_err_and c.from_residual.result c.from_residual.ensures.1 in
    rw (answer.1, answer.2, c.in_err-height.ensures.err.1) (out_of_range c.args.unit all rest c.loop-value.levels bound c.in-Some.number c.requires.whole read other)

-- So is one that isn't under the one before it.
pub returns-then-bound-height : goal.returns-then-bound-height
returns-then-bound-height c =
    let all = integers (items_view c.args.values.now) in
    let rest = integers (items_view (drop (c.loop-value.value-index + 1) c.args.values.now)) in
    let bound = to_z w32 c.loop-value.bound-bits in
    let read = at_next c.args.unit all c.args.values.now c.loop-value.value-index c.value-item.result (Some c.in-Some.number) c.loop-value.levels bound c.loop-value-test.true c.value-item.is (sym c.in-Some.is ∙ c.as_integer.ensures) c.loop-value.invariant.1 in
    let fits : SFits w64 c.in-Some.number = search rules in
    let same : c.in_ok-height.height ≡ c.in-Some.number = simp to_z-of_z at c.in_ok-height.ensures.ok.1 in
    let stored : to_z w32 (of_z w32 c.in_ok-height.height) ≡ c.in-Some.number = stored_coordinate c.args.unit c.in_ok-height.ensures.in_range ∙ same in
    let high : bound ≤ℤ c.in-Some.number = omega (arith, ints) in
    out_of_range c.args.unit all rest c.loop-value.levels bound c.in-Some.number c.requires.whole read (too_high (is_coordinate c.args.unit c.in-Some.number) bound c.in-Some.number high)

pub push-requires : goal.push-requires
push-requires c = omega (arith, c.loop-value.invariant.0, c.requires.few, c.loop-value-test.true)

pub loop-value-preserved : goal.loop-value-preserved
loop-value-preserved c =
    let all = integers (items_view c.args.values.now) in
    let rest = integers (items_view (drop (c.loop-value.value-index + 1) c.args.values.now)) in
    let bound = to_z w32 c.loop-value.bound-bits in
    let read = at_next c.args.unit all c.args.values.now c.loop-value.value-index c.value-item.result (Some c.in-Some.number) c.loop-value.levels bound c.loop-value-test.true c.value-item.is (sym c.in-Some.is ∙ c.as_integer.ensures) c.loop-value.invariant.1 in
    let fits : SFits w64 c.in-Some.number = search rules in
    let known : is_coordinate c.args.unit c.in-Some.number ≡ true = simp to_z-of_z at c.in_ok-height.ensures.ok.0 in
    let same : c.in_ok-height.height ≡ c.in-Some.number = simp to_z-of_z at c.in_ok-height.ensures.ok.1 in
    let stored : to_z w32 (of_z w32 c.in_ok-height.height) ≡ c.in-Some.number = stored_coordinate c.args.unit c.in_ok-height.ensures.in_range ∙ same in
    let low : c.in-Some.number <ℤ bound = omega (arith, ints) in
    let longer : length (c.loop-value.levels ++ c.in-Some.number ∷ []) ≡ c.loop-value.value-index + 1 = omega (arith, length-append c.loop-value.levels (c.in-Some.number ∷ []), c.loop-value.invariant.0) in
    rw (c.push.ensures, stored) (longer, one_read c.args.unit all rest c.loop-value.levels bound c.in-Some.number read known (is_under bound c.in-Some.number low))

pub returns : goal.returns
returns c =
    let all = integers (items_view c.args.values.now) in
    let done = no_more_numbers c.args.values.now c.loop-value.value-index (omega arith) in
    let read : IsRead c.args.unit all (Some []) c.loop-value.levels (to_z w32 c.loop-value.bound-bits) = rw done at c.loop-value.invariant.1 in
    all_read c.args.unit all c.loop-value.levels _ read (omega (arith, c.loop-value.invariant.0, c.requires.few))
