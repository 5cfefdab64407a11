use Rattle.std.proofs.Common.{arith, ◌+◌, ◌*◌}
use Rattle.std.specs.Str.Parse.{digits_value_after}
use Rattle.std.proofs.lemmas.Str.{digit_value_digit}
use Rattle.std.proofs.lemmas.Str.Parse.{digit_at}
use Rattle.mill_decimal.proofs.DigitRuns.{goes_on}
use Rattle.mill_decimal.proofs.Powers.{ten, one_more}
use Rattle.mill_decimal.proofs.digits.value_after.Goals as goal

pub overflow_mul-value : goal.overflow_mul-value
overflow_mul-value c = omega (arith, ten (c.args.before + c.loop-digit.digit-index) 23 (omega arith))

pub overflow_sub-digit : goal.overflow_sub-digit
overflow_sub-digit c = omega (arith, digit_at c.args.digits.now c.loop-digit.digit-index c.requires.digits (omega arith))

pub overflow_add-value : goal.overflow_add-value
overflow_add-value c = omega (arith, ten (c.args.before + c.loop-digit.digit-index) 23 (omega arith), c.type_inv.digits c.loop-digit.digit-index)

pub loop-digit-preserved : goal.loop-digit-preserved
loop-digit-preserved c =
    let here = digit_at c.args.digits.now c.loop-digit.digit-index c.requires.digits (omega arith) in
    let value = digit_value_digit _ here in (
      goes_on c.args.digits.now c.loop-digit.digit-index c.loop-digit.value (10 * c.loop-digit.value + c.from.result) (digits_value_after 10 c.args.front c.args.digits.now)
          c.loop-digit-test.true (omega (arith, value, here)) c.loop-digit.invariant.0,
      one_more _ (c.args.before + c.loop-digit.digit-index) c.loop-digit.value c.from.result (omega arith) c.loop-digit.invariant.1 (omega (arith, value, here)),
    )
