use Rattle.std.proofs.Common.{◌≡◌, ◌+◌, length, get_or, true, sym, arith, rules, below_more}
use Rattle.std.specs.Char.{is_ascii_digit}
use Rattle.std.proofs.lemmas.List.Sums.{prefix_len_is}
use Rattle.std.proofs.lemmas.Str.{digit_value_digit}
use Rattle.mill_decimal.proofs.DigitRuns.{digit_range, digits_value_after-take}
use Rattle.mill_decimal.proofs.Powers.{ten, one_more}
use Rattle.mill_decimal.proofs.digits.value_in_front.Goals as goal

pub returns-then-not-is_ascii_digit-clause-count : goal.returns-then-not-is_ascii_digit-clause-count
returns-then-not-is_ascii_digit-clause-count c =
    sym (prefix_len_is is_ascii_digit c.args.text.now c.loop-place.place 0 (omega arith) c.loop-place.invariant.digits (λ h. search rules))

pub overflow_mul-value : goal.overflow_mul-value
overflow_mul-value c = omega (arith, ten (c.args.before + c.loop-place.place) 17 (omega arith), c.loop-place.invariant.bound)

pub overflow_add-value : goal.overflow_add-value
overflow_add-value c = omega (arith, ten (c.args.before + c.loop-place.place) 17 (omega arith), c.loop-place.invariant.bound, c.type_inv.text c.loop-place.place)

pub loop-place-preserved : goal.loop-place-preserved
loop-place-preserved c =
    let digit : is_ascii_digit (get_or c.args.text.now c.loop-place.place 0) ≡ true = search rules in
    let here = digit_range (get_or c.args.text.now c.loop-place.place 0) digit in
    let value = digit_value_digit (get_or c.args.text.now c.loop-place.place 0) here in
    record {
      digits = below_more _ _ c.loop-place.invariant.digits digit;
      value = omega (arith, digits_value_after-take c.args.front c.args.text.now c.loop-place.place (omega arith), c.loop-place.invariant.value, value);
      bound = one_more _ (c.args.before + c.loop-place.place) c.loop-place.value c.from.result (omega arith) c.loop-place.invariant.bound (omega (arith, value, here));
    }

pub returns-clause-count : goal.returns-clause-count
returns-clause-count c =
    sym (prefix_len_is is_ascii_digit c.args.text.now (length c.args.text.now) 0 (omega arith)
    (λ k lt. c.loop-place.invariant.digits k (omega arith)) (λ lt. absurd (omega arith)))
