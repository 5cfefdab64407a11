use Rattle.std.proofs.Common.{◌≡◌, true, false, get_or, refl, sym, ◌∙◌, arith, rules}
use Rattle.std.specs.Char.{is_ascii_digit, digit_value}
use Rattle.mill_words.proofs.Digits.{no-digit, one-more-digit}
use Rattle.mill_words.proofs.Numbers.{digit_of}
use Rattle.mill_words.proofs.DigitsEnd.{digits_end-next, digits_end-other, digits_end-last}
use Rattle.mill_words.proofs.plain.digits_at.Goals as goal

pub loop-place-init : goal.loop-place-init
loop-place-init c = record { digits = no-digit c.args.line.now c.args.from c.args.front; end = refl; forward = omega arith; within = c.requires }

pub loop-place-preserved : goal.loop-place-preserved
loop-place-preserved c =
    let digit : is_ascii_digit (get_or c.args.line.now c.loop-place.place 0) ≡ true = search rules in
    let here = digit_of (get_or c.args.line.now c.loop-place.place 0) digit in
    let value : c.from.result ≡ digit_value (get_or c.args.line.now c.loop-place.place 0) = omega (arith, here.1, c.from.ensures) in
    record {
      digits = one-more-digit c.args.line.now c.args.from c.loop-place.place c.args.front c.loop-place.value c.from.result _
          c.loop-place.invariant.forward c.loop-place-test.true value (omega (arith, value, here.0)) refl c.loop-place.invariant.digits;
      end = digits_end-next c.args.line.now c.loop-place.place c.loop-place-test.true digit ∙ c.loop-place.invariant.end;
      forward = omega (arith, c.loop-place.invariant.forward);
      within = omega (arith, c.loop-place-test.true);
    }

pub returns-then-not-is_ascii_digit-clause-end : goal.returns-then-not-is_ascii_digit-clause-end
returns-then-not-is_ascii_digit-clause-end c =
    let other : is_ascii_digit (get_or c.args.line.now c.loop-place.place 0) ≡ false = search rules in
    sym (digits_end-other c.args.line.now c.loop-place.place c.loop-place-test.true other) ∙ c.loop-place.invariant.end

pub returns-clause-end : goal.returns-clause-end
returns-clause-end c =
    sym (digits_end-last c.args.line.now c.loop-place.place (omega (arith, c.loop-place-test.false))) ∙ c.loop-place.invariant.end
