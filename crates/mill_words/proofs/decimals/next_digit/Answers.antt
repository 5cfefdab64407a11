use Rattle.std.proofs.Common.{◌≡◌, true, get_or, refl, arith, rules}
use Rattle.std.specs.Char.{is_ascii_digit, digit_value}
use Rattle.mill_words.proofs.Digits.{one-more-digit}
use Rattle.mill_words.proofs.Numbers.{digit_of}
use Rattle.mill_words.proofs.decimals.next_digit.Goals as goal

pub returns-clause-value : goal.returns-clause-value
returns-clause-value c from front forward so_far =
    let digit : is_ascii_digit (get_or c.args.line.now c.args.place 0) ≡ true = search rules in
    let here = digit_of (get_or c.args.line.now c.args.place 0) digit in
    let value : c.from.result ≡ digit_value (get_or c.args.line.now c.args.place 0) = omega (arith, here.1, c.from.ensures) in
    one-more-digit c.args.line.now from c.args.place front c.args.value c.from.result _ forward c.requires value (omega (arith, value, here.0)) refl so_far
