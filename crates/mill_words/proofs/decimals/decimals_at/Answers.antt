use Rattle.std.proofs.Common.{◌≡◌, ◌+◌, ◌<◌, false, true, get_or, drop, refl, arith, rules}
use Rattle.std.specs.Char.{is_ascii_digit}
use Rattle.mill_words.specs.Plain.{digit_count}
use Rattle.mill_words.specs.inner.Places.{DigitsTo}
use Rattle.mill_words.proofs.Digits.{no-digit}
use Rattle.mill_words.proofs.DigitsEnd.{count-below, count-next, count-stop}
use Rattle.mill_words.proofs.decimals.decimals_at.Goals as goal

pub returns-then-count-eq2-clause-digits : goal.returns-then-count-eq2-clause-digits
returns-then-count-eq2-clause-digits c =
    let one = c.in_ok-tens.ensures.value c.args.from c.args.front (omega arith) (no-digit c.args.line.now c.args.from c.args.front) in
    let two = c.in_ok-ones.ensures.value c.args.from c.args.front (omega arith) one in
    let end : c.args.from + c.args.count ≡ c.args.from + 1 + 1 = omega (arith, c.if-count-eq2.true) in
    rw end two

pub returns-clause-digits : goal.returns-clause-digits
returns-clause-digits c =
    let one = c.in_ok-tens.ensures.value c.args.from c.args.front (omega arith) (no-digit c.args.line.now c.args.from c.args.front) in
    let two = c.in_ok-ones.ensures.value c.args.from c.args.front (omega arith) one in
    let here : c.args.from + 2 ≡ c.args.from + 1 + 1 = omega arith in
    let there : DigitsTo c.args.line.now c.args.from (c.args.from + 2) c.args.front c.in_ok-ones.ones = rw here two in
    let three = c.in_ok-last.ensures.value c.args.from c.args.front (omega arith) there in
    let end : c.args.from + c.args.count ≡ c.args.from + 2 + 1 = omega (arith, c.requires.count.0, c.requires.count.1, c.if-count-eq2.false) in
    rw end three

-- ---- so many digits stand there, or the answer is none

pub returns-then-from-count-clause-enough : goal.returns-then-from-count-clause-enough
returns-then-from-count-clause-enough c =
    let few = count-below c.args.line.now c.args.from c.args.count c.requires.within c.if-from-count.true in
    search (rules, arith, few)

pub returns-in_err-tens-clause-enough : goal.returns-in_err-tens-clause-enough
returns-in_err-tens-clause-enough c =
    let other : is_ascii_digit (get_or c.args.line.now c.args.from 0) ≡ false = search rules in
    let none = count-stop c.args.line.now c.args.from (omega (arith, c.if-from-count.false, c.requires.count.0)) other in
    let few : digit_count (drop c.args.from c.args.line.now) < c.args.count = omega (arith, none, c.requires.count.0) in
    search (rules, arith, few)

pub returns-in_err-ones-clause-enough : goal.returns-in_err-ones-clause-enough
returns-in_err-ones-clause-enough c =
    let tens : is_ascii_digit (get_or c.args.line.now c.args.from 0) ≡ true = search rules in
    let other : is_ascii_digit (get_or c.args.line.now (c.args.from + 1) 0) ≡ false = search rules in
    let one = count-next c.args.line.now c.args.from (omega (arith, c.if-from-count.false, c.requires.count.0)) tens in
    let none = count-stop c.args.line.now (c.args.from + 1) (omega (arith, c.if-from-count.false, c.requires.count.0)) other in
    let few : digit_count (drop c.args.from c.args.line.now) < c.args.count = omega (arith, one, none, c.requires.count.0) in
    search (rules, arith, few)

pub returns-then-count-eq2-clause-enough : goal.returns-then-count-eq2-clause-enough
returns-then-count-eq2-clause-enough c =
    let tens : is_ascii_digit (get_or c.args.line.now c.args.from 0) ≡ true = search rules in
    let ones : is_ascii_digit (get_or c.args.line.now (c.args.from + 1) 0) ≡ true = search rules in
    let one = count-next c.args.line.now c.args.from (omega (arith, c.if-from-count.false, c.requires.count.0)) tens in
    let two = count-next c.args.line.now (c.args.from + 1) (omega (arith, c.if-from-count.false, c.requires.count.0)) ones in
    (λ _. omega (arith, one, two, c.if-count-eq2.true), λ _. refl)

pub returns-in_err-last-clause-enough : goal.returns-in_err-last-clause-enough
returns-in_err-last-clause-enough c =
    let tens : is_ascii_digit (get_or c.args.line.now c.args.from 0) ≡ true = search rules in
    let ones : is_ascii_digit (get_or c.args.line.now (c.args.from + 1) 0) ≡ true = search rules in
    let other : is_ascii_digit (get_or c.args.line.now (c.args.from + 2) 0) ≡ false = search rules in
    let one = count-next c.args.line.now c.args.from (omega (arith, c.if-from-count.false, c.requires.count.0)) tens in
    let two = count-next c.args.line.now (c.args.from + 1) (omega (arith, c.if-from-count.false, c.requires.count.0)) ones in
    let none = count-stop c.args.line.now (c.args.from + 2) (omega (arith, c.if-from-count.false, c.requires.count.0, c.if-count-eq2.false)) other in
    let here : c.args.from + 2 ≡ c.args.from + 1 + 1 = omega arith in
    let few : digit_count (drop c.args.from c.args.line.now) < c.args.count = omega (arith, one, two, rw here at none, c.requires.count.0, c.if-count-eq2.false) in
    search (rules, arith, few)

pub returns-clause-enough : goal.returns-clause-enough
returns-clause-enough c =
    let tens : is_ascii_digit (get_or c.args.line.now c.args.from 0) ≡ true = search rules in
    let ones : is_ascii_digit (get_or c.args.line.now (c.args.from + 1) 0) ≡ true = search rules in
    let last : is_ascii_digit (get_or c.args.line.now (c.args.from + 2) 0) ≡ true = search rules in
    let one = count-next c.args.line.now c.args.from (omega (arith, c.if-from-count.false, c.requires.count.0)) tens in
    let two = count-next c.args.line.now (c.args.from + 1) (omega (arith, c.if-from-count.false, c.requires.count.0)) ones in
    let three = count-next c.args.line.now (c.args.from + 2) (omega (arith, c.if-from-count.false, c.requires.count.0, c.if-count-eq2.false)) last in
    let here : c.args.from + 2 ≡ c.args.from + 1 + 1 = omega arith in
    let all : digit_count (drop (c.args.from + 1 + 1) c.args.line.now) ≡ digit_count (drop (c.args.from + 2 + 1) c.args.line.now) + 1 = rw (← here) three in
    (λ _. omega (arith, one, two, all, c.requires.count.1), λ _. refl)
