use Rattle.std.proofs.Common.{◌≡◌, ◌+◌, ◌-◌, ◌≤◌, cond, arith, rules}
use Rattle.mill_words.proofs.Digits.{decimal-read, decimal-below}
use Rattle.mill_words.proofs.decimals.decimal_at.Goals as goal

pub returns-clause-same : goal.returns-clause-same
returns-clause-same c letter place l =
    let sign : c.from.result ≡ cond c.has_byte-neg.result 1 0 = search rules in
    let few : (c.digits_at-whole.result.1 - (c.args.from + c.from.result)) ≤ 15 = search (rules, arith) in
    let scale : c.args.places ≡ c.from-count.result = omega (arith, c.from-count.ensures) in
    let small : c.from-count.result ≤ 3 = omega (arith, c.requires.places.1, c.from-count.ensures) in
    decimal-read c.args.line.now c.args.from c.from.result c.digits_at-whole.result.1 c.digits_at-whole.result.0 c.in_ok-mant.mant c.from-count.result c.args.places letter place c.has_byte-neg.result l
    sign c.has_byte-neg.ensures.within c.has_byte-neg.ensures.byte c.digits_at-whole.ensures.digits c.digits_at-whole.ensures.forward few (search rules) (search rules) c.in_ok-mant.ensures.digits small scale

pub returns-clause-fits : goal.returns-clause-fits
returns-clause-fits c =
    let few : (c.digits_at-whole.result.1 - (c.args.from + c.from.result)) ≤ 15 = search (rules, arith) in
    let small : c.from-count.result ≤ 3 = omega (arith, c.requires.places.1, c.from-count.ensures) in
    record {
      mant = decimal-below c.args.line.now (c.args.from + c.from.result) c.digits_at-whole.result.1 c.digits_at-whole.result.0 c.in_ok-mant.mant c.from-count.result
          c.digits_at-whole.ensures.digits c.digits_at-whole.ensures.forward few c.in_ok-mant.ensures.digits small;
      scale = omega (arith, c.requires.places.1);
    }
