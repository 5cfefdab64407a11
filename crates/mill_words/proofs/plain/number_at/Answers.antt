use Rattle.std.proofs.Common.{◌≡◌, ◌+◌, ◌-◌, ◌≤◌, ◌<◌, ◌^◌, ◌∙◌, cond, arith, rules}
use Rattle.mill_words.proofs.Digits.{first-digits, first-below}
use Rattle.mill_words.proofs.Places.{sign-at, point-at}
use Rattle.mill_words.proofs.plain.number_at.Goals as goal

pub returns-then-not-has_byte-clause-same : goal.returns-then-not-has_byte-clause-same
returns-then-not-has_byte-clause-same c letter place l =
    let sign : c.from.result ≡ cond c.has_byte-neg.result 1 0 = search rules in
    let count : c.digits_at-whole.result.1 ≡ c.args.from + c.from.result + (c.digits_at-whole.result.1 - (c.args.from + c.from.result)) = omega (arith, c.digits_at-whole.ensures.forward) in
    let few : (c.digits_at-whole.result.1 - (c.args.from + c.from.result)) ≤ 18 = omega (arith, c.if-before-from.false, c.from-else-before-eq0.ensures) in
    rw sign (sign-at c.has_byte-neg.result c.args.line.now c.args.from letter place l c.has_byte-neg.ensures.within c.has_byte-neg.ensures.byte)
    ∙ first-digits c.args.line.now (c.args.from + c.from.result) c.digits_at-whole.result.1 c.digits_at-whole.result.0 (c.digits_at-whole.result.1 - (c.args.from + c.from.result)) letter place c.has_byte-neg.result l c.digits_at-whole.ensures.digits count few

pub returns-then-not-has_byte-clause-fits : goal.returns-then-not-has_byte-clause-fits
returns-then-not-has_byte-clause-fits c =
    let count : c.digits_at-whole.result.1 ≡ c.args.from + c.from.result + (c.digits_at-whole.result.1 - (c.args.from + c.from.result)) = omega (arith, c.digits_at-whole.ensures.forward) in
    let few : (c.digits_at-whole.result.1 - (c.args.from + c.from.result)) ≤ 18 = omega (arith, c.if-before-from.false, c.from-else-before-eq0.ensures) in
    record {
      mant = first-below c.args.line.now (c.args.from + c.from.result) c.digits_at-whole.result.1 c.digits_at-whole.result.0 (c.digits_at-whole.result.1 - (c.args.from + c.from.result)) c.digits_at-whole.ensures.digits count few;
      scale = omega arith;
    }

pub returns-clause-same : goal.returns-clause-same
returns-clause-same c letter place l =
    let sign : c.from.result ≡ cond c.has_byte-neg.result 1 0 = search rules in
    let count : c.digits_at-whole.result.1 ≡ c.args.from + c.from.result + (c.digits_at-whole.result.1 - (c.args.from + c.from.result)) = omega (arith, c.digits_at-whole.ensures.forward) in
    let more : c.digits_at-mant.result.1 ≡ c.digits_at-whole.result.1 + 1 + (c.digits_at-mant.result.1 - (c.digits_at-whole.result.1 + 1)) = omega (arith, c.digits_at-mant.ensures.forward) in
    let all : (c.digits_at-whole.result.1 - (c.args.from + c.from.result)) + (c.digits_at-mant.result.1 - (c.digits_at-whole.result.1 + 1)) ≤ 18 = omega (arith, c.if-before-behind.false, c.from-else-before-behind-eq0.ensures) in
    let few : (c.digits_at-whole.result.1 - (c.args.from + c.from.result)) ≤ 18 = omega (arith, all) in
    let low : c.digits_at-whole.result.0 < 10 ^ (c.digits_at-whole.result.1 - (c.args.from + c.from.result)) = first-below c.args.line.now (c.args.from + c.from.result) c.digits_at-whole.result.1 c.digits_at-whole.result.0 (c.digits_at-whole.result.1 - (c.args.from + c.from.result)) c.digits_at-whole.ensures.digits count few in
    rw sign (sign-at c.has_byte-neg.result c.args.line.now c.args.from letter place l c.has_byte-neg.ensures.within c.has_byte-neg.ensures.byte)
    ∙ first-digits c.args.line.now (c.args.from + c.from.result) c.digits_at-whole.result.1 c.digits_at-whole.result.0 (c.digits_at-whole.result.1 - (c.args.from + c.from.result)) letter place c.has_byte-neg.result l c.digits_at-whole.ensures.digits count few
    ∙ point-at c.args.line.now c.digits_at-whole.result.1 letter place c.has_byte-neg.result c.digits_at-whole.result.0 (c.digits_at-whole.result.1 - (c.args.from + c.from.result)) l (search rules) (search rules)
    ∙ c.digits_at-mant.ensures.digits.part (c.digits_at-mant.result.1 - (c.digits_at-whole.result.1 + 1)) (c.digits_at-whole.result.1 - (c.args.from + c.from.result)) letter place c.has_byte-neg.result l more low all

pub returns-clause-fits : goal.returns-clause-fits
returns-clause-fits c =
    let count : c.digits_at-whole.result.1 ≡ c.args.from + c.from.result + (c.digits_at-whole.result.1 - (c.args.from + c.from.result)) = omega (arith, c.digits_at-whole.ensures.forward) in
    let more : c.digits_at-mant.result.1 ≡ c.digits_at-whole.result.1 + 1 + (c.digits_at-mant.result.1 - (c.digits_at-whole.result.1 + 1)) = omega (arith, c.digits_at-mant.ensures.forward) in
    let all : (c.digits_at-whole.result.1 - (c.args.from + c.from.result)) + (c.digits_at-mant.result.1 - (c.digits_at-whole.result.1 + 1)) ≤ 18 = omega (arith, c.if-before-behind.false, c.from-else-before-behind-eq0.ensures) in
    let few : (c.digits_at-whole.result.1 - (c.args.from + c.from.result)) ≤ 18 = omega (arith, all) in
    let low : c.digits_at-whole.result.0 < 10 ^ (c.digits_at-whole.result.1 - (c.args.from + c.from.result)) = first-below c.args.line.now (c.args.from + c.from.result) c.digits_at-whole.result.1 c.digits_at-whole.result.0 (c.digits_at-whole.result.1 - (c.args.from + c.from.result)) c.digits_at-whole.ensures.digits count few in
    record { mant = c.digits_at-mant.ensures.digits.bound (c.digits_at-mant.result.1 - (c.digits_at-whole.result.1 + 1)) (c.digits_at-whole.result.1 - (c.args.from + c.from.result)) more low all; scale = omega arith }
