use Rattle.std.proofs.Common.{◌≡◌, length, get_or, inr, arith, rules}
use Rattle.mill_block.proofs.quick_line.ends_with_feed.Goals as goal

pub returns : goal.returns
returns c taken =
    let letter : get_or c.args.line.now c.args.place 0 ≡ 70 = search rules in
    let end : c.in-Some.number.end ≡ length c.args.line.now = search (rules, arith) in
    inr (record { num = c.in-Some.number.num; over = search rules; letter_is = letter; word = rw end at c.in-Some.ensures.word })
