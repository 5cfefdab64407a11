use Rattle.std.proofs.Common.{◌++◌, ◌<◌, length, arith, rules, length-append}
use Rattle.mill_ngc.proofs.PieceLemmas.{too_long}
use Rattle.mill_ngc.proofs.text_reader.TextReader.end_begun_line.Goals as goal

pub returns-then-len-bytes-gt-LONGEST_LINE-clause-fault : goal.returns-then-len-bytes-gt-LONGEST_LINE-clause-fault
returns-then-len-bytes-gt-LONGEST_LINE-clause-fault c =
    let line = c.args.self.now.unfinished ++ c.args.bytes.now in
    let long : 256 < length line = search (rules, arith, length-append) in
    λ _. rw c.line.ensures (too_long c.args.self.now.lines line long)
