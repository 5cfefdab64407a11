use Rattle.mill_block.specs.Lines.{line_begun}
use Rattle.std.proofs.Common.{◌++◌}
use Rattle.mill_ngc.proofs.ProgramLemmas.{so_far-begun, so_far-line, are_sound}
use Rattle.mill_ngc.proofs.text_reader.TextReader.finish.Goals as goal

pub returns-then-has_ended-2-clause-sound : goal.returns-then-has_ended-2-clause-sound
returns-then-has_ended-2-clause-sound c =
    let p = c.args.self.now.lines in
    let q = c.read_any_line.new.self in
    let moves = c.args.out.now.items in
    let adds = c.in_ok-read_any_line.ensures.ok in
    rw adds.added (λ start unit rules s. are_sound start unit rules q (moves ++ adds.made)
    (so_far-line start unit rules (line_begun p) q moves adds.made (so_far-begun start unit rules p moves s) adds.keeps))

pub returns-clause-sound : goal.returns-clause-sound
returns-clause-sound c =
    let p = c.args.self.now.lines in
    let q = c.read_any_line.new.self in
    let moves = c.args.out.now.items in
    let adds = c.in_ok-read_any_line.ensures.ok in
    rw adds.added (λ start unit rules s. are_sound start unit rules q (moves ++ adds.made)
    (so_far-line start unit rules (line_begun p) q moves adds.made (so_far-begun start unit rules p moves s) adds.keeps))
