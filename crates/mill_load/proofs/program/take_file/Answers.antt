use Rattle.std.proofs.Common.{rules, ◌≡◌}
use Rattle.mill_load.proofs.program.take_file.Goals as goal

pub returns-clause-takes : goal.returns-clause-takes
returns-clause-takes g c = λ contents held.
    let takes = c.take_pieces.ensures.takes contents (search rules) in
    search rules

pub returns-clause-failed : goal.returns-clause-failed
returns-clause-failed g c = λ names same.
    let named : names c.args.file ≡ c.new-pieces.result.name.now = search rules in
    let failed = c.take_pieces.ensures.failed names named in
    search rules
