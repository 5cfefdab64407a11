use Rattle.std.proofs.Common.{rules}
use Rattle.mill_stl.proofs.Steps.{meaning-blank}
use Rattle.mill_stl.proofs.scan.behind_spaces.Goals as goal

pub returns-then-is_lone_blank-clause-meaning : goal.returns-then-is_lone_blank-clause-meaning
returns-then-is_lone_blank-clause-meaning c snap unit p tris =
    meaning-blank snap unit c.args.text.now c.args.cursor.line c.args.cursor.from p tris (search rules) (search rules)
