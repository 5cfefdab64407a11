use Rattle.std.proofs.Common.{leb, get_or, arith}
use Rattle.mill_stl.proofs.Runs.{fails-unmarked, lowest_mark-le, fails-below_mark, no_space}
use Rattle.mill_stl.proofs.scan.run_at.Goals as goal

pub returns-then-marks-eq0-clause-word : goal.returns-then-marks-eq0-clause-word
returns-then-marks-eq0-clause-word c k ge lt =
    no_space (get_or c.args.text.now k 0) (fails-unmarked leb c.args.text.now c.args.place c.requires c.if-marks-eq0.true k ge lt)

pub returns-clause-within : goal.returns-clause-within
returns-clause-within c = lowest_mark-le leb c.args.text.now c.args.place c.requires (omega (arith, c.if-marks-eq0.false))

pub returns-clause-word : goal.returns-clause-word
returns-clause-word c k ge lt =
    no_space (get_or c.args.text.now k 0)
    (fails-below_mark leb c.args.text.now c.args.place c.requires (omega (arith, c.if-marks-eq0.false)) k ge lt)
