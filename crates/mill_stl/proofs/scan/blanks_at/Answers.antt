use Rattle.std.proofs.Common.{get_or, arith}
use Rattle.mill_stl.proofs.Runs.{fails-unmarked, lowest_mark-le, fails-below_mark, differs, is_blank}
use Rattle.mill_stl.proofs.scan.blanks_at.Goals as goal

pub returns-then-marks-eq0-clause-blanks : goal.returns-then-marks-eq0-clause-blanks
returns-then-marks-eq0-clause-blanks c k ge lt =
    is_blank (get_or c.args.text.now k 0) (fails-unmarked differs c.args.text.now c.args.place c.requires c.if-marks-eq0.true k ge lt)

pub returns-clause-within : goal.returns-clause-within
returns-clause-within c = lowest_mark-le differs c.args.text.now c.args.place c.requires (omega (arith, c.if-marks-eq0.false))

pub returns-clause-blanks : goal.returns-clause-blanks
returns-clause-blanks c k ge lt =
    is_blank (get_or c.args.text.now k 0)
    (fails-below_mark differs c.args.text.now c.args.place c.requires (omega (arith, c.if-marks-eq0.false)) k ge lt)
