use Rattle.std.proofs.Common.{arith}
use Rattle.mill_ngc.proofs.Feeds.{none-unmarked, lowest_feed-le, none-below_feed, feed-at}
use Rattle.mill_ngc.proofs.lines.run_at.Goals as goal

pub returns-then-marks-eq0-clause-none : goal.returns-then-marks-eq0-clause-none
returns-then-marks-eq0-clause-none c = none-unmarked c.args.text.now c.args.place c.requires c.if-marks-eq0.true

pub returns-clause-within : goal.returns-clause-within
returns-clause-within c = lowest_feed-le c.args.text.now c.args.place c.requires (omega (arith, c.if-marks-eq0.false))

pub returns-clause-none : goal.returns-clause-none
returns-clause-none c = none-below_feed c.args.text.now c.args.place c.requires (omega (arith, c.if-marks-eq0.false))

pub returns-clause-feed : goal.returns-clause-feed
returns-clause-feed c = feed-at c.args.text.now c.args.place c.requires (omega (arith, c.if-marks-eq0.false))
