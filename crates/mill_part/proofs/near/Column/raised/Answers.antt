use Rattle.std.proofs.Common.{FitsSigned, rules}
use mir.Syntax.{w32}
use Rattle.std.proofs.lemmas.Int.{to_z-of_z}
use Rattle.mill_part.proofs.CoverLemmas.{not_raised}
use Rattle.mill_part.proofs.near.Column.raised.Goals as goal

pub returns-then-highest-height-clause-highest : goal.returns-then-highest-height-clause-highest
returns-then-highest-height-clause-highest c =
    let fits : FitsSigned w32 c.highest.result = search rules in
    let height = to_z-of_z w32 c.args.height c.ranges.height in
    rw height (not_raised c.args.tri.now c.args.self.band c.args.self.x c.args.self.y c.highest.result c.args.height c.highest.ensures
    (rw (to_z-of_z w32 c.highest.result fits, height) at c.if-highest-height.true))

pub returns-then-self-eq0-clause-reached : goal.returns-then-self-eq0-clause-reached
returns-then-self-eq0-clause-reached c =
    let fits : FitsSigned w32 c.raised_under.result = search rules in
    rw (to_z-of_z w32 c.raised_under.result fits) (rw (to_z-of_z w32 c.args.height c.ranges.height) at c.raised_under.ensures.reached)

pub returns-then-self-eq0-clause-highest : goal.returns-then-self-eq0-clause-highest
returns-then-self-eq0-clause-highest c =
    let fits : FitsSigned w32 c.raised_under.result = search rules in
    rw (to_z-of_z w32 c.raised_under.result fits) c.raised_under.ensures.highest

pub returns-clause-reached : goal.returns-clause-reached
returns-clause-reached c =
    let fits : FitsSigned w32 c.raised_near.result = search rules in
    rw (to_z-of_z w32 c.raised_near.result fits) (rw (to_z-of_z w32 c.args.height c.ranges.height) at c.raised_near.ensures.reached)

pub returns-clause-highest : goal.returns-clause-highest
returns-clause-highest c =
    let fits : FitsSigned w32 c.raised_near.result = search rules in
    rw (to_z-of_z w32 c.raised_near.result fits) c.raised_near.ensures.highest
