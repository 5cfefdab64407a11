use Rattle.std.proofs.Common.{FitsSigned, rules}
use mir.Syntax.{w32}
use Rattle.std.proofs.lemmas.Int.{to_z-of_z}
use Rattle.mill_part.proofs.CoverLemmas.{all_lower}
use Rattle.mill_part.proofs.near.Column.is_covered.Goals as goal

pub returns-then-highest-height-clause-no : goal.returns-then-highest-height-clause-no
returns-then-highest-height-clause-no c = λ f over.
    let fits : FitsSigned w32 c.highest.result = search rules in
    all_lower c.args.tri.now c.args.self.band c.args.self.x c.args.self.y c.highest.result c.args.height c.highest.ensures
    (rw (to_z-of_z w32 c.highest.result fits, to_z-of_z w32 c.args.height c.ranges.height) at c.if-highest-height.true) over

pub returns-then-self-eq0-clause-yes : goal.returns-then-self-eq0-clause-yes
returns-then-self-eq0-clause-yes c = λ t. rw (to_z-of_z w32 c.args.height c.ranges.height) at (c.is_under.ensures.yes t)

pub returns-then-self-eq0-clause-no : goal.returns-then-self-eq0-clause-no
returns-then-self-eq0-clause-no c = λ f. rw (to_z-of_z w32 c.args.height c.ranges.height) at (c.is_under.ensures.no f)

pub returns-clause-yes : goal.returns-clause-yes
returns-clause-yes c = λ t. rw (to_z-of_z w32 c.args.height c.ranges.height) at (c.is_near.ensures.yes t)

pub returns-clause-no : goal.returns-clause-no
returns-clause-no c = λ f. rw (to_z-of_z w32 c.args.height c.ranges.height) at (c.is_near.ensures.no f)
