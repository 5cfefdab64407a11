use Rattle.mill_links.proofs.Points.{same_point, other_point}
use Rattle.mill_links.proofs.Straight.{says_there, says_fed}
use Rattle.mill_links.proofs.links.goes_clear.Goals as goal

pub returns-then-eq : goal.returns-then-eq
returns-then-eq c = says_there c.args.job.now.fields c.args.part.now c.args.from c.args.to (same_point c.args.to.at c.args.from c.eq.result c.eq.ensures c.if-eq.true)

pub returns : goal.returns
returns c =
    says_fed c.args.job.now.fields c.args.part.now c.args.from c.args.to c.is_clear.result (other_point c.args.to.at c.args.from c.eq.result c.eq.ensures c.if-eq.false)
    c.is_clear.ensures.yes c.is_clear.ensures.no
