use Rattle.mill_part.proofs.TopLemmas.{kept_none, kept_some}
use Rattle.mill_part.proofs.part.Part.top.Goals as goal

pub returns-clause-none : goal.returns-clause-none
returns-clause-none c = kept_none c.args.self.now c.self.inside.triangles.items c.self.inside.top c.self.invariant.1 c.self.view_is

pub returns-clause-greatest : goal.returns-clause-greatest
returns-clause-greatest c = kept_some c.args.self.now c.self.inside.triangles.items c.self.inside.top c.self.invariant.1 c.self.view_is
