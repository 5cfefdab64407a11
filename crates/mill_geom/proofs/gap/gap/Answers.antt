use Rattle.mill_geom.specs.Gaps.{gap_of}
use Rattle.mill_geom.proofs.Gaps.{IsStored, gap_stored}
use Rattle.mill_geom.proofs.gap.gap.Goals as goal

computed : (c : goal.After-max-2) → IsStored c.max-2.result (gap_of c.args.a c.args.b c.args.c)
computed c =
    gap_stored c.args.a c.args.b c.args.c c.least-low.result c.most-high.result c.max.result c.max-2.result c.requires.a_ok.within c.requires.b_ok.within c.requires.c_ok.within
    c.least-low.ensures.bound.within c.most-high.ensures.bound.within c.least-low.ensures.value c.most-high.ensures.value c.max.ensures.value c.max-2.ensures.value

pub returns-clause-value : goal.returns-clause-value
returns-clause-value c = (computed c).is

pub returns-clause-bound : goal.returns-clause-bound
returns-clause-bound c = record { within = (computed c).small }
