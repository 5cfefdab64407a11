use Rattle.std.specs.Prelude.{pos}
use Rattle.mill_base.specs.Contact.{Touches}
use Rattle.mill_base.specs.declared.points.Pt3.{Pt3}
use Rattle.mill_base.specs.declared.cutter.Cutter.{Cutter}
use Rattle.mill_base.specs.Points.{highest}
use Rattle.mill_sweep.proofs.Far.{highest_within}
use Rattle.mill_sweep.proofs.Placing.{centred, placed}
use Rattle.mill_sweep.proofs.leaf_test.outer_holds_some.Goals as goal

pub returns-clause-yes : goal.returns-clause-yes
returns-clause-yes c = λ t.
    placed (λ (w : Cutter) (p : Pt3). Touches w (pos 1) p c.args.tri.now) c.args.cutter c.widen-wide.result.0 c.args.span c.widen-wide.result.1 c.requires.span_ok c.requires.reach_most
    c.widen-wide.ensures.cutter c.widen-wide.ensures.lowered c.widen-wide.ensures.lowered_least c.widen-wide.ensures.lowered_most (c.holds_some.ensures.yes t)

pub returns-clause-no : goal.returns-clause-no
returns-clause-no c = λ f.
    placed (λ (w : Cutter) (p : Pt3). ¬ Touches w (pos 1) p c.args.tri.now) c.args.cutter c.widen-wide.result.0 c.args.span c.widen-wide.result.1 c.requires.span_ok c.requires.reach_most
    c.widen-wide.ensures.cutter c.widen-wide.ensures.lowered c.widen-wide.ensures.lowered_least c.widen-wide.ensures.lowered_most (c.holds_some.ensures.no f)

pub holds_some-requires-clause-tip_ok : goal.holds_some-requires-clause-tip_ok
holds_some-requires-clause-tip_ok c =
    centred c.args.span c.widen-wide.result.1 c.requires.span_ok c.widen-wide.ensures.lowered_least c.widen-wide.ensures.lowered_most
    (highest c.args.tri.now) c.requires.higher (highest_within c.args.tri.now c.requires.tri_ok)
