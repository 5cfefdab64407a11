use Rattle.mill_sweep.proofs.Spans.{lower_within}
use Rattle.mill_base.specs.declared.limits.TheConstants.{MAX_COORDINATE}
use Rattle.mill_sweep.proofs.leaf_span.span.Goals as goal

pub returns-clause-zlow_ok : goal.returns-clause-zlow_ok
returns-clause-zlow_ok c =
    let m = c.args.step.now in
    let range = c.requires.move_ok in
    rw c.span_of_tip.ensures.value (record { within = lower_within m.from.z m.to.z c.args.leaf.d c.args.leaf.k MAX_COORDINATE range.from_ok.z_ok.within range.to_ok.z_ok.within c.requires.k_ok })
