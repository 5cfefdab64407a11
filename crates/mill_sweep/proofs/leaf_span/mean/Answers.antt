use Rattle.std.proofs.Common.{◌∙◌, refl, w32}
use Rattle.mill_base.proofs.Machine.{kept}
use Rattle.mill_sweep.proofs.Computed.{sum_is}
use Rattle.mill_sweep.proofs.Spans.{sum_within}
use Rattle.mill_base.specs.declared.limits.TheConstants.{MAX_COORDINATE}
use Rattle.mill_sweep.proofs.leaf_span.mean.Goals as goal

pub nearest-requires-clause-end_ok : goal.nearest-requires-clause-end_ok
nearest-requires-clause-end_ok c =
    let sum = sum_is c.args.ends.first c.args.ends.last c.args.d c.requires.first_ok c.requires.last_ok c.requires.d_ok in
    rw sum (sum_within c.args.ends.first c.args.ends.last c.args.d c.requires.first_ok c.requires.last_ok)

pub returns-clause-value : goal.returns-clause-value
returns-clause-value c =
    let sum = sum_is c.args.ends.first c.args.ends.last c.args.d c.requires.first_ok c.requires.last_ok c.requires.d_ok in
    kept w32 c.nearest.result MAX_COORDINATE c.nearest.ensures.bound.within refl ∙ rw sum at c.nearest.ensures.value
