use Rattle.std.proofs.Common.{◌∙◌, refl, w32, w64}
use Rattle.mill_base.proofs.Machine.{kept}
use Rattle.mill_base.specs.declared.limits.TheConstants.{MAX_COORDINATE}
use Rattle.mill_sweep.proofs.Spans.{end_small, end_within}
use Rattle.mill_sweep.specs.Widths.{highest_end}
use Rattle.mill_sweep.proofs.ends.end_at.Goals as goal

pub returns-clause-value : goal.returns-clause-value
returns-clause-value c =
    kept w64 c.tip_end_at.result highest_end c.tip_end_at.ensures.bound.within refl
    ∙ rw (kept w32 c.args.from MAX_COORDINATE c.requires.from_ok.within refl, kept w32 c.args.to MAX_COORDINATE c.requires.to_ok.within refl) at c.tip_end_at.ensures.value

pub returns-clause-within : goal.returns-clause-within
returns-clause-within c = rw (returns-clause-value c) (end_within c.args.from c.args.to c.args.d c.args.k c.requires.from_ok.within c.requires.to_ok.within c.requires.k_ok)

pub returns-clause-bound : goal.returns-clause-bound
returns-clause-bound c = record { within = end_small _ c.args.d c.requires.d_ok (returns-clause-within c) }
