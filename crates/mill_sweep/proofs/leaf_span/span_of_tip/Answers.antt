use Rattle.std.proofs.Common.{◌∙◌}
use Rattle.mill_sweep.proofs.Segments.{read_span}
use Rattle.mill_sweep.proofs.leaf_span.span_of_tip.Goals as goal

pub returns-clause-value : goal.returns-clause-value
returns-clause-value c =
    c.span_by.ensures.value
    ∙ read_span c.args.step.now c.args.leaf.d c.args.leaf.k _ _ _ c.stretch_in_x.ensures.value c.stretch_in_y.ensures.value c.low_end.ensures.value c.low_end.ensures.bound
