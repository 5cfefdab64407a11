use Rattle.std.proofs.Common.{◌∙◌, pos, refl, subst, w32}
use lib.Signed.{◌≤ℤ◌}
use Rattle.mill_base.proofs.Machine.{kept, stored}
use Rattle.mill_sweep.specs.Halving.{Blocks, IsFreeSpan}
use Rattle.mill_sweep.specs.declared.leaf.Span.{Span}
use Rattle.mill_sweep.proofs.Segments.{read_span, free_down, under_down, beside_x_down, beside_y_down}
use Rattle.mill_base.specs.declared.limits.TheConstants.{MAX_REACH}
use Rattle.mill_sweep.specs.Widths.{highest_tip}
use Rattle.mill_sweep.proofs.halving.is_segment_passed.Goals as goal

pub returns-then-is_no_higher-clause-yes : goal.returns-then-is_no_higher-clause-yes
returns-then-is_no_higher-clause-yes c = λ _.
    let here = kept w32 c.low_end-zlow.result highest_tip c.low_end-zlow.ensures.bound.within refl in
    under_down c.args.cutter c.args.step.now c.args.tri.now c.args.leaf.d c.args.leaf.k (stored w32 c.low_end-zlow.result) (here ∙ c.low_end-zlow.ensures.value) (c.is_no_higher.ensures.yes c.if-is_no_higher.true)

pub returns-then-is_beside_in_x-clause-yes : goal.returns-then-is_beside_in_x-clause-yes
returns-then-is_beside_in_x-clause-yes c = λ _.
    beside_x_down c.args.cutter c.args.step.now c.args.tri.now c.args.leaf.d c.args.leaf.k c.requires.cutter_ok c.requires.move_ok c.stretch_in_x-x.result c.stretch_in_x-x.ensures.value
    (c.is_beside_in_x.ensures c.if-is_beside_in_x.true)

pub returns-then-is_beside_in_y-clause-yes : goal.returns-then-is_beside_in_y-clause-yes
returns-then-is_beside_in_y-clause-yes c = λ _.
    beside_y_down c.args.cutter c.args.step.now c.args.tri.now c.args.leaf.d c.args.leaf.k c.requires.cutter_ok c.requires.move_ok c.stretch_in_y-y.result c.stretch_in_y-y.ensures.value
    (c.is_beside_in_y.ensures c.if-is_beside_in_y.true)

-- its span is the one that was tested
pub returns-clause-yes : goal.returns-clause-yes
returns-clause-yes c = λ free.
    let span = read_span c.args.step.now c.args.leaf.d c.args.leaf.k _ _ _ c.stretch_in_x-x.ensures.value c.stretch_in_y-y.ensures.value c.low_end-zlow.ensures.value c.low_end-zlow.ensures.bound in
    free_down c.args.cutter c.args.step.now c.args.tri.now c.args.leaf.d c.args.leaf.k _ span (c.is_free_by.ensures.yes free)

pub returns-clause-no : goal.returns-clause-no
returns-clause-no c = λ held.
    let span = read_span c.args.step.now c.args.leaf.d c.args.leaf.k _ _ _ c.stretch_in_x-x.ensures.value c.stretch_in_y-y.ensures.value c.low_end-zlow.ensures.value c.low_end-zlow.ensures.bound in
    subst (λ (s : Span). ¬ IsFreeSpan c.args.cutter s c.args.tri.now) span (c.is_free_by.ensures.no held)

pub returns-clause-blocked : goal.returns-clause-blocked
returns-clause-blocked c = λ held.
    let span = read_span c.args.step.now c.args.leaf.d c.args.leaf.k _ _ _ c.stretch_in_x-x.ensures.value c.stretch_in_y-y.ensures.value c.low_end-zlow.ensures.value c.low_end-zlow.ensures.bound in
    subst (λ (s : Span). s.reach ≤ℤ pos MAX_REACH → Blocks c.args.cutter s c.args.tri.now) span (c.is_free_by.ensures.blocked held)
