use Rattle.std.proofs.Common.{◌∙◌, refl, subst, ap, w32, arith}
use Rattle.std.specs.Prelude.{ℤ, ◌≤ℤ◌}
use Rattle.std.proofs.lemmas.Int.{ints}
use Rattle.mill_base.proofs.Machine.{kept}
use Rattle.mill_base.proofs.Ranges.{within_of_unit}
use Rattle.mill_base.specs.declared.limits.TheConstants.{MAX_COORDINATE}
use Rattle.mill_job.specs.Columns.{column_y}
use Rattle.mill_sweep.specs.Reach.{margin_of}
use Rattle.mill_dexel.specs.inner.Cuts.{IsBeyond}
use Rattle.mill_dexel.specs.Rows.{RowState}
use Rattle.mill_dexel.specs.Tops.{tested_height}
use Rattle.mill_dexel.specs.inner.Passing.{trying}
use Rattle.mill_dexel.proofs.Reaches.{beyond_same}
use Rattle.mill_dexel.proofs.Trials.{read_solid, far_passes_row, passes_beside, passes_none_tried}
use Rattle.mill_dexel.proofs.UncutRows.{low_passes_row}
use Rattle.mill_dexel.proofs.row.Row.first_stop.Goals as goal

pub returns-then-is_apart-clause-first : goal.returns-then-is_apart-clause-first
returns-then-is_apart-clause-first c =
    far_passes_row c.args.job.now.fields (trying c.args.solid c.args.kind c.args.step.now) c.args.self.now
    (read_solid c.args.solid _ _ c.cutter-cutter.ensures.value c.cutter-cutter.ensures.in_range c.lift-lift.ensures.value c.lift-lift.ensures.in_range) c.requires.step
    (subst (λ (r : RowState). IsBeyond (margin_of c.args.solid.cutter) c.args.step.now.from.y c.args.step.now.to.y (column_y c.args.job.now.fields r.row)) c.self.view_is
    (beyond_same _ _ _ _ (margin_of c.args.solid.cutter) c.args.step.now.from.y c.args.step.now.to.y (column_y c.args.job.now.fields c.self.inside.number)
    (ap margin_of c.cutter-cutter.ensures.value) (omega (arith, ints)) (omega (arith, ints)) (omega (arith, ints)) (c.is_apart.ensures c.if-is_apart.true)))

pub returns-then-tested_height-low-clause-first : goal.returns-then-tested_height-low-clause-first
returns-then-tested_height-low-clause-first c =
    let top = kept w32 c.args.job.now.fields.top MAX_COORDINATE (within_of_unit c.args.job.now.fields.unit c.args.job.now.fields.top c.args.job.now.is_job.top_ok).within refl in
    let under : c.tested_height.result ≤ℤ c.lower_end-low.result = omega (arith, ints) in
    low_passes_row c.args.job.now.fields (trying c.args.solid c.args.kind c.args.step.now) c.args.self.now c.lower_end-low.result c.requires.row
    (read_solid c.args.solid _ _ c.cutter-cutter.ensures.value c.cutter-cutter.ensures.in_range c.lift-lift.ensures.value c.lift-lift.ensures.in_range) c.requires.step
    (subst (λ (z : ℤ). z ≤ℤ c.lower_end-low.result) (c.tested_height.ensures.value ∙ ap (tested_height c.args.job.now.fields c.args.kind) top) under) (omega (arith, ints)) (omega (arith, ints))

pub first_tried-requires-clause-beside : goal.first_tried-requires-clause-beside
first_tried-requires-clause-beside c =
    passes_beside c.args.job.now.fields (trying c.args.solid c.args.kind c.args.step.now) c.args.self.now
    (read_solid c.args.solid _ _ c.cutter-cutter.ensures.value c.cutter-cutter.ensures.in_range c.lift-lift.ensures.value c.lift-lift.ensures.in_range) c.requires.step
    c.reach_of-reach.result.first c.first_over-first.result c.reach_of-reach.result.«end» c.lower_end-low.result _ (omega (arith, ints)) (rw c.cutter-cutter.ensures.value at c.reach_of-reach.ensures)
    (omega (arith, ints)) (omega (arith, ints)) c.first_over-first.ensures.before

pub returns-then-first-reach-clause-first : goal.returns-then-first-reach-clause-first
returns-then-first-reach-clause-first c =
    passes_none_tried c.args.job.now.fields (trying c.args.solid c.args.kind c.args.step.now) c.args.self.now c.first_over-first.result c.reach_of-reach.result.«end»
    (passes_beside c.args.job.now.fields (trying c.args.solid c.args.kind c.args.step.now) c.args.self.now
    (read_solid c.args.solid _ _ c.cutter-cutter.ensures.value c.cutter-cutter.ensures.in_range c.lift-lift.ensures.value c.lift-lift.ensures.in_range) c.requires.step
    c.reach_of-reach.result.first c.first_over-first.result c.reach_of-reach.result.«end» c.lower_end-low.result _ (omega (arith, ints)) (rw c.cutter-cutter.ensures.value at c.reach_of-reach.ensures)
    (omega (arith, ints)) (omega (arith, ints)) c.first_over-first.ensures.before)
    c.if-first-reach.true
