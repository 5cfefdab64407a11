use Rattle.std.proofs.Common.{ap, arith}
use Rattle.std.specs.Prelude.{ℤ, slice_set}
use Rattle.std.proofs.lemmas.Int.{ints}
use mir.Syntax.{w32}
use Rattle.mill_base.proofs.Machine.{stored}
use Rattle.mill_shape.proofs.CutHeights.{cutter_is_wide}
use Rattle.mill_dexel.specs.Rows.{top_at}
use Rattle.mill_dexel.proofs.CutRows.{lowered_is, kept_is, free_is, clear_is}
use Rattle.mill_dexel.proofs.Ranges.{stored_within}
use Rattle.mill_base.specs.declared.limits.TheConstants.{MAX_RADIUS}
use Rattle.mill_dexel.proofs.cut.cut_column.Goals as goal

pub returns-then-is_free : goal.returns-then-is_free
returns-then-is_free c = free_is c.args.job.now.fields c.args.number c.args.column c.args.sample c.args.tops.now c.requires.sample_ok.cutter_ok
    (omega (arith, ints, c.is_free.ensures.low c.if-is_free.true)) (omega (arith, ints, c.is_free.ensures.high c.if-is_free.true))

pub is_clear-requires-clause-x_ok : goal.is_clear-requires-clause-x_ok
is_clear-requires-clause-x_ok c = stored_within c.args.job.now.fields.unit _ c.column_x-x.ensures.in_range

pub is_clear-requires-clause-y_ok : goal.is_clear-requires-clause-y_ok
is_clear-requires-clause-y_ok c = stored_within c.args.job.now.fields.unit _ c.row_y-y.ensures.in_range

pub cut_height-requires-clause-x_ok : goal.cut_height-requires-clause-x_ok
cut_height-requires-clause-x_ok c = stored_within c.args.job.now.fields.unit _ c.column_x-x.ensures.in_range

pub cut_height-requires-clause-y_ok : goal.cut_height-requires-clause-y_ok
cut_height-requires-clause-y_ok c = stored_within c.args.job.now.fields.unit _ c.row_y-y.ensures.in_range

pub cut_height-requires-clause-cutter_ok : goal.cut_height-requires-clause-cutter_ok
cut_height-requires-clause-cutter_ok c = cutter_is_wide c.args.sample.cutter MAX_RADIUS (omega (arith, ints)) c.requires.sample_ok.cutter_ok

pub returns-in-Some : goal.returns-in-Some
returns-in-Some c =
    let top = top_at c.args.tops.now c.args.column in
    ap (λ (t : ℤ). slice_set c.args.tops.now c.args.column t)
    (lowered_is c.args.job.now.fields c.args.number c.args.column c.args.sample c.args.tops.now (stored w32 c.column_x-x.result) (stored w32 c.row_y-y.result)
    c.in-Some.height (stored w32 top) (stored w32 c.in-Some.height) c.min.result (stored w32 c.min.result) (stored w32 c.args.job.now.fields.floor) c.max.result (stored w32 c.max.result)
    c.in-Some.ensures.value (omega (arith, ints)) (omega (arith, ints)) (omega (arith, ints)) (omega (arith, ints))
    c.min.ensures.value (omega (arith, ints)) (omega (arith, ints)) c.max.ensures.value (omega (arith, ints)))

pub returns-in_default : goal.returns-in_default
returns-in_default c =
    kept_is c.args.job.now.fields c.args.number c.args.column c.args.sample c.args.tops.now (stored w32 c.column_x-x.result) (stored w32 c.row_y-y.result)
    c.in_default.ensures.value (omega (arith, ints)) (omega (arith, ints))

pub returns-then-is_clear : goal.returns-then-is_clear
returns-then-is_clear c =
    let top = top_at c.args.tops.now c.args.column in
    clear_is c.args.job.now.fields c.args.number c.args.column c.args.sample c.args.tops.now (stored w32 c.column_x-x.result) (stored w32 c.row_y-y.result) (stored w32 top)
    c.requires.sample_ok.cutter_ok (omega (arith, ints)) (omega (arith, ints)) (omega (arith, ints))
    (omega (arith, ints, c.is_clear.ensures.low c.if-is_clear.true)) (c.is_clear.ensures.outside c.if-is_clear.true)
