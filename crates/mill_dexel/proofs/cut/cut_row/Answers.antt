use Rattle.std.proofs.Common.{◌+◌, sym, subst, w32, arith}
use Rattle.std.specs.Prelude.{◌-ℤ◌}
use Rattle.std.proofs.lemmas.Int.{ints}
use Rattle.mill_base.proofs.Machine.{stored}
use Rattle.mill_base.specs.Sizes.{radius_of}
use Rattle.mill_job.specs.Columns.{column_y}
use Rattle.mill_dexel.proofs.CutRows.{IsCutBefore, beyond_keeps, cut_starts, cut_goes_on, cut_ends}
use Rattle.mill_dexel.proofs.Ranges.{stored_within}
use Rattle.mill_dexel.proofs.Reaches.{beyond_same, half_same, reach_same}
use Rattle.mill_dexel.proofs.cut.cut_row.Goals as goal

pub half_chord-requires-clause-y_ok : goal.half_chord-requires-clause-y_ok
half_chord-requires-clause-y_ok c = stored_within c.args.job.now.fields.unit _ c.row_y.ensures.in_range

pub loop-column-init : goal.loop-column-init
loop-column-init c =
    cut_starts c.args.job.now.fields c.args.number c.args.sample (stored w32 c.in-Some.chord) c.reach_by-reach.result.first c.reach_by-reach.result.«end» c.args.tops.now
    (half_same _ _ _ (radius_of c.args.sample.cutter) (column_y c.args.job.now.fields c.args.number -ℤ c.args.sample.tip.y) (stored w32 c.in-Some.chord) (omega (arith, ints)) (omega (arith, ints)) (omega (arith, ints)) c.in-Some.ensures)
    (reach_same c.args.job.now.fields _ _ _ (stored w32 c.in-Some.chord) c.args.sample.tip.x c.args.sample.tip.x c.reach_by-reach.result.first c.reach_by-reach.result.«end»
    (omega (arith, ints)) (omega (arith, ints)) (omega (arith, ints)) c.reach_by-reach.ensures)

pub loop-column-preserved : goal.loop-column-preserved
loop-column-preserved c =
    subst (IsCutBefore c.args.job.now.fields c.args.number c.args.sample (c.loop-column.column + 1) c.args.tops.now) (sym c.cut_column.ensures)
    (cut_goes_on c.args.job.now.fields c.args.number c.args.sample c.loop-column.column c.args.tops.now c.loop-column.tops (omega (arith, c.reach_by-reach.ensures.within)) c.loop-column.invariant)

pub returns : goal.returns
returns c =
    cut_ends c.args.job.now.fields c.args.number c.args.sample (stored w32 c.in-Some.chord) c.reach_by-reach.result.first c.reach_by-reach.result.«end» c.loop-column.column c.args.tops.now c.loop-column.tops
    (half_same _ _ _ (radius_of c.args.sample.cutter) (column_y c.args.job.now.fields c.args.number -ℤ c.args.sample.tip.y) (stored w32 c.in-Some.chord) (omega (arith, ints)) (omega (arith, ints)) (omega (arith, ints)) c.in-Some.ensures)
    (reach_same c.args.job.now.fields _ _ _ (stored w32 c.in-Some.chord) c.args.sample.tip.x c.args.sample.tip.x c.reach_by-reach.result.first c.reach_by-reach.result.«end»
    (omega (arith, ints)) (omega (arith, ints)) (omega (arith, ints)) c.reach_by-reach.ensures)
    c.requires.columns (omega arith) c.loop-column.invariant

pub returns-in_default : goal.returns-in_default
returns-in_default c =
    beyond_keeps c.args.job.now.fields c.args.number c.args.sample c.args.tops.now c.requires.sample_ok.cutter_ok
    (beyond_same _ _ _ _ (radius_of c.args.sample.cutter) c.args.sample.tip.y c.args.sample.tip.y (column_y c.args.job.now.fields c.args.number)
    (omega (arith, ints)) (omega (arith, ints)) (omega (arith, ints)) (omega (arith, ints)) c.in_default.ensures)
