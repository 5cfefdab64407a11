use Rattle.mill_paths.proofs.Adding.{counts_all, counts_more}
use Rattle.mill_run.specs.SamplePart.{sample_square}
use Rattle.mill_run.proofs.sample_part.add_row.Goals as goal

pub loop-column-preserved : goal.loop-column-preserved
loop-column-preserved c =
    counts_more (sample_square c.args.row) c.args.size c.loop-column.column c.args.tris.now.items c.loop-column.tris.items c.add_square.new.tris.items c.loop-column-test.true c.loop-column.invariant
    c.in_ok-add_square.ensures

pub returns : goal.returns
returns c = counts_all (sample_square c.args.row) c.args.size c.loop-column.column c.args.tris.now.items c.loop-column.tris.items c.loop-column-test.false c.loop-column.invariant
