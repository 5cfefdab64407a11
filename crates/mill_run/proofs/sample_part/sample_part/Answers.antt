use Rattle.std.proofs.Common.{◌≡◌, ◌∙◌, []}
use Rattle.mill_paths.proofs.Adding.{counts_all, counts_more}
use Rattle.mill_run.specs.SamplePart.{sample_part, sample_row}
use Rattle.mill_run.proofs.SampleParts.{part_few, part_in_range}
use Rattle.mill_run.proofs.sample_part.sample_part.Goals as goal

pub loop-row-preserved : goal.loop-row-preserved
loop-row-preserved c =
    counts_more (sample_row c.args.size) c.args.size c.loop-row.row [] c.loop-row.tris.items c.add_row.new.tris.items c.loop-row-test.true c.loop-row.invariant c.in_ok-add_row.ensures

pub new-requires-clause-in_range : goal.new-requires-clause-in_range
new-requires-clause-in_range c =
    let whole : c.loop-row.tris.items ≡ sample_part c.args.size =
    counts_all (sample_row c.args.size) c.args.size c.loop-row.row [] c.loop-row.tris.items c.loop-row-test.false c.loop-row.invariant in
    rw whole (part_in_range c.args.size c.requires.few)

pub new-requires-clause-count : goal.new-requires-clause-count
new-requires-clause-count c =
    let whole : c.loop-row.tris.items ≡ sample_part c.args.size =
    counts_all (sample_row c.args.size) c.args.size c.loop-row.row [] c.loop-row.tris.items c.loop-row-test.false c.loop-row.invariant in
    rw whole (part_few c.args.size c.requires.few)

pub returns : goal.returns
returns c = c.new.ensures ∙ counts_all (sample_row c.args.size) c.args.size c.loop-row.row [] c.loop-row.tris.items c.loop-row-test.false c.loop-row.invariant
