use Rattle.std.proofs.Common.{ap, map, ◌∙◌, arith}
use Rattle.std.proofs.lemmas.List.{take_all}
use Rattle.mill_document.specs.Details.{top_met}
use Rattle.mill_document.proofs.Naming.{names_column}
use Rattle.mill_document.proofs.Tops.{inside_of, later, met_is, met_more}
use Rattle.mill_base.proofs.Ranges.{coordinate}
use Rattle.mill_dexel.specs.Tops.{uncut}
use Rattle.mill_verify.specs.Tests.{stock_met}
use Rattle.mill_document.proofs.met.tops_on.Goals as goal

pub top_of-requires-clause-column : goal.top_of-requires-clause-column
top_of-requires-clause-column c =
    names_column c.args.job.now.fields c.args.part.now c.args.moves.now _ (c.requires.found.each c.loop-index.index _ c.loop-index-test.true)

pub loop-index-preserved : goal.loop-index-preserved
loop-index-preserved c = record {
  stock = c.cut_moves.ensures.stock;
  rows_ok = c.cut_moves.ensures.rows_ok;
  inside = rw c.move_number-next.ensures (inside_of c.args.job.now.fields c.args.part.now c.args.moves.now c.args.found.now c.loop-index.index _ c.requires.found.each c.loop-index-test.true);
  ahead = λ k other high there. rw c.move_number-next.ensures (later c.args.found.now c.loop-index.index _ c.requires.found.order k other high there);
  tops = c.in_ok-push.ensures.items
      ∙ met_more c.args.job.now.fields c.args.moves.now c.args.found.now c.loop-index.index _ c.loop-index.tops.items _ c.loop-index-test.true c.loop-index.invariant.tops
      (coordinate _ c.top_of.ensures.in_range
      ∙ met_is c.args.job.now.fields c.args.moves.now c.args.found.now c.loop-index.index c.move_number-next.result _ c.top_of.result c.move_number-next.ensures
      (c.top_of.ensures.top (stock_met c.args.job.now.fields (uncut c.args.job.now.fields) c.args.moves.now c.move_number-next.result) c.cut_moves.ensures.stock));
}

pub returns : goal.returns
returns c = c.loop-index.invariant.tops ∙ ap (map (top_met c.args.job.now.fields c.args.moves.now)) (take_all c.loop-index.index c.args.found.now (omega arith))
