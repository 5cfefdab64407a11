use Rattle.std.proofs.Common.{◌<◌, ◌≤◌, length, map, subst}
use Rattle.std.specs.Prelude.{pos}
use Rattle.mill_drop.proofs.RowLemmas.{zip_all}
use Rattle.mill_job.specs.Jobs.{tool_of}
use Rattle.mill_level.specs.Waterlines.{IsWaterline, seen}
use Rattle.mill_paths.specs.Lattices.{finish_lattice}
use Rattle.mill_paths.proofs.Gathered.{made_more}
use Rattle.mill_paths.proofs.waterlines.waterlines_alone.Goals as goal

pub waterline_at-requires : goal.waterline_at-requires
waterline_at-requires c = subst (λ zs. c.loop-number.number < length zs) c.as_slice-number-end.ensures.list c.loop-number-test.true

pub loop-number-preserved : goal.loop-number-preserved
loop-number-preserved c =
    let inside = subst (λ zs. c.loop-number.number < length zs) c.as_slice-number-end.ensures.list c.loop-number-test.true in
    made_more (λ z outlines. IsWaterline (tool_of c.args.job.now.fields) c.args.part.now z (finish_lattice c.args.job.now.fields) outlines) (λ chains. map seen chains.items) c.args.job.now.fields.levels
    c.loop-number.waterlines.items c.push.new.self.items c.loop-number.number (pos 0) c.in_ok-chains.chains inside c.loop-number.invariant c.in_ok-chains.ensures c.in_ok-push.ensures.items

pub returns : goal.returns
returns c =
    let end = subst (λ zs. length zs ≤ c.loop-number.number) c.as_slice-number-end.ensures.list c.loop-number-test.false in
    zip_all (λ z outlines. IsWaterline (tool_of c.args.job.now.fields) c.args.part.now z (finish_lattice c.args.job.now.fields) outlines) c.args.job.now.fields.levels
    (map (λ chains. map seen chains.items) c.loop-number.waterlines.items) c.loop-number.number end c.loop-number.invariant
