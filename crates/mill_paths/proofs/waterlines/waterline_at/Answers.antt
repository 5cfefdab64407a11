use Rattle.std.proofs.Common.{rules}
use Rattle.std.specs.Prelude.{pos}
use Rattle.mill_base.proofs.Ranges.{coordinate}
use Rattle.mill_base.specs.Numbers.{Within}
use Rattle.mill_base.specs.declared.limits.TheConstants.{MAX_COORDINATE}
use Rattle.mill_paths.specs.inner.Levels.{level_at}
use Rattle.mill_paths.proofs.Kept.{level_in_range}
use Rattle.mill_paths.proofs.waterlines.waterline_at.Goals as goal

pub waterline-requires-clause-z_ok : goal.waterline-requires-clause-z_ok
waterline-requires-clause-z_ok c =
    let in_range : Within MAX_COORDINATE (level_at c.args.job.now.fields c.args.number) = level_in_range c.args.job.now.fields c.args.number (pos 0) c.args.job.now.is_job c.requires in
    rw (c.as_slice.ensures.list, coordinate (level_at c.args.job.now.fields c.args.number) in_range) in_range

pub returns : goal.returns
returns c =
    let in_range : Within MAX_COORDINATE (level_at c.args.job.now.fields c.args.number) = level_in_range c.args.job.now.fields c.args.number (pos 0) c.args.job.now.is_job c.requires in
    let made = rw (c.as_slice.ensures.list, coordinate (level_at c.args.job.now.fields c.args.number) in_range, c.finish_lattice-lattice.ensures, c.tool-tool.ensures) at c.waterline.ensures.chains in
    search (rules, made)
