use Rattle.std.proofs.Common.{rules, sym, subst}
use lib.IntN.{ℤ}
use Rattle.mill_base.specs.Numbers.{Within}
use Rattle.mill_base.specs.declared.limits.TheConstants.{MAX_COORDINATE}
use Rattle.mill_sweep.proofs.Sides.{low_stored, low_within}
use Rattle.mill_sweep.proofs.reach.low_side.Goals as goal

pub returns-clause-value : goal.returns-clause-value
returns-clause-value c =
    low_stored c.max.result c.min.result c.args.from c.args.to c.args.margin (search rules) (search rules) c.ranges.from c.ranges.to c.ranges.margin c.requires.from_ok c.requires.to_ok c.requires.margin_ok
    c.min.ensures.value c.max.ensures.value

pub returns-clause-bound : goal.returns-clause-bound
returns-clause-bound c = subst (λ (z : ℤ). Within MAX_COORDINATE z) (sym (returns-clause-value c)) (low_within c.args.from c.args.to c.args.margin c.requires.from_ok c.requires.margin_least)
