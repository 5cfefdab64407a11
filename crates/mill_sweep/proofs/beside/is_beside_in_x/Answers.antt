use Rattle.std.proofs.Common.{refl, subst, w32}
use Rattle.mill_base.proofs.Machine.{kept}
use Rattle.mill_sweep.specs.Apart.{LieApart}
use Rattle.mill_sweep.specs.declared.gap.Gap.{Gap}
use Rattle.mill_sweep.proofs.Placing.{distance_kept}
use Rattle.mill_base.specs.declared.limits.TheConstants.{MAX_COORDINATE}
use Rattle.mill_sweep.proofs.beside.is_beside_in_x.Goals as goal

abbrev IsWide : Gap → Type 0
IsWide g = LieApart g.distance g.from g.to g.a g.b g.c

pub returns : goal.returns
returns c = λ wide.
    let distance = distance_kept c.args.cutter c.leaf_distance.result c.args.x.farther c.requires.cutter_ok c.requires.x_ok.farther_ok c.leaf_distance.ensures in
    let middle = kept w32 c.args.x.middle MAX_COORDINATE c.requires.x_ok.middle_ok.within refl in
    let gap = rw (distance, middle) at c.gap_in_x.ensures in
    subst IsWide gap (c.is_wide.ensures.yes wide)
