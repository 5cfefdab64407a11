use Rattle.std.proofs.Common.{rules, sym, subst, w32}
use Rattle.std.proofs.lemmas.Int.{to_z-of_z}
use Rattle.mill_base.specs.Covers.{IsUnder}
use Rattle.mill_push.proofs.Reaching.{top_or}
use Rattle.mill_push.proofs.reach.reach_over.Goals as goal

pub returns : goal.returns
returns c =
    let z = to_z-of_z w32 c.args.z c.ranges.z in
    let top = c.unwrap_or.result in
    let value = rw z at c.unwrap_or.ensures in
    let reach = rw (z, to_z-of_z w32 top (search rules)) at c.reach_up_to.ensures in
    rw (to_z-of_z w32 c.reach_up_to.result (search rules)) (record {
      top = top;
      under = subst (IsUnder c.args.part.now) (sym value) (top_or c.args.part.now c.top.result c.args.z c.top.ensures.none.0 c.top.ensures.greatest);
      holds = reach;
    })
