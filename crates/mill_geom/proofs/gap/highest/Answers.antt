use Rattle.mill_geom.proofs.gap.highest.Goals as goal
use Rattle.mill_geom.proofs.Gaps.{all_up_to}
use Rattle.mill_geom.proofs.Kept.{place_kept}

pub returns-clause-under : goal.returns-clause-under
returns-clause-under c =
    let m = place_kept c.most.result c.most.ensures.bound in
    let a = place_kept c.args.a.z c.requires.a_ok.z_ok in
    let b = place_kept c.args.b.z c.requires.b_ok.z_ok in
    let d = place_kept c.args.c.z c.requires.c_ok.z_ok in
    rw (m, c.most.ensures.value, a, b, d) (all_up_to c.args.a c.args.b c.args.c)
