use Rattle.std.proofs.Common.{◌^◌, refl, FitsSigned, rules}
use mir.Syntax.{w32}
use lib.IntN.{negsuc, pos}
use Rattle.std.proofs.lemmas.Int.{to_z-of_z}
use Rattle.mill_part.proofs.ColumnCerts.{mean_least, mean_most}
use Rattle.mill_part.proofs.Stored.{coordinate_bounds, sum3_is, sum3_fits, weighted_is, heights_are}
use Rattle.mill_part.proofs.column.mean_height.Goals as goal

pub overflow_add-heights-2 : goal.overflow_add-heights-2
overflow_add-heights-2 c = sum3_fits (2 ^ 60) c.weighted.result c.weighted-2.result c.weighted-3.result c.weighted.ensures.bound c.weighted-2.ensures.bound c.weighted-3.ensures.bound refl

pub overflow_add-u-2 : goal.overflow_add-u-2
overflow_add-u-2 c = sum3_fits (2 ^ 41) c.args.u c.args.v c.args.w c.requires.u_ok c.requires.v_ok c.requires.w_ok refl

pub floor_height-requires-clause-some : goal.floor_height-requires-clause-some
floor_height-requires-clause-some c = rw (sum3_is (2 ^ 41) c.args.u c.args.v c.args.w c.requires.u_ok c.requires.v_ok c.requires.w_ok refl) c.requires.some

pub floor_height-requires-clause-least : goal.floor_height-requires-clause-least
floor_height-requires-clause-least c =
    let a = weighted_is c.args.u c.args.tri.now.a.z c.weighted.result c.requires.u_ok c.requires.tri_ok.a_ok.z_ok c.weighted.ensures.value in
    let b = weighted_is c.args.v c.args.tri.now.b.z c.weighted-2.result c.requires.v_ok c.requires.tri_ok.b_ok.z_ok c.weighted-2.ensures.value in
    let d = weighted_is c.args.w c.args.tri.now.c.z c.weighted-3.result c.requires.w_ok c.requires.tri_ok.c_ok.z_ok c.weighted-3.ensures.value in
    rw (
      sum3_is (2 ^ 41) c.args.u c.args.v c.args.w c.requires.u_ok c.requires.v_ok c.requires.w_ok refl,
      heights_are c.args.u c.args.v c.args.w c.args.tri.now.a.z c.args.tri.now.b.z c.args.tri.now.c.z c.weighted.result c.weighted-2.result c.weighted-3.result
          c.weighted.ensures.bound c.weighted-2.ensures.bound c.weighted-3.ensures.bound a b d,
    )
    (mean_least c.args.u c.args.v c.args.w c.args.tri.now.a.z c.args.tri.now.b.z c.args.tri.now.c.z (negsuc 524286) c.requires.u_least c.requires.v_least c.requires.w_least
    (coordinate_bounds _ c.requires.tri_ok.a_ok.z_ok).0 (coordinate_bounds _ c.requires.tri_ok.b_ok.z_ok).0 (coordinate_bounds _ c.requires.tri_ok.c_ok.z_ok).0)

pub floor_height-requires-clause-most : goal.floor_height-requires-clause-most
floor_height-requires-clause-most c =
    let a = weighted_is c.args.u c.args.tri.now.a.z c.weighted.result c.requires.u_ok c.requires.tri_ok.a_ok.z_ok c.weighted.ensures.value in
    let b = weighted_is c.args.v c.args.tri.now.b.z c.weighted-2.result c.requires.v_ok c.requires.tri_ok.b_ok.z_ok c.weighted-2.ensures.value in
    let d = weighted_is c.args.w c.args.tri.now.c.z c.weighted-3.result c.requires.w_ok c.requires.tri_ok.c_ok.z_ok c.weighted-3.ensures.value in
    rw (
      sum3_is (2 ^ 41) c.args.u c.args.v c.args.w c.requires.u_ok c.requires.v_ok c.requires.w_ok refl,
      heights_are c.args.u c.args.v c.args.w c.args.tri.now.a.z c.args.tri.now.b.z c.args.tri.now.c.z c.weighted.result c.weighted-2.result c.weighted-3.result
          c.weighted.ensures.bound c.weighted-2.ensures.bound c.weighted-3.ensures.bound a b d,
    )
    (mean_most c.args.u c.args.v c.args.w c.args.tri.now.a.z c.args.tri.now.b.z c.args.tri.now.c.z (pos 524287) c.requires.u_least c.requires.v_least c.requires.w_least
    (coordinate_bounds _ c.requires.tri_ok.a_ok.z_ok).1 (coordinate_bounds _ c.requires.tri_ok.b_ok.z_ok).1 (coordinate_bounds _ c.requires.tri_ok.c_ok.z_ok).1)

pub returns : goal.returns
returns c =
    let a = weighted_is c.args.u c.args.tri.now.a.z c.weighted.result c.requires.u_ok c.requires.tri_ok.a_ok.z_ok c.weighted.ensures.value in
    let b = weighted_is c.args.v c.args.tri.now.b.z c.weighted-2.result c.requires.v_ok c.requires.tri_ok.b_ok.z_ok c.weighted-2.ensures.value in
    let d = weighted_is c.args.w c.args.tri.now.c.z c.weighted-3.result c.requires.w_ok c.requires.tri_ok.c_ok.z_ok c.weighted-3.ensures.value in
    let fits : FitsSigned w32 c.floor_height.result = search rules in
    let floor = rw (
      sum3_is (2 ^ 41) c.args.u c.args.v c.args.w c.requires.u_ok c.requires.v_ok c.requires.w_ok refl,
      heights_are c.args.u c.args.v c.args.w c.args.tri.now.a.z c.args.tri.now.b.z c.args.tri.now.c.z c.weighted.result c.weighted-2.result c.weighted-3.result
          c.weighted.ensures.bound c.weighted-2.ensures.bound c.weighted-3.ensures.bound a b d,
    ) at c.floor_height.ensures in
    rw (to_z-of_z w32 c.floor_height.result fits) floor
