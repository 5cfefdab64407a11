use Rattle.std.proofs.Common.{◌^◌, refl, FitsSigned, rules, arith}
use mir.Syntax.{w32, w64}
use Rattle.std.proofs.lemmas.Int.{ints, to_z-of_z}
use Rattle.mill_base.proofs.Machine.{kept}
use Rattle.mill_part.proofs.FloorLemmas.{mean_greatest}
use Rattle.mill_part.proofs.column.face_height.Goals as goal

pub returns : goal.returns
returns c =
    let u = kept w64 c.args.u (2 ^ 41) c.requires.u_ok.within refl in
    let v = kept w64 c.args.v (2 ^ 41) c.requires.v_ok.within refl in
    let w = kept w64 c.args.w (2 ^ 41) c.requires.w_ok.within refl in
    let uo = rw u at c.if-u-lt0.false in
    let vo = rw v at c.if-v-lt0.false in
    let wo = rw w at c.if-w-lt0.false in
    let fits : FitsSigned w32 c.mean_height.result = search rules in
    rw (to_z-of_z w32 c.mean_height.result fits) (mean_greatest c.args.tri.now c.args.u c.args.v c.args.w c.mean_height.result
    (omega (arith, ints)) (omega (arith, ints)) (omega (arith, ints)) c.requires.some (rw (u, v, w) at c.mean_height.ensures))
