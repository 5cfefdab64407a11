use Rattle.std.proofs.Common.{inl, inr, arith}
use Rattle.std.proofs.lemmas.Int.{ints}
use Rattle.mill_geom.proofs.Kept.{lift_kept}
use Rattle.mill_geom.proofs.level.is_alone.Goals as goal

pub returns-then-p-gt0-clause-yes : goal.returns-then-p-gt0-clause-yes
returns-then-p-gt0-clause-yes c = λ h.
    let p_kept = lift_kept c.args.p.z c.requires.p_ok.z_ok in
    let q_kept = lift_kept c.args.q.z c.requires.q_ok.z_ok in
    let s_kept = lift_kept c.args.s.z c.requires.s_ok.z_ok in
    let p_up = rw p_kept at c.if-p-gt0.true in
    let q_down = rw q_kept at c.if-q-gt0.false in
    let s_down = rw s_kept at h in
    inl (omega (arith, ints), (omega (arith, ints), omega (arith, ints)))

pub returns-clause-yes : goal.returns-clause-yes
returns-clause-yes c = λ h.
    let p_kept = lift_kept c.args.p.z c.requires.p_ok.z_ok in
    let q_kept = lift_kept c.args.q.z c.requires.q_ok.z_ok in
    let s_kept = lift_kept c.args.s.z c.requires.s_ok.z_ok in
    let p_down = rw p_kept at c.if-p-ge0.false in
    let q_up = rw q_kept at c.if-q-le0.false in
    let s_up = rw s_kept at h in
    inr (omega (arith, ints), (omega (arith, ints), omega (arith, ints)))
