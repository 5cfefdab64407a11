use Rattle.std.proofs.Common.{◌∙◌, sym, ℕ, List, [], ◌∷◌, refl, arith, w64}
use Rattle.std.proofs.lemmas.Int.{ints}
use Rattle.std.proofs.lemmas.Bool.{false≢true}
use Rattle.mill_base.proofs.Machine.{Read, Prod, prod_fits, less}
use Rattle.mill_geom.specs.Widths.{most_area, most_fall, widest}
use Rattle.mill_geom.proofs.Signs.{low_as, low_back}
use Rattle.mill_geom.proofs.Kept.{place_kept}
use Rattle.mill_geom.proofs.spot.is_low_crossing.Goals as goal

-- how far each number is from 0
bounds : List ℕ
bounds = most_area ∷ widest ∷ most_fall ∷ []

pub overflow_mul-result : goal.overflow_mul-result
unfolding bounds
overflow_mul-result c = prod_fits w64 (c.crossing-y.result ∷ c.args.radius ∷ c.fall-n.result ∷ []) bounds (Read w64 1) (Read w64 2) (c.crossing-y.ensures.bound.within, (c.requires.r_ok.within, (c.fall-n.ensures.bound.within, tt))) refl

pub returns-clause-yes : goal.returns-clause-yes
unfolding bounds
returns-clause-yes c = λ h.
    let test = less (c.crossing-y.result ∷ c.args.radius ∷ c.fall-n.result ∷ []) bounds (Read w64 0) (Prod w64 (Read w64 1) (Read w64 2)) (c.crossing-y.ensures.bound.within, (c.requires.r_ok.within, (c.fall-n.ensures.bound.within, tt))) refl in
    let p_z = place_kept c.args.p.z c.requires.p_ok.z_ok in
    let q_z = place_kept c.args.q.z c.requires.q_ok.z_ok in
    let p_y = place_kept c.args.p.y c.requires.p_ok.y_ok in
    let q_y = place_kept c.args.q.y c.requires.q_ok.y_ok in
    let y_is = rw (p_z, q_z, p_y, q_y) at c.crossing-y.ensures.value in
    let n_is = rw (p_z, q_z) at c.fall-n.ensures.value in
    let p_up = rw p_z at c.if-p-le0.false in
    let q_down = rw q_z at c.if-q-ge0.false in
    record { up = omega (arith, ints); down = omega (arith, ints); below = low_as _ c.args.radius _ _ _ y_is n_is (test.0 h) }

pub returns-clause-no : goal.returns-clause-no
unfolding bounds
returns-clause-no c = λ h t.
    let test = less (c.crossing-y.result ∷ c.args.radius ∷ c.fall-n.result ∷ []) bounds (Read w64 0) (Prod w64 (Read w64 1) (Read w64 2)) (c.crossing-y.ensures.bound.within, (c.requires.r_ok.within, (c.fall-n.ensures.bound.within, tt))) refl in
    let p_z = place_kept c.args.p.z c.requires.p_ok.z_ok in
    let q_z = place_kept c.args.q.z c.requires.q_ok.z_ok in
    let p_y = place_kept c.args.p.y c.requires.p_ok.y_ok in
    let q_y = place_kept c.args.q.y c.requires.q_ok.y_ok in
    let y_is = rw (p_z, q_z, p_y, q_y) at c.crossing-y.ensures.value in
    let n_is = rw (p_z, q_z) at c.fall-n.ensures.value in
    false≢true (sym h ∙ test.1 (low_back _ c.args.radius _ _ _ y_is n_is t.below))
